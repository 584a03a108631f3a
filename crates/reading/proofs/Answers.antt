-- What the calls answer, way by way: each law in the shape of a need of the code. Assumes nothing.
use mathlib.Core.Path.{◌≡◌, refl, sym, ap, ap₂, subst, ◌∙◌}
use mathlib.Core.{Bool.Bool, Bool.true, Bool.false, List.List}
use Prim.Native.Nat.{ℕ, max, ◌+◌, ◌-◌, ◌/◌, ◌^◌, ◌≤◌, ◌<◌}
use native.Mathlib.Omega.{arith}
use lib.{Dec.eqb, Dec.ltb, ListN.length, ListN.get_or, ListN.replicate}
use borrow.Author.Tests.{lt-ltb, le-ltb, ne_eqb}
use Rattle.std.specs.Prelude.{Result, Ok, Err, IsErrAnd}
use Rattle.refusal.specs.declared.{Broken.Broken, Refusal.Refusal}
use Rattle.refusal.specs.declared.Refusal.TheVariants as refusal
use Rattle.octets.specs.{Choice.either, Size.is_size, Bytes.put_at}
use Rattle.element.specs.declared.Next.{Next}
use Rattle.element.specs.Form.{Role, Step, element_of}
use Rattle.frame.specs.Frame.{Framed, framed_of, payload_of}
use Rattle.frame.proofs.Format.{fits}
use Rattle.field.specs.Cell.{Cell}
use Rattle.message.specs.{Fields.fields_of, Reading.gravest, Reading.crossed, Code.Cells.cells_at, Code.Cells.places_of, Code.Cells.command_at}
use Rattle.notes.specs.declared.Noted.{Noted}
use Rattle.notes.specs.Code.Noted.{broken_at, opened_of, noted_of, commanded}
use Rattle.bodies.specs.declared.Graded.{Graded}
use Rattle.bodies.specs.Code.Read.{Read, look_for, read_of}
use Rattle.record.specs.declared.{Message.Message, Counted.Counted}
use Rattle.record.specs.{Record.message_of, Record.data_of, Reading.Reading, Reading.reading_by, Reading.refusal_of, Reading.reading_unless, Code.Places.reading_at, Code.Places.answer_by, Code.Places.answer_at}
use Rattle.record.specs.Meant.{Answered, breaks, refuses, answer_of, lent_size, Meant}
use Rattle.record.proofs.Answered.{answer_meant}
use Rattle.reading.specs.Code.Ways.{Enters, lent_after, fields_by, named_by, stepped_by}
use Rattle.reading.specs.Framed.{MeantFramed}
use Rattle.reading.proofs.{Lending.enters, Lending.lent_is, Framing.refused_meant, Framing.whole_meant}

abbrev Told : Type 0
Told = Result Counted Broken

-- a refusal that no byte's place belongs to
abbrev refused : Refusal → Told
refused r = Err (record { refusal = r; place = 0 })

-- what is told, and the lent bytes afterwards
abbrev answer : Told → List ℕ → Answered
answer t e = record { told = t; lent = e }

-- the fields of a command: what is read of them, g, decides by its gravest fault
module _ (s places : List ℕ) (c : ℕ) (g : Graded) (user : List ℕ) (eg : ◌≡◌ {A = Read} (record { graded = g; user = user }) (read_of s places c (replicate 245 0))) (count : ℕ) (d : List ℕ) where
  abbrev look : List ℕ → Cell
  look = look_for s places c

  worst_is : g.worst ≡ max (gravest 0 0 (fields_of c) (cells_at (fields_of c) s places)) (crossed (fields_of c) look)
  unfolding read_of
  worst_is = ap (λ (x : Read). x.graded.worst) eg

  message_is : g.message ≡ message_of c look
  unfolding read_of
  message_is = ap (λ (x : Read). x.graded.message) eg

  by_worst : answer_of count d (reading_unless g.worst (message_of c look) (data_of c look)) ≡ fields_by s places c count d
  unfolding fields_by
  by_worst = ap (λ (n : ℕ). answer_of count d (reading_unless n (message_of c look) (data_of c look))) worst_is

  pub fields_refused : (n : Refusal) (t : Told) → (g.worst ≡ 0 → ⊥) → n ≡ refusal_of (g.worst / 64) → t ≡ refused n → answer t d ≡ fields_by s places c count d
  fields_refused n t z e q = ap (λ (y : Told). answer y d) (q ∙ ap refused e) ∙ (simp (ne_eqb g.worst 0 z) at by_worst)

  pub fields_enter : (m : Message) → m ≡ g.message → Enters s places m.body
  fields_enter m e = subst (λ (x : Message). Enters s places x.body) (sym (e ∙ message_is)) (enters s places d c)

  pub fields_read : (l : List ℕ) → g.worst ≡ 0 → l ≡ lent_after s places g.message.body user d
      → answer (Ok (record { count = count; message = g.message })) l ≡ fields_by s places c count d
  unfolding read_of
  fields_read l z e =
      let a : l ≡ put_at d 0 (data_of c look) =
      e ∙ ap (λ (x : Read). lent_after s places x.graded.message.body x.user d) eg
      ∙ lent_is s places d c (omega (arith, worst_is)) in
      ap₂ (λ (y : Message) (v : List ℕ). answer (Ok (record { count = count; message = y })) v) message_is a ∙ (rw z at by_worst)

-- the command
module _ (s places : List ℕ) (count : ℕ) (d : List ℕ) (r : Result ℕ Refusal) (is_command : r ≡ commanded (command_at s (get_or places 0 0))) where
  abbrev number : ℕ
  number = command_at s (get_or places 0 0)

  abbrev fields : ℕ → Answered
  fields c = fields_by s places c count d

  -- what is answered of a command, and of a refusal
  abbrev told : Result ℕ Refusal → Answered
  told (Ok c) = fields c
  told (Err k) = answer (refused k) d

  by_command : told (commanded number) ≡ named_by s places count d
  unfolding named_by reading_at fields_by commanded
  by_command = go (ltb number 24) (eqb number 24)
    where
      go : (x y : Bool) → told (either x (λ _. Ok number) (λ _. either y (λ _. Err refusal.UnknownCommand) (λ _. Err refusal.NoCommand)))
          ≡ answer_of count d (either x (λ _. reading_by number (fields_of number) (cells_at (fields_of number) s places))
          (λ _. either y (λ _. Reading.refused refusal.UnknownCommand) (λ _. Reading.refused refusal.NoCommand)))
      go true y = refl
      go false true = refl
      go false false = refl

  pub named_known : (a : Answered) (k : ℕ) → r ≡ Ok k → a ≡ fields_by s places k count d → a ≡ named_by s places count d
  named_known a k h e = e ∙ ap told (sym h ∙ is_command) ∙ by_command

  pub named_refused : (t : Told) (k : Refusal) → r ≡ Err k → t ≡ refused k → answer t d ≡ named_by s places count d
  named_refused t k h e = ap (λ (y : Told). answer y d) e ∙ ap told (sym h ∙ is_command) ∙ by_command

-- the walk's answer
module _ (s places d : List ℕ) (x : Step) where
  pub stepped_broken : (t : Told) (b : Broken) → x ≡ Err b → IsErrAnd t (λ y. y ≡ b) → answer t d ≡ stepped_by s places d x
  unfolding stepped_by
  stepped_broken (Ok y) b h e = absurd e
  stepped_broken (Err y) b h e = ap (λ (z : Broken). answer (Err z) d) e ∙ sym (rw h)

  module _ (n : Next) (h : x ≡ Ok n) where
    pub stepped_more : n.at < length s → breaks (record { refusal = refusal.LeftOver; place = n.at }) d ≡ stepped_by s places d x
    unfolding stepped_by
    stepped_more l = sym (rw h (simp (lt-ltb n.at (length s) l)))

    pub stepped_named : (a : Answered) → length s ≤ n.at → a ≡ named_by s places n.count d → a ≡ stepped_by s places d x
    unfolding stepped_by
    stepped_named a l e = e ∙ sym (rw h (simp (le-ltb n.at (length s) l)))

pub ruleset ways = (fields_refused, fields_enter, fields_read, named_known, named_refused, stepped_broken, stepped_more, stepped_named)

-- the walk and the places, together
step_answer : (s d : List ℕ) (x : Step) → stepped_by s (places_of s) d x ≡ answer_by s d x
unfolding stepped_by named_by
step_answer s d (Ok n) = refl
step_answer s d (Err b) = refl

noted_answer : (s d : List ℕ) → lent_size ≤ length d → stepped_by s (noted_of s).places d (noted_of s).step ≡ answer_at s d
unfolding stepped_by answer_at noted_of opened_of
noted_answer s d l = simp (le-ltb (length d) lent_size l) (go (is_size (length s)))
  where
    go : (a : Bool)
        → stepped_by s (either a (λ _. opened_of s) (λ _. broken_at refusal.Size)).places d (either a (λ _. opened_of s) (λ _. broken_at refusal.Size)).step
        ≡ either a (λ _. answer_by s d (element_of s 8 Role.outer 0 0)) (λ _. refuses refusal.Size d)
    go true = step_answer s d (element_of s 8 Role.outer 0 0)
    go false = refl

module _ (s d : List ℕ) where
  pub read_short : (t : Told) → length d < lent_size → t ≡ refused refusal.Invalid → Meant s d (answer t d)
  unfolding answer_at
  read_short t l e =
      let q : answer_at s d ≡ answer t d = simp (lt-ltb (length d) lent_size l) (ap (λ (y : Told). answer y d) (sym e)) in
      rw q at (answer_meant s d)

  pub read_meant : (n : Noted) (a : Answered) → lent_size ≤ length d → n ≡ noted_of s → a ≡ stepped_by s n.places d n.step → Meant s d a
  read_meant n a l en ea =
      let q : answer_at s d ≡ a = sym (ea ∙ ap (λ (y : Noted). stepped_by s y.places d y.step) en ∙ noted_answer s d l) in
      rw q at (answer_meant s d)

-- the frame
module _ (s d : List ℕ) (f : Framed) (e : f ≡ framed_of s) where
  pub framed_refused : (k : Refusal) (t : Told) → f ≡ Err k → t ≡ refused k → MeantFramed s d (record { used = 0; told = t }) d
  framed_refused k t h q = refused_meant s d k (sym e ∙ h) t q

  module _ (n : ℕ) (h : f ≡ Ok n) where
    pub framed_whole : (p : List ℕ) (t : Told) (l : List ℕ) → p ≡ payload_of n s → Meant p d (answer t l) → MeantFramed s d (record { used = 12 + n; told = t }) l
    framed_whole p t l q m = whole_meant s d n (sym e ∙ h) t l (subst (λ (y : List ℕ). Meant y d (answer t l)) q m)

    pub framed_fits : length s < 2 ^ 64 → 12 + n < 2 ^ 64
    framed_fits l = omega (arith, fits s n (sym e ∙ h))

pub ruleset reads = (read_short, read_meant, framed_refused, framed_whole, framed_fits)
