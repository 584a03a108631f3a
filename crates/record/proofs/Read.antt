-- Whatever is read is a record that fits, with the bytes that were read at the start of those lent, so a record that was read is never refused for
-- writing. A reading that succeeds found no fault, so its record is one of cells without a fault (proofs/Built). Assumes nothing.
use mathlib.Core.Path.{◌≡◌, refl, sym, ap, ◌∙◌}
use mathlib.Core.{Bool.Bool, Bool.true, Bool.false, Option.Option, Option.some, Option.none}
use mathlib.Core.List.{List, [], ◌++◌, append-nil}
use Prim.Native.Nat.{ℕ, ◌+◌, ◌/◌, ◌≤◌, max}
use native.Mathlib.Omega.{arith}
use lib.Dec.{T, eqb, ltb, eqb→eq}
use lib.ListN.{length, take, drop, take-append-drop}
use Rattle.refusal.specs.declared.Refusal.{Refusal, TheVariants.UnknownCommand}
use Rattle.octets.specs.{Choice.either, Bytes.put_at}
use Rattle.octets.proofs.Writing.{put_in}
use Rattle.element.specs.Meaning.{Fields}
use Rattle.names.specs.Names.{bytes, command_of}
use Rattle.field.specs.Cell.{Said}
use Rattle.message.specs.Fields.{fields_of}
use Rattle.message.specs.Reading.{said_of, cells_of, gravest, crossed, command_said}
use Rattle.saying.proofs.Found.{AllSound, all_sound, found}
use Rattle.record.specs.declared.Message.{Message}
use Rattle.record.specs.{Record.message_of, Record.data_of, Fits.fits, Meant.lent_size, Lent.lent_of}
use Rattle.record.specs.Reading.{Reading, refusal_of, reading_unless, reading_as, reading_named, reading_of}
use Rattle.record.proofs.Built.{command_fits, command_lends}

refused_reads : {A : Type 0} {n : Refusal} {m : Message} {e : List ℕ} → Reading.refused n ≡ Reading.reads m e → A
refused_reads q = let z : ◌≡◌ {A = ℕ} 0 1 = cc in absurd (omega arith)

-- the reading of a command without a fault
record Came (said : List ℕ → Said) (m : Message) (e : List ℕ) : Type 0 where
  number : ℕ
  less : T (ltb number 24)
  sound : AllSound said (fields_of number)
  uncrossed : crossed (fields_of number) (found said number) ≡ 0
  name : List ℕ
  named : command_said (said (bytes "command")) ≡ some name
  message : message_of number (found said number) ≡ m
  beside : data_of number (found said number) ≡ e

module _ (said : List ℕ → Said) (n : List ℕ) (named : command_said (said (bytes "command")) ≡ some n) (m : Message) (e : List ℕ) where
  abbrev grade : ℕ → ℕ
  grade c = max (gravest 0 0 (fields_of c) (cells_of (fields_of c) said)) (crossed (fields_of c) (found said c))

  judged_came : (c g : ℕ) → T (ltb c 24) → grade c ≡ g → reading_unless g (message_of c (found said c)) (data_of c (found said c)) ≡ Reading.reads m e → Came said m e
  judged_came c g h q r = go (eqb g 0) refl r
    where
      go : (b : Bool) → eqb g 0 ≡ b
          → either b (λ _. Reading.reads (message_of c (found said c)) (data_of c (found said c))) (λ _. Reading.refused (refusal_of (g / 64))) ≡ Reading.reads m e → Came said m e
      go true z r =
          let none-grave : max (gravest 0 0 (fields_of c) (cells_of (fields_of c) said)) (crossed (fields_of c) (found said c)) ≡ 0 = q ∙ eqb→eq g 0 (rw z tt) in
          record {
            number = c;
            less = h;
            sound = all_sound said (fields_of c) 0 0 (omega arith);
            uncrossed = omega arith;
            name = n;
            named = named;
            message = cc r;
            beside = cc r;
          }
      go false z r = refused_reads r

  named_came : (c : ℕ) (b : Bool) → ltb c 24 ≡ b → either b (λ _. reading_as c said) (λ _. Reading.refused UnknownCommand) ≡ Reading.reads m e → Came said m e
  unfolding reading_as
  named_came c true h r = judged_came c (grade c) (rw h tt) refl r
  named_came c false h r = refused_reads r

module _ (fs : Fields) (m : Message) (e : List ℕ) (r : reading_of fs ≡ Reading.reads m e) where
  came : Came (λ k. said_of k fs) m e
  unfolding reading_of
  came = go (command_said (said_of (bytes "command") fs)) refl r
    where
      go : (o : Option (List ℕ)) → command_said (said_of (bytes "command") fs) ≡ o → reading_named o (λ k. said_of k fs) ≡ Reading.reads m e → Came (λ k. said_of k fs) m e
      go none q r = refused_reads r
      go (some n) q r = named_came (λ k. said_of k fs) n q m e (command_of n) (ltb (command_of n) 24) refl r

  -- with any bytes that begin with those that were read
  pub read_begins : (t : List ℕ) → fits m (e ++ t) ≡ true
  read_begins t =
      let c = came in
      let f = command_fits (λ k. said_of k fs) c.number c.sound c.less c.uncrossed c.name c.named t in
      rw (c.message, c.beside) at f

  pub read_fits : fits m e ≡ true
  read_fits = rw append-nil at (read_begins [])

  pub read_starts : (d : List ℕ) → take (length e) d ≡ e → fits m d ≡ true
  read_starts d q = ap (fits m) (sym (take-append-drop (length e) d) ∙ ap (λ (x : List ℕ). x ++ drop (length e) d) q) ∙ read_begins (drop (length e) d)

  -- as the lent bytes are after reading: few enough for those that must be lent, they stand at the start, and the record has lent them
  read_lends : (t : List ℕ) → (lent_of m (e ++ t) ≡ e) × (length e ≤ lent_size)
  read_lends t = let c = came in rw (c.message, c.beside) at (command_lends (λ k. said_of k fs) c.number c.sound c.uncrossed t)

  module _ (d : List ℕ) (h : lent_size ≤ length d) where
    stands : put_at d 0 e ≡ e ++ drop (0 + length e) d
    stands = put_in d 0 e (omega (arith, (read_lends []).1))

    pub read_kept : fits m (put_at d 0 e) ≡ true
    read_kept = rw stands (read_begins (drop (0 + length e) d))

    pub read_lent : lent_of m (put_at d 0 e) ≡ e
    read_lent = rw stands (read_lends (drop (0 + length e) d)).0
