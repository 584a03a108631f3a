-- Demand 3. A reading goes by what is said of the command's keys alone, and by what each value is worth under its kind; both are alike through every
-- change, so the reading is the same. Assumes nothing.
use mathlib.Core.Path.{◌≡◌, refl, sym, ap, fun_ext, ◌∙◌}
use mathlib.Core.Bool.{Bool, true, false, not, ◌&&◌}
use mathlib.Core.List.{List, [], ◌∷◌}
use Prim.Native.Nat.{ℕ, zero, suc, max}
use lib.{Dec.T, Dec.ltb, ListN.length}
use borrow.Author.Tests.{lt-ltb, ltb-true, ltb-false}
use Rattle.octets.specs.Choice.{either}
use Rattle.element.specs.{Tree.Pairs, Tree.count_of, Tree.Tree.map}
use Rattle.element.specs.Meaning.{Element, key_of, meaning_of, meaning_of_pairs}
use Rattle.octets.proofs.Ranges.{is_true, is_false, both_left, both_right}
use Rattle.names.specs.Names.{bytes, same_bytes, name_at}
use Rattle.names.proofs.Same.{same_eq, eq_same}
use Rattle.field.specs.{Kind.Kind, Judge.text_of, Judge.judge}
use Rattle.field.specs.Cell.{Said, Cell, cell_of}
use Rattle.message.specs.Fields.{Field, lists, fields_of}
use Rattle.message.specs.Record.{word_in, figure_in}
use Rattle.message.specs.Reading.{said_of, cells_of, cell_fault, graded, gravest, look_in, crossed, command_said}
use Rattle.message.proofs.KeyKinds.{passes}
use Rattle.record.specs.Record.{message_of, lent_keys, data_of}
use Rattle.record.specs.Reading.{Reading, reading_as, reading_of}
use Rattle.record.specs.Reading as Reading
use Rattle.record.specs.Meant.{Answered, answer_of, Meant, lent_size}
use Rattle.promises.specs.Steady.{Strange, OfKind, StandsFor, Default, Changed, Known, Carries, Alike}
use Rattle.promises.proofs.Counted.{stands_judged, stands_text}
use Rattle.promises.proofs.SaidOfKeys.{Seen, Ours, rearranged_said, put_other}
use Rattle.promises.proofs.SaidOfKeys.Seen.{equal, once}
use Rattle.promises.proofs.Defaults.{is_default, SaidAlike, default_fits, defaults_fit, fields_fit, changed_said}

-- two messages that say alike of every key of a list
module _ (one two : List ℕ → Said) where
  abbrev Alikes : List Field → Type 0
  Alikes [] = Unit {0}
  Alikes (f ∷ l) = SaidAlike f (one f.key) (two f.key) × Alikes l

  same_gravest : (l : List Field) → Alikes l → (g i : ℕ) → gravest g i l (cells_of l one) ≡ gravest g i l (cells_of l two)
  unfolding gravest cells_of
  same_gravest [] a g i = refl
  same_gravest (f ∷ l) a g i =
      ap (λ (n : ℕ). gravest (max g (graded n i)) (suc i) l (cells_of l one)) a.0.fault
      ∙ same_gravest l a.1 (max g (graded (cell_fault f.must (cell_of f.kind (two f.key))) i)) (suc i)

  same_look : (k : List ℕ) → is_default k ≡ false → (l : List Field) → Alikes l → (d e : Cell) → d ≡ e → look_in d l (cells_of l one) k ≡ look_in e l (cells_of l two) k
  unfolding look_in cells_of
  same_look k n [] a d e p = p
  same_look k n (f ∷ l) a d e p =
      same_look k n l a.1 (either (same_bytes f.key k) (λ _. cell_of f.kind (one f.key)) (λ _. d))
      (either (same_bytes f.key k) (λ _. cell_of f.kind (two f.key)) (λ _. e)) (go (same_bytes f.key k) refl)
    where
      go : (b : Bool) → same_bytes f.key k ≡ b → either b (λ _. cell_of f.kind (one f.key)) (λ _. d) ≡ either b (λ _. cell_of f.kind (two f.key)) (λ _. e)
      go true s = a.0.cell (ap is_default (same_eq f.key k s) ∙ n)
      go false s = p

  -- a part of the cells that a list's fields have alike
  module _ {A : Type 0} (part : Cell → A) (alike : (f : Field) → SaidAlike f (one f.key) (two f.key) → part (cell_of f.kind (one f.key)) ≡ part (cell_of f.kind (two f.key))) where
    same_part : (k : List ℕ) (l : List Field) → Alikes l → (d e : Cell) → part d ≡ part e → part (look_in d l (cells_of l one) k) ≡ part (look_in e l (cells_of l two) k)
    unfolding look_in cells_of
    same_part k [] a d e p = p
    same_part k (f ∷ l) a d e p =
        same_part k l a.1 (either (same_bytes f.key k) (λ _. cell_of f.kind (one f.key)) (λ _. d))
        (either (same_bytes f.key k) (λ _. cell_of f.kind (two f.key)) (λ _. e)) (go (same_bytes f.key k))
      where
        go : (b : Bool) → part (either b (λ _. cell_of f.kind (one f.key)) (λ _. d)) ≡ part (either b (λ _. cell_of f.kind (two f.key)) (λ _. e))
        go true = alike f a.0
        go false = p

-- of a record that reads every key but those with a default alike, and format's word and prio's figure
alike_message : (c : ℕ) (one two : List ℕ → Cell) → ((k : List ℕ) → is_default k ≡ false → one k ≡ two k)
    → word_in (one (bytes "format")) ≡ word_in (two (bytes "format")) → figure_in (one (bytes "prio")) ≡ figure_in (two (bytes "prio")) → message_of c one ≡ message_of c two
unfolding message_of
alike_message c one two p w g =
    ap (message_of c) (fun_ext meet) ∙ rw (w, g)
  where
    met : List ℕ → Cell
    met k = either (is_default k) (λ _. one k) (λ _. two k)

    meet : (k : List ℕ) → one k ≡ met k
    meet k = go (is_default k) refl
      where
        go : (b : Bool) → is_default k ≡ b → one k ≡ either b (λ _. one k) (λ _. two k)
        go true s = refl
        go false s = p k s

-- and the bytes beside it: no key with a default has any
abbrev no_default : List (List ℕ) → Bool
no_default [] = true
no_default (n ∷ ns) = not (is_default n) && no_default ns

no_default_in : (ns : List (List ℕ)) → T (no_default ns) → (c : ℕ) → is_default (name_at ns c) ≡ false
unfolding name_at
no_default_in [] t c = refl
no_default_in (n ∷ ns) t zero = sym (is_false (is_default n) (both_left (not (is_default n)) (no_default ns) t))
no_default_in (n ∷ ns) t (suc c) = no_default_in ns (both_right (not (is_default n)) (no_default ns) t) c

alike_data : (c : ℕ) (one two : List ℕ → Cell) → ((k : List ℕ) → is_default k ≡ false → one k ≡ two k) → data_of c one ≡ data_of c two
unfolding data_of lent_keys
alike_data c one two p = rw (p (name_at lent_keys c) (no_default_in lent_keys tt c), p (bytes "packetCnt") refl, p (bytes "userData") refl)

-- every list begins with command: one computed test over the lists
abbrev starts : List Field → Bool
starts [] = false
starts (f ∷ l) = same_bytes f.key (bytes "command")

command_apart : (c : ℕ) (u : List ℕ) → Strange (fields_of c) u → same_bytes (bytes "command") u ≡ false
unfolding lists
command_apart c u s = go (fields_of c) (passes starts tt c) s
  where
    go : (l : List Field) → T (starts l) → Strange l u → same_bytes (bytes "command") u ≡ false
    go [] t s = absurd t
    go (f ∷ l) t s = rw (same_eq f.key (bytes "command") (sym (is_true (starts (f ∷ l)) t))) at s.0

-- the command is said alike: nothing that stands for a real is a text
seen_command : {x y : Said} → Seen text_of x y → command_said x ≡ command_said y
seen_command (equal e) = ap command_said e
seen_command (once p) = p

no_command : (u : List ℕ) (e : Element) → Default u e → same_bytes (bytes "command") u ≡ false
no_command u e Default.format = refl
no_command u e Default.prio = refl
no_command u e Default.prio32 = refl
no_command u e Default.prio64 = refl

changed_command : (c : ℕ) {ps qs : Pairs} → Changed c ps qs → command_said (said_of (bytes "command") (meaning_of_pairs ps)) ≡ command_said (said_of (bytes "command") (meaning_of_pairs qs))
unfolding meaning_of
changed_command c (Changed.rearranged r) =
    seen_command (rearranged_said text_of c (bytes "command") (record { strange = command_apart c; stands = λ h s. stands_text s }) r Said.absent)
changed_command c (Changed.left_out {k = k} {v = v} {ps = ps} h a) = ap command_said (put_other (bytes "command") (key_of k) (meaning_of v) (meaning_of_pairs ps) (no_command (key_of k) (meaning_of v) h))
changed_command c (Changed.next r t) = changed_command c r ∙ changed_command c t
changed_command c (Changed.back r) = sym (changed_command c r)

module _ (c : ℕ) (ps qs : Pairs) (change : Changed c ps qs) where
  abbrev one : List ℕ → Said
  one K = said_of K (meaning_of_pairs ps)

  abbrev two : List ℕ → Said
  two K = said_of K (meaning_of_pairs qs)

  all_alike : (l : List Field) → T (defaults_fit l) → ((u : List ℕ) → Strange (fields_of c) u → Strange l u)
      → ((κ : Kind) (u : List ℕ) → OfKind κ (fields_of c) u → OfKind κ l u) → Alikes one two l
  all_alike [] t o k = tt
  all_alike (f ∷ l) t o k =
      let ours : Ours (judge f.kind) c f.key =
      record { strange = λ u s. (o u s).0; stands = λ h s. own f.kind _ _ _ ((k _ f.key h).0 (eq_same f.key f.key refl)) s } in
      (changed_said c f (both_left (default_fits f) (defaults_fit l) t) ours change, all_alike l (both_right (default_fits f) (defaults_fit l) t) (λ u s. (o u s).1) (λ κ u h. (k κ u h).1))
    where
      own : (j κ : Kind) (e d : Element) → j ≡ κ → StandsFor κ e d → judge j e ≡ judge j d
      own j κ e d q s = rw q (stands_judged s)

  -- the same fields, the same reading
  same_as : reading_as c one ≡ reading_as c two
  unfolding reading_as
  same_as =
      let l = fields_of c in
      let a = all_alike l (fields_fit c) (λ u s. s) (λ κ u h. h) in
      let look : (k : List ℕ) → is_default k ≡ false → look_in Cell.missing l (cells_of l one) k ≡ look_in Cell.missing l (cells_of l two) k =
      λ k n. same_look one two k n l a Cell.missing Cell.missing refl in
      let x : crossed l (look_in Cell.missing l (cells_of l one)) ≡ crossed l (look_in Cell.missing l (cells_of l two)) =
      rw (look (bytes "responseExp") refl, look (bytes "dlOpen") refl, look (bytes "cntDepend") refl, look (bytes "packetCnt") refl, look (bytes "userData") refl) in
      let m = alike_message c (look_in Cell.missing l (cells_of l one)) (look_in Cell.missing l (cells_of l two)) look
      (same_part one two word_in (λ f x. x.word) (bytes "format") l a Cell.missing Cell.missing refl)
      (same_part one two figure_in (λ f x. x.figure) (bytes "prio") l a Cell.missing Cell.missing refl) in
      let d = alike_data c (look_in Cell.missing l (cells_of l one)) (look_in Cell.missing l (cells_of l two)) look in
      λ i. Reading.reading_unless (max (same_gravest one two l a 0 0 i) (x i)) (m i) (d i)

  same_reading : Known c ps → reading_of (meaning_of_pairs ps) ≡ reading_of (meaning_of_pairs qs)
  unfolding reading_of
  same_reading k =
      rw (← changed_command c change, k.said, k.is, lt-ltb c 24 k.ours) same_as

-- one reading told with two counts
alike_told : (d : List ℕ) (x y : ℕ) (a b : Reading) (r q : Answered) → r ≡ answer_of x d a → q ≡ answer_of y d b → a ≡ b → Alike r q
alike_told d x y (Reading.refused n) b r q e f g = rw (e, f, ← g) (record { refusal = refl; place = refl; message = refl; lent = refl })
alike_told d x y (Reading.reads m l) b r q e f g = rw (e, f, ← g) (record { refusal = refl; place = refl; message = refl; lent = refl })

-- Demand 3, as one sentence: two payloads within our limits, the second a changed form of the first, a message of a command that we know, are
-- read as the same record, with the same bytes beside it, or the same refusal
pub steady : (c : ℕ) (s t : List ℕ) (ps qs : Pairs) (d : List ℕ) (r q : Answered) → Carries s ps → Carries t qs → Known c ps → Changed c ps qs → Meant s d r → Meant t d q → Alike r q
unfolding meaning_of
steady c s t ps qs d r q S T K C m n = go (ltb (length d) lent_size) refl
  where
    go : (b : Bool) → ltb (length d) lent_size ≡ b → Alike r q
    go true e =
        let l = ltb-true (length d) lent_size e in
        rw (m.short l, n.short l) (record { refusal = refl; place = refl; message = refl; lent = refl })
    go false e =
        let l = ltb-false (length d) lent_size e in
        alike_told d (count_of (map S.lead S.size ps)) (count_of (map T.lead T.size qs)) (reading_of (meaning_of_pairs ps)) (reading_of (meaning_of_pairs qs)) r q
        (m.whole l (map S.lead S.size ps) S.payload) (n.whole l (map T.lead T.size qs) T.payload) (same_reading c ps qs C K)
