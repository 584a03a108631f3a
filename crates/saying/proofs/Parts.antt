-- Each sort of part is read back as it was, from the cell that is shown for it. Assumes nothing.
use mathlib.Core.Path.{◌≡◌, refl, sym, ap, subst, ◌∙◌}
use mathlib.Core.Bool.{Bool, true, false, not, ◌&&◌}
use mathlib.Core.{List.List, List.◌++◌, Option.some, Option.none}
use Prim.Native.Nat.{ℕ, ◌-◌}
use native.Mathlib.Omega.{arith}
use lib.Dec.{T, eqb, leb, eqb→eq, leb→le}
use lib.{IntN.ℤ, IntN.pos, IntN.negsuc, Seq.length-take-le}
use lib.Ieee.{Float, binary64, of_bits, to_bits, fits as holds}
use lib.Ieee.Bits.{of_bits-to_bits}
use lib.ListN.{length, take, drop, replicate, take-append-drop}
use Rattle.octets.specs.Choice.{either}
use Rattle.octets.proofs.{Ranges.both_left, Ranges.both_right, Ranges.is_true, Truth.some_is, Truth.none_some}
use Rattle.names.proofs.Same.{same_eq}
use Rattle.field.specs.declared.Position.{Position}
use Rattle.field.specs.Kind.{Kind, Value}
use Rattle.field.specs.Cell.{Cell, zero64, value_in, origin}
use Rattle.message.specs.Record.{word_in, figure_in, id_in, mark_in, position_in, string_of, maybe_of}
use Rattle.message.specs.declared.Maybe.{Maybe}
use Rattle.saying.specs.Says as Says
use Rattle.saying.specs.Says.{Part, no_bits, no_position, position_value, always, said_if, word, id, mark, real, string, position_if, unless_zero, is_zero, are_nulls, tidy, string_if}
use Rattle.saying.proofs.{Shown.Shown, Shown.kept_by, Shown.Shown.spoken, Shown.Shown.silent}

no_bits_lem : (x : Float) → T (no_bits x) → zero64 ≡ x
no_bits_lem x t =
    let h = both_right (eqb (to_bits binary64 x) 0) (holds binary64 x) t in
    let z = eqb→eq (to_bits binary64 x) 0 (both_left (eqb (to_bits binary64 x) 0) (holds binary64 x) t) in
    ap (of_bits binary64) (sym z) ∙ of_bits-to_bits binary64 x h

-- a part that always says something, and one that may
pub always_back : (k : Kind) (v : Value) {c : Cell} → Shown k (always v) c → c ≡ Cell.good (kept_by k v)
always_back k v (spoken u e t w) = ap (λ (x : Value). Cell.good (kept_by k x)) (sym (some_is e))
always_back k v (silent e t) = none_some (sym e)

pub data Stands (k : Kind) (v : Value) (empty : Bool) : Bool → Cell → Type 0 where
  there : Stands k v empty true (Cell.good (kept_by k v))
  absent : T empty → Stands k v empty false Cell.missing

module _ (k : Kind) (v : Value) (empty : Bool) where
  pub maybe_back : (h : Bool) (c : Cell) → Shown k (said_if h v empty) c → Stands k v empty h c
  maybe_back true c (spoken u e t w) = subst (λ (x : Value). Stands k v empty true (Cell.good (kept_by k x))) (some_is e) there
  maybe_back true c (silent e t) = none_some (sym e)
  maybe_back false c (spoken u e t w) = none_some e
  maybe_back false c (silent e t) = absent t

-- a field that may be absent: f gives its value, and zero where there is none
pub field_back : {A : Type 0} (f : Cell → A) (k : Kind) (m : Maybe A) (v : Value) (empty : Bool) → f (Cell.good (kept_by k v)) ≡ m.value → (T empty → f Cell.missing ≡ m.value)
    → {c : Cell} → Shown k (said_if m.here v empty) c → maybe_of f c ≡ m
field_back f k m v empty g z {c} s = go m.here refl (maybe_back k v empty m.here c s)
  where
    go : (h : Bool) → m.here ≡ h → {c : Cell} → Stands k v empty h c → maybe_of f c ≡ m
    go true e there = λ i. record { here = sym e i; value = g i }
    go false e (absent t) = λ i. record { here = sym e i; value = z t i }

zero_is : (z : ℤ) → T (is_zero z) → pos 0 ≡ z
zero_is (pos n) t = ap pos (sym (eqb→eq n 0 t))
zero_is (negsuc k) t = absurd t

module _ {lo hi : ℕ} where
  pub word_back : {n : ℕ} {c : Cell} → Shown (Kind.wholes lo hi) (word n) c → word_in c ≡ n
  word_back {n} s = ap word_in (always_back (Kind.wholes lo hi) (Value.number (pos n)) s)

  pub id_back : {z : ℤ} {c : Cell} → Shown (Kind.wholes lo hi) (id z) c → id_in c ≡ z
  id_back {z} s = ap id_in (always_back (Kind.wholes lo hi) (Value.number z) s)

  pub bytes_back : {d : List ℕ} {c : Cell} → Shown (Kind.arrays lo hi) (string d) c → string_of (value_in c) ≡ d
  bytes_back {d} s = ap (λ (c : Cell). string_of (value_in c)) (always_back (Kind.arrays lo hi) (Value.string d) s)

  pub maybe_word_back : (m : Maybe ℕ) {c : Cell} → Shown (Kind.wholes lo hi) (Says.word_if m) c → maybe_of word_in c ≡ m
  maybe_word_back m s = field_back word_in (Kind.wholes lo hi) m (Value.number (pos m.value)) (eqb m.value 0) refl (λ t. sym (eqb→eq m.value 0 t)) s

  pub maybe_id_back : (m : Maybe ℤ) {c : Cell} → Shown (Kind.wholes lo hi) (Says.id_if m) c → maybe_of id_in c ≡ m
  maybe_id_back m s = field_back id_in (Kind.wholes lo hi) m (Value.number m.value) (is_zero m.value) refl (zero_is m.value) s

  pub unless_zero_back : (n : ℕ) {c : Cell} → Shown (Kind.wholes lo hi) (unless_zero n) c → word_in c ≡ n
  unless_zero_back n {c} s = go (maybe_back (Kind.wholes lo hi) (Value.number (pos n)) (eqb n 0) (not (eqb n 0)) c s)
    where
      go : {h : Bool} {c : Cell} → Stands (Kind.wholes lo hi) (Value.number (pos n)) (eqb n 0) h c → word_in c ≡ n
      go there = refl
      go (absent t) = sym (eqb→eq n 0 t)

pub mark_back : {b : Bool} {c : Cell} → Shown Kind.flags (mark b) c → mark_in c ≡ b
mark_back {b} s = ap mark_in (always_back Kind.flags (Value.mark b) s)

no_mark : (b : Bool) → T (not b) → false ≡ b
no_mark true t = absurd t
no_mark false t = refl

pub maybe_mark_back : (m : Maybe Bool) {c : Cell} → Shown Kind.flags (Says.mark_if m) c → maybe_of mark_in c ≡ m
maybe_mark_back m s = field_back mark_in Kind.flags m (Value.mark m.value) (not m.value) refl (no_mark m.value) s

pub real_back : {x : Float} {c : Cell} → Shown Kind.reals (real x) c → figure_in c ≡ x
real_back {x} s = ap figure_in (always_back Kind.reals (Value.figure x) s)

pub maybe_real_back : (m : Maybe Float) {c : Cell} → Shown Kind.reals (Says.real_if m) c → maybe_of figure_in c ≡ m
maybe_real_back m s = field_back figure_in Kind.reals m (Value.figure m.value) (no_bits m.value) refl (no_bits_lem m.value) s

-- one whose plus zero isn't said
pub unless_plus_zero_back : (x : Float) {c : Cell} → Shown Kind.singles (Says.unless_plus_zero x) c → figure_in c ≡ x
unless_plus_zero_back x {c} s = go (maybe_back Kind.singles (Value.figure x) (no_bits x) (not (no_bits x)) c s)
  where
    go : {h : Bool} {c : Cell} → Stands Kind.singles (Value.figure x) (no_bits x) h c → figure_in c ≡ x
    go there = refl
    go (absent t) = no_bits_lem x t

no_place : (p : Position) → T (no_position p) → origin ≡ p
no_place p t =
    let a = both_left (no_bits p.latitude) (no_bits p.longitude && no_bits p.altitude) t in
    let r = both_right (no_bits p.latitude) (no_bits p.longitude && no_bits p.altitude) t in
    λ i. record {
      latitude = no_bits_lem p.latitude a i;
      longitude = no_bits_lem p.longitude (both_left (no_bits p.longitude) (no_bits p.altitude) r) i;
      altitude = no_bits_lem p.altitude (both_right (no_bits p.longitude) (no_bits p.altitude) r) i;
    }

pub maybe_place_back : (m : Maybe Position) {c : Cell} → Shown Kind.positions (position_if m) c → maybe_of position_in c ≡ m
maybe_place_back m s = field_back position_in Kind.positions m (position_value m.value) (no_position m.value) refl (no_place m.value) s

-- bytes, and zeros behind them
zeros_are : (n : ℕ) (d : List ℕ) → T (are_nulls n d) → d ≡ replicate n 0
zeros_are n d t = same_eq d (replicate n 0) (sym (is_true (are_nulls n d) t))

-- bytes in a place for so many
module _ (size n : ℕ) (d : List ℕ) where
  module _ (t : T (tidy size n d)) where
    place_size : length d ≡ size
    place_size = eqb→eq (length d) size (both_left (eqb (length d) size) (leb n size && are_nulls (size - n) (drop n d)) t)

    inner : T (leb n size && are_nulls (size - n) (drop n d))
    inner = both_right (eqb (length d) size) (leb n size && are_nulls (size - n) (drop n d)) t

    taken : length (take n d) ≡ n
    taken = length-take-le n d (omega (arith, place_size, leb→le n size (both_left (leb n size) (are_nulls (size - n) (drop n d)) inner)))

    joined_back : take n d ++ replicate (size - length (take n d)) 0 ≡ d
    joined_back =
        rw taken
        (ap (λ (x : List ℕ). take n d ++ x) (sym (zeros_are (size - n) (drop n d) (both_right (leb n size) (are_nulls (size - n) (drop n d)) inner))) ∙ take-append-drop n d)

    empty_back : n ≡ 0 → replicate (size - 0) 0 ≡ d
    empty_back e = ap (λ (k : ℕ). replicate (size - k) 0) (sym e) ∙ sym (zeros_are (size - n) (drop n d) (both_right (leb n size) (are_nulls (size - n) (drop n d)) inner)) ∙ ap (λ (k : ℕ). drop k d) e

  -- both its bytes, with zeros behind them up to the size, and their number
  abbrev Back : Cell → Type 0
  Back c = (string_of (value_in c) ++ replicate (size - length (string_of (value_in c))) 0 ≡ d) × (word_in c ≡ n)

  module _ (k : Kind) (keeps : kept_by k (Value.string (take n d)) ≡ Value.string (take n d)) where
    good_back : (v : Value) → Value.string (take n d) ≡ v → T (tidy size n d) → Back (Cell.good (kept_by k v))
    good_back v e t = rw (← e, keeps) (joined_back t, taken t)

    -- where none means absent
    abbrev string_part : Bool → Part
    string_part b = record { said = either (not b) (λ _. some (Value.string (take n d))) (λ _. none); clean = tidy size n d }

    none_back : n ≡ 0 → T (tidy size n d) → Back Cell.missing
    none_back e t = (empty_back t e, sym e)

    string_shown : (b : Bool) → eqb n 0 ≡ b → (c : Cell) → Shown k (string_part b) c → Back c
    string_shown true q c (spoken v e t w) = none_some e
    string_shown true q c (silent e t) = none_back (eqb→eq n 0 (rw q tt)) t
    string_shown false q c (spoken v e t w) = good_back v (some_is e) t
    string_shown false q c (silent e t) = none_some (sym e)

    pub maybe_string_back : {c : Cell} → Shown k (string_if size n d) c → Back c
    maybe_string_back {c} s = string_shown (eqb n 0) refl c s
