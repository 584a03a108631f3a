-- Each sort of part: which test decides whether its field fits. Where the type decides, none does. Assumes nothing.
use mathlib.Core.Path.{◌≡◌, refl, sym, ◌∙◌}
use mathlib.Core.Bool.{Bool, true, false, not, ◌&&◌, ◌||◌, and-true, and-false, not-or_self}
use mathlib.Core.List.{List, [], ◌∷◌, ◌++◌}
use Prim.Native.Nat.{ℕ, zero, suc, ◌/◌, ◌%◌, ◌^◌}
use native.Mathlib.Nat.{mod-lt}
use native.Mathlib.Omega.{arith}
use lib.Dec.{eqb, leb, ltb, lit<}
use lib.{IntN.ℤ, IntN.pos, Ieee.Float, ListN.length, ListN.take, ListN.length-append, Pow.are_bytes, Seq.length-take-le}
use borrow.Author.Tests.{le-leb, leb-true, lt-ltb}
use Rattle.octets.specs.{Choice.either, Bytes.IsBytes, Bytes.big_bytes}
use Rattle.octets.proofs.Digits.{length_big}
use Rattle.octets.proofs.Ranges.{is_true, true_is, both_left, both_right}
use Rattle.field.specs.Kind.{Kind, Value, station_id, centre_id}
use Rattle.message.specs.Fields.{Field}
use Rattle.field.specs.declared.Position.{Position}
use Rattle.message.specs.declared.Maybe.{Maybe}
use Rattle.saying.specs.Says.{is_zero, no_bits, no_position, position_value, said_if, real_if, id_if, mark_if, position_if, unless_zero}
use Rattle.saying.specs.Fits.{within, is_real, field_fits}
use Rattle.record.specs.declared.Sixteen.{Sixteen}
use Rattle.record.specs.Says.{sixteen_bytes}
use Rattle.faults.specs.Code.Tests.{real_fits, mark_fits, position_fits, station_id_fits, centre_id_fits, lent_fits}

pub name_in : (d : List ℕ) → within Kind.words (Value.string d) ≡ true
unfolding within
name_in d = refl

pub mark_in : (b : Bool) → within Kind.flags (Value.mark b) ≡ true
unfolding within
mark_in b = refl

pub real_in_lem : (x : Float) → within Kind.reals (Value.figure x) ≡ is_real x
unfolding within
real_in_lem x = refl

-- a field that may be absent
module _ (k : List ℕ) (kind : Kind) where
  abbrev field : Bool → Field
  field must = record { key = k; must = must; kind = kind }

  maybe_in : (here : Bool) (v : Value) (none_in : Bool) → field_fits (field false) (said_if here v none_in) ≡ either here (λ _. within kind v) (λ _. none_in)
  maybe_in true v z = refl
  maybe_in false v z = and-true z

  -- where the type says that it is in its range
  pub maybe_sure : (here : Bool) (v : Value) (none_in : Bool) → within kind v ≡ true → field_fits (field false) (said_if here v none_in) ≡ (here || none_in)
  maybe_sure true v z e = e
  maybe_sure false v z e = and-true z

  -- where it must be here all the same
  pub must_be : (here : Bool) (v : Value) (none_in : Bool) → within kind v ≡ true → field_fits (field true) (said_if here v none_in) ≡ here
  must_be true v z e = e
  must_be false v z e = and-false z

-- a number that is here unless it is zero
pub unless_in : (k : List ℕ) (kind : Kind) (n : ℕ) → within kind (Value.number (pos n)) ≡ true → field_fits (record { key = k; must = false; kind = kind }) (unless_zero n) ≡ true
unless_in k kind n e = maybe_sure k kind (not (eqb n 0)) (Value.number (pos n)) (eqb n 0) e ∙ not-or_self (eqb n 0)

module _ (k : List ℕ) where
  pub marks_in : (w : Maybe Bool) → field_fits (record { key = k; must = false; kind = Kind.flags }) (mark_if w) ≡ mark_fits w
  marks_in w = maybe_sure k Kind.flags w.here (Value.mark w.value) (not w.value) (mark_in w.value)

  pub figure_in : (w : Maybe Float) → field_fits (record { key = k; must = false; kind = Kind.reals }) (real_if w) ≡ real_fits w
  unfolding within real_fits
  figure_in w = maybe_in k Kind.reals w.here (Value.figure w.value) (no_bits w.value)

  pub position_in : (w : Maybe Position) → field_fits (record { key = k; must = false; kind = Kind.positions }) (position_if w) ≡ position_fits w
  unfolding within position_fits
  position_in w = maybe_in k Kind.positions w.here (position_value w.value) (no_position w.value)

  pub station_in : (w : Maybe ℤ) → field_fits (record { key = k; must = false; kind = station_id }) (id_if w) ≡ station_id_fits w
  unfolding within station_id_fits
  station_in w = maybe_in k station_id w.here (Value.number w.value) (is_zero w.value)

  pub centre_in : (w : Maybe ℤ) → field_fits (record { key = k; must = false; kind = centre_id }) (id_if w) ≡ centre_id_fits w
  unfolding within centre_id_fits
  centre_in w = maybe_in k centre_id w.here (Value.number w.value) (is_zero w.value)

-- the bytes of numbers
big_bytes_lem : (n x : ℕ) → are_bytes (big_bytes n x) ≡ true
unfolding big_bytes
big_bytes_lem zero x = refl
big_bytes_lem (suc n) x = rw (lt-ltb (x / 256 ^ n % 256) 256 (mod-lt (x / 256 ^ n) (lit< tt))) (big_bytes_lem n x)

join_bytes : (a b : List ℕ) → are_bytes a ≡ true → are_bytes b ≡ true → are_bytes (a ++ b) ≡ true
join_bytes [] b e f = f
join_bytes (x ∷ a) b e f =
    rw (sym (is_true (ltb x 256) (both_left (ltb x 256) (are_bytes a) (true_is _ (sym e)))))
    (join_bytes a b (sym (is_true (are_bytes a) (both_right (ltb x 256) (are_bytes a) (true_is _ (sym e))))) f)

fixed_in : (n : ℕ) (d : List ℕ) → length d ≡ n → are_bytes d ≡ true → within (Kind.arrays n n) (Value.string d) ≡ true
unfolding within
fixed_in n d l b = rw (l, b, le-leb n n (omega arith))

pub four_in : (x : ℕ) → within (Kind.arrays 4 4) (Value.string (big_bytes 4 x)) ≡ true
four_in x = fixed_in 4 (big_bytes 4 x) (length_big 4 x) (big_bytes_lem 4 x)

pub length_sixteen : (x : Sixteen) → length (sixteen_bytes x) ≡ 16
unfolding sixteen_bytes
length_sixteen x = simp (length-append, length_big)

pub sixteen_in : (x : Sixteen) → within (Kind.arrays 16 16) (Value.string (sixteen_bytes x)) ≡ true
unfolding sixteen_bytes
sixteen_in x =
    fixed_in 16 (sixteen_bytes x) (length_sixteen x)
    (join_bytes (big_bytes 8 x.high) (big_bytes 8 x.low) (big_bytes_lem 8 x.high) (big_bytes_lem 8 x.low))

-- lent bytes
lent_by : (enough fits few : Bool) → (enough ≡ true → fits ≡ few) → ((enough && true) && fits) ≡ (few && enough)
lent_by true fits few h = h refl ∙ sym (and-true few)
lent_by false fits few h = sym (and-false few)

pub take_bytes : (n : ℕ) (d : List ℕ) → IsBytes d → are_bytes (take n d) ≡ true
take_bytes zero d b = refl
take_bytes (suc n) [] b = refl
take_bytes (suc n) (x ∷ d) b = rw (lt-ltb x 256 (b 0)) (take_bytes n d (λ k. b (suc k)))

module _ (hi n : ℕ) (d : List ℕ) where
  sized : leb n (length d) ≡ true → (leb 0 (length (take n d)) && leb (length (take n d)) hi) ≡ leb n hi
  sized e = rw (length-take-le n d (leb-true n (length d) e), le-leb 0 n (omega arith))

  pub text_lent : ((leb n (length d) && true) && within (Kind.texts 0 hi) (Value.string (take n d))) ≡ lent_fits hi n (length d)
  unfolding within
  text_lent = lent_by (leb n (length d)) _ (leb n hi) sized

  pub bytes_lent : IsBytes d → ((leb n (length d) && true) && within (Kind.arrays 0 hi) (Value.string (take n d))) ≡ lent_fits hi n (length d)
  unfolding within
  bytes_lent b = lent_by (leb n (length d)) _ (leb n hi) (λ e. rw (take_bytes n d b) (and-true _ ∙ sized e))
