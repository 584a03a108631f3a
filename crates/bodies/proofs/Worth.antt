-- What a cell holds, by its kind: a word is at most so much, a signed one is the bits of its width, a mark is 1. A cell with no value holds zeros.
-- Assumes nothing.
use mathlib.Core.Path.{◌≡◌, refl, ap, ◌∙◌}
use mathlib.Core.{Bool.true, List.List, Option.Option, Option.some, Option.none}
use Prim.Native.Nat.{ℕ, zero, suc, ◌%◌, ◌^◌, ◌≤◌, ◌<◌}
use native.Mathlib.Omega.{arith}
use lib.{IntN.ℤ, IntN.pos, IntN.negsuc, Signed.mag}
use borrow.Author.Tests.{leb-true}
use mir.Syntax.{w32, w64}
use mir.Val.{SFits}
use Rattle.std.specs.Prelude.{is_none, is_ok}
use Rattle.std.specs.Result.{result_err, result_unwrap_or}
use Rattle.octets.specs.Signed.{bits_of, signed_of}
use Rattle.octets.proofs.Signs.{signed_back}
use Rattle.element.specs.Meaning.{Element}
use Rattle.field.specs.{Kind.Kind, Kind.Value, Judge.in_range, Judge.judge, Code.Told.told_of, Code.At.seen_at, Code.At.cell_at}
use Rattle.field.specs.Cell.{Cell, judged, here, value_in, word_of}
use Rattle.message.specs.{Record.word_in, Record.id_in, Record.id_of, Reading.is_valid}
use Rattle.bodies.specs.{Code.Held.flaw_of, Code.Read.is_valid_by}
use Rattle.bodies.proofs.Values.{IsWhole, IsString, AreParts, wholes_are, arrays_are, counters_are, pieces_are, texts_are}

-- a cell of a kind: no value, or one that the kind takes
pub data Worth (k : Kind) : Cell → Type 0 where
  missing : Worth k Cell.missing
  double : Worth k Cell.double
  bad : Worth k Cell.bad
  good : (v : Value) (e : Element) → judge k e ≡ some v → Worth k (Cell.good v)

of_judged : (k : Kind) (e : Element) (o : Option Value) → judge k e ≡ o → Worth k (judged o)
of_judged k e none q = bad
of_judged k e (some v) q = good v e q

pub worth : (k : Kind) (s : List ℕ) (p : ℕ) → Worth k (cell_at k s p)
unfolding cell_at
worth k s zero = missing
worth k s (suc zero) = double
worth k s (suc (suc p)) = of_judged k (seen_at k s (suc (suc p))) (judge k (seen_at k s (suc (suc p)))) refl

-- what is told of a cell: why it has no value, whether it has one, and the value
module _ {A : Type 0} (f : Value → A) where
  pub told_flaw : (c : Cell) → result_err (told_of f c) ≡ flaw_of c
  told_flaw Cell.missing = refl
  told_flaw Cell.double = refl
  told_flaw Cell.bad = refl
  told_flaw (Cell.good v) = refl

  pub told_here : (c : Cell) → is_ok (told_of f c) ≡ here c
  told_here Cell.missing = refl
  told_here Cell.double = refl
  told_here Cell.bad = refl
  told_here (Cell.good v) = refl

  pub told_value : (c : Cell) → result_unwrap_or (told_of f c) (f Value.nothing) ≡ f (value_in c)
  told_value Cell.missing = refl
  told_value Cell.double = refl
  told_value Cell.bad = refl
  told_value (Cell.good v) = refl

pub valid_flaw : (c : Cell) → is_valid_by (flaw_of c) ≡ is_valid c
valid_flaw Cell.missing = refl
valid_flaw Cell.double = refl
valid_flaw Cell.bad = refl
valid_flaw (Cell.good v) = refl

pub here_flaw : (c : Cell) → is_none (flaw_of c) ≡ here c
here_flaw Cell.missing = refl
here_flaw Cell.double = refl
here_flaw Cell.bad = refl
here_flaw (Cell.good v) = refl

-- the kinds whose words are at most so much
pub data Most : Kind → ℕ → Type 0 where
  whole : (hi : ℕ) → Most (Kind.wholes 0 hi) hi
  octets : (lo hi : ℕ) → Most (Kind.arrays lo hi) hi
  text : (lo hi : ℕ) → Most (Kind.texts lo hi) hi
  counters : (many : ℕ) → Most (Kind.counters many) many
  pieces : (many most all : ℕ) → Most (Kind.pieces many most all) many

whole_most_lem : (hi : ℕ) (v : Value) → IsWhole 0 hi v → word_of v ≤ hi
whole_most_lem hi _ (IsWhole.whole (pos n) e) = leb-true n hi e
whole_most_lem hi _ (IsWhole.whole (negsuc k) e) = absurd (omega (arith, leb-true (suc k) 0 e))

string_most : (lo hi : ℕ) (v : Value) → IsString lo hi v → word_of v ≤ hi
string_most lo hi _ (IsString.string d l h) = h

parts_most : (many : ℕ) (v : Value) → AreParts many v → word_of v ≤ many
parts_most many _ (AreParts.counts ns h) = h
parts_most many _ (AreParts.strings ds h) = h

word_most : (k : Kind) (m : ℕ) → Most k m → (e : Element) (v : Value) → judge k e ≡ some v → word_of v ≤ m
word_most _ _ (Most.whole hi) e v j = whole_most_lem hi v (wholes_are e v 0 hi j)
word_most _ _ (Most.octets lo hi) e v j = string_most lo hi v (arrays_are e v lo hi j)
word_most _ _ (Most.counters many) e v j = parts_most many v (counters_are e v many j)
word_most _ _ (Most.pieces many most all) e v j = parts_most many v (pieces_are e v many most all j)
word_most _ _ (Most.text lo hi) e v j = string_most lo hi v (texts_are e v lo hi j)

pub cell_most : (k : Kind) (m : ℕ) → Most k m → (c : Cell) → Worth k c → word_in c ≤ m
cell_most k m l _ missing = omega arith
cell_most k m l _ double = omega arith
cell_most k m l _ bad = omega arith
cell_most k m l _ (good v e j) = word_most k m l e v j

-- a signed number of 64 bits, and of 32 by its lowest
fits_in : (half lo hi : ℕ) → lo ≤ half → hi < half → (z : ℤ) → in_range lo hi z ≡ true → mag z < half
fits_in half lo hi f g (pos n) e = omega (arith, leb-true n hi e)
fits_in half lo hi f g (negsuc k) e = omega (arith, leb-true (suc k) lo e)

bits_back : (z : ℤ) → SFits w64 z → signed_of 64 (bits_of 64 z) ≡ z
bits_back (pos n) f = signed_back w64 (pos n) f
bits_back (negsuc k) f = signed_back w64 (negsuc k) f

low_bits : (z : ℤ) → SFits w32 z → bits_of 64 z % 2 ^ 32 ≡ bits_of 32 z
low_bits (pos n) f = let h : n < 2 ^ 31 = f.sfits in omega arith
low_bits (negsuc k) f = let h : k < 2 ^ 31 = f.sfits in omega arith

module _ (lo hi : ℕ) where
  pub id_word : lo ≤ 2 ^ 63 → hi < 2 ^ 63 → (c : Cell) → Worth (Kind.wholes lo hi) c → signed_of 64 (word_in c) ≡ id_in c
  id_word f g _ missing = refl
  id_word f g _ double = refl
  id_word f g _ bad = refl
  id_word f g _ (good v e j) = go v (wholes_are e v lo hi j)
    where
      go : (v : Value) → IsWhole lo hi v → signed_of 64 (word_of v) ≡ id_of v
      go _ (IsWhole.whole z r) = bits_back z (record { sfits = fits_in (2 ^ 63) lo hi f g z r })

  pub code_word : lo ≤ 2 ^ 31 → hi < 2 ^ 31 → (c : Cell) → Worth (Kind.wholes lo hi) c → signed_of 32 (word_in c % 2 ^ 32) ≡ id_in c
  code_word f g _ missing = refl
  code_word f g _ double = refl
  code_word f g _ bad = refl
  code_word f g _ (good v e j) = go v (wholes_are e v lo hi j)
    where
      go : (v : Value) → IsWhole lo hi v → signed_of 32 (word_of v % 2 ^ 32) ≡ id_of v
      go _ (IsWhole.whole z r) =
          let t : SFits w32 z = record { sfits = fits_in (2 ^ 31) lo hi f g z r } in
          ap (signed_of 32) (low_bits z t) ∙ signed_back w32 z t
