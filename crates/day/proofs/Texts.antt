-- The text of a reading's line, part by part, and lines made in a room of 80 bytes: none is longer. Assumes nothing.
use mathlib.Core.{Path.◌≡◌, Bool.Bool, Bool.true, Bool.false}
use mathlib.Core.List.{List, [], ◌∷◌, ◌++◌}
use Rattle.std.specs.Prelude.{Option, Some, None}
use Prim.Native.Nat.{ℕ, ◌≤◌}
use native.Mathlib.Omega.{arith}
use lib.{ListN.length, ListN.take, ListN.length-append}
use Rattle.forms.specs.Code.Put.{Put, put, put_parts, joined}
use Rattle.forms.proofs.{Putting.parts_then, Putting.joined_join, Decimals.few_digits, Decimals.joined_each}
use Rattle.names.specs.Names.{bytes}
use Rattle.lines.specs.{Code.Parts.decimal_parts, Code.Parts.counted_parts}
use Rattle.lines.proofs.{Texts.none_put, Made.joined_counted, Made.few_counted, Made.made_size, Made.made_taken, Made.made_put}
use Rattle.play.specs.declared.Credited.{Credited}
use Rattle.day.specs.{Lines.reading_line, Lines.line_of, Lines.refused_line, Code.Parts.reading_parts}

module _ (station eui counter : ℕ) where
  pub reading_put : (o b c e a : Put) → b ≡ put_parts (decimal_parts station) o → c ≡ put_parts (bytes " " ∷ []) b → e ≡ put_parts (decimal_parts eui) c
      → a ≡ put_parts (counted_parts (bytes " ") counter) e → a ≡ put_parts (reading_parts station eui counter) o
  unfolding reading_parts
  reading_put o b c e a p q r s =
      parts_then (decimal_parts station) (bytes " " ∷ (decimal_parts eui ++ counted_parts (bytes " ") counter)) o b a p
      (parts_then (bytes " " ∷ []) (decimal_parts eui ++ counted_parts (bytes " ") counter) b c a q
      (parts_then (decimal_parts eui) (counted_parts (bytes " ") counter) c e a r s))

  joined_reading : joined (reading_parts station eui counter) ≡ reading_line station eui counter
  unfolding joined reading_parts reading_line
  joined_reading = simp (joined_join, joined_each, joined_counted)

  pub few_reading : length (reading_line station eui counter) ≤ 80
  unfolding reading_line
  few_reading = simp length-append (omega (arith, few_digits 20 station, few_digits 20 eui, few_digits 20 counter))

  module _ (d : List ℕ) (h : length d ≡ 80) (v : Put) (p : v ≡ put_parts (reading_parts station eui counter) (put d 0)) where
    pub reading_size : v.next ≤ length v.room
    reading_size = made_size (reading_parts station eui counter) (reading_line station eui counter) joined_reading few_reading d h v p

    pub reading_taken : v.next ≡ length (take v.next v.room)
    reading_taken = made_taken (reading_parts station eui counter) (reading_line station eui counter) joined_reading few_reading d h v p

    pub reading_made : (o a : Put) → a ≡ put_parts (take v.next v.room ∷ []) o → a ≡ put_parts (reading_line station eui counter ∷ []) o
    reading_made = made_put (reading_parts station eui counter) (reading_line station eui counter) joined_reading few_reading d h v p

module _ (station : ℕ) (r : Option Credited) where
  pub new_line : (c : Credited) → r ≡ Some c → (o a : Put) → a ≡ put_parts (reading_line station c.eui c.counter ∷ []) o → a ≡ put_parts (line_of station r ∷ []) o
  unfolding line_of
  new_line c n o a q = simp n q

  pub no_line : r ≡ None → (o : Put) → o ≡ put_parts (line_of station r ∷ []) o
  unfolding line_of
  no_line n o = simp n (none_put o)

pub ruleset lining = (new_line, no_line)

pub few_line : (station : ℕ) (r : Option Credited) → length (line_of station r) ≤ 80
unfolding line_of
few_line station (Some r) = few_reading station r.eui r.counter
few_line station None = omega arith

joined_refused : (number : ℕ) → joined (counted_parts (bytes "refused ") number) ≡ refused_line number
unfolding refused_line
joined_refused number = joined_counted (bytes "refused ") number

pub few_refused : (number : ℕ) → length (refused_line number) ≤ 80
unfolding refused_line
few_refused number = omega (arith, few_counted (bytes "refused ") number)

module _ (number : ℕ) (d : List ℕ) (h : length d ≡ 80) (v : Put) (p : v ≡ put_parts (counted_parts (bytes "refused ") number) (put d 0)) where
  pub refused_size : v.next ≤ length v.room
  refused_size = made_size (counted_parts (bytes "refused ") number) (refused_line number) (joined_refused number) (few_refused number) d h v p

  pub refused_taken : v.next ≡ length (take v.next v.room)
  refused_taken = made_taken (counted_parts (bytes "refused ") number) (refused_line number) (joined_refused number) (few_refused number) d h v p

  pub refused_made : (o a : Put) → a ≡ put_parts (take v.next v.room ∷ []) o → a ≡ put_parts (refused_line number ∷ []) o
  refused_made = made_put (counted_parts (bytes "refused ") number) (refused_line number) (joined_refused number) (few_refused number) d h v p
