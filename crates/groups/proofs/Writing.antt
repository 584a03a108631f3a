-- Groups of seven bits, each a part, the lowest first: as many are written as the definition has. Each law in the shape of a need of the code.
-- Assumes nothing.
use mathlib.Core.Path.{◌≡◌, refl}
use mathlib.Core.List.{List, [], ◌∷◌}
use Prim.Native.Nat.{ℕ, zero, suc, ◌+◌, ◌-◌, ◌/◌, ◌%◌, ◌≤◌, ◌<◌}
use native.Mathlib.Omega.{arith}
use lib.ListN.{length}
use borrow.Author.Tests.{lt-ltb, le-ltb}
use Rattle.octets.specs.Bytes.{put_at}
use Rattle.forms.specs.Code.Put.{Put, put, put_parts, joined}
use Rattle.forms.proofs.{Putting.parts_then, Putting.fits_parts, Decimals.joined_each}
use Rattle.groups.specs.{Groups.groups_of, Groups.number_bytes, Code.Parts.group_parts}

module _ (o a : Put) (n : ℕ) where
  pub groups_none : (most : ℕ) → most ≡ 0 → o ≡ put_parts (group_parts most n) o
  unfolding groups_of put_parts
  groups_none most e = rw e

  pub groups_last : (most : ℕ) → (most ≡ 0 → ⊥) → n < 128 → a ≡ put_parts ((n ∷ []) ∷ []) o → a ≡ put_parts (group_parts most n) o
  unfolding groups_of
  groups_last zero f h e = absurd (f refl)
  groups_last (suc most) f h e = simp (lt-ltb n 128 h) e

  pub groups_more : (b : Put) (most : ℕ) → (most ≡ 0 → ⊥) → 128 ≤ n → b ≡ put_parts (((128 + n % 128) ∷ []) ∷ []) o → a ≡ put_parts (group_parts (most - 1) (n / 128)) b → a ≡ put_parts (group_parts most n) o
  unfolding groups_of
  groups_more b zero f h e g = absurd (f refl)
  groups_more b (suc most) f h e g =
      let k : suc most - 1 ≡ most = omega arith in
      simp (le-ltb n 128 h) (parts_then (((128 + n % 128) ∷ []) ∷ []) (group_parts most (n / 128)) o b a e (rw k at g))

-- otherwise tested
pub seven_bits : (n : ℕ) → n ≤ 127 → n < 128
seven_bits n h = omega arith

pub ruleset writes = (groups_none, groups_last, groups_more, seven_bits, arith)

-- where all groups have room, the number's bytes stand there
pub number_put : (d : List ℕ) (at n : ℕ) → at + length (number_bytes n) ≤ length d → put_parts (group_parts 10 n) (put d at) ≡ put (put_at d at (number_bytes n)) (at + length (number_bytes n))
number_put d at n h =
    let e : joined (group_parts 10 n) ≡ number_bytes n = joined_each (number_bytes n) in
    rw e at (fits_parts (group_parts 10 n) d at (rw e h))
