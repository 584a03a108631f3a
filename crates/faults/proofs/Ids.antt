-- A signed number in the code is its bits: they are zero exactly if it is, and the tests of its sign are those of its range. Assumes nothing.
use mathlib.Core.{Path.◌≡◌, Path.refl, Path.sym, Bool.true, Bool.false}
use Prim.Native.Nat.{suc, ◌-◌, ◌<◌}
use native.Mathlib.Omega.{arith}
use lib.{Dec.eqb, IntN.ℤ, IntN.pos, IntN.negsuc, Signed.mag, Signed.le_z}
use mir.Syntax.{w64}
use mir.Val.{to_z, of_z}
use mir.Facts.{to_z-of_z}
use borrow.Author.Tests.{le-leb, lt-leb, ne_eqb}
use Rattle.field.specs.Judge.{in_range}
use Rattle.message.specs.declared.Maybe.{Maybe}
use Rattle.saying.specs.Says.{is_zero}
use Rattle.faults.specs.Code.Tests.{station_id_fits, centre_id_fits}

zero_bits : (z : ℤ) → mag z < 0x8000000000000000 → eqb (of_z w64 z) 0 ≡ is_zero z
zero_bits (pos n) h = refl
zero_bits (negsuc k) h = ne_eqb (0x10000000000000000 - suc k) 0 (λ (e : 0x10000000000000000 - suc k ≡ 0). omega arith)

from_zero : (z : ℤ) → mag z < 0x8000000000000000 → le_z (pos 0) z ≡ in_range 0 0x7FFFFFFFFFFFFFFF z
from_zero (pos n) h = rw (le-leb 0 n (omega arith), le-leb n 0x7FFFFFFFFFFFFFFF (omega arith))
from_zero (negsuc k) h = sym (lt-leb (suc k) 0 (omega arith))

to_zero : (z : ℤ) → mag z < 0x8000000000000000 → le_z z (pos 0) ≡ in_range 0x8000000000000000 0 z
to_zero (pos n) h = refl
to_zero (negsuc k) h = sym (le-leb (suc k) 0x8000000000000000 h)

module _ (v : Maybe ℤ) (h : mag v.value < 0x8000000000000000) where
  back : to_z w64 (of_z w64 v.value) ≡ v.value
  back = to_z-of_z {w = w64} {z = v.value} (record { sfits = h })

  pub station_here : v.here ≡ true → le_z (pos 0) (to_z w64 (of_z w64 v.value)) ≡ station_id_fits v
  unfolding station_id_fits
  station_here e = rw (e, back) (from_zero v.value h)

  pub station_absent : v.here ≡ false → eqb (of_z w64 v.value) 0 ≡ station_id_fits v
  unfolding station_id_fits
  station_absent e = rw e (zero_bits v.value h)

  pub centre_here : v.here ≡ true → le_z (to_z w64 (of_z w64 v.value)) (pos 0) ≡ centre_id_fits v
  unfolding centre_id_fits
  centre_here e = rw (e, back) (to_zero v.value h)

  pub centre_absent : v.here ≡ false → eqb (of_z w64 v.value) 0 ≡ centre_id_fits v
  unfolding centre_id_fits
  centre_absent e = rw e (zero_bits v.value h)

pub ruleset ids = (station_here, station_absent, centre_here, centre_absent)
