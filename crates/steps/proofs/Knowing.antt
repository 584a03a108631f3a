-- What a session knows of IDs, as the code computes it: a signed number of 64 bits is kept by the machine, and its tests of order are those
-- of the definitions. Assumes nothing.
use mathlib.Core.Path.{◌≡◌, refl, sym, ap, ◌∙◌}
use mathlib.Core.Bool.{Bool, true, false, not, ◌&&◌, ◌||◌}
use mathlib.Core.List.{List}
use Prim.Native.Nat.{ℕ, ◌+◌, ◌≤◌, ◌<◌}
use native.Mathlib.Omega.{arith}
use lib.{Dec.eqb, Dec.leb, Dec.ltb, IntN.ℤ, IntN.pos, IntN.negsuc, Signed.mag, Signed.lt_z, Signed.le_z}
use lib.ListN.{length, take, drop, get_or}
use mir.Syntax.{w64}
use mir.Val.{to_z, of_z}
use mir.ValLaws.{to_z-of_z}
use borrow.Author.Tests.{lt-ltb, le-ltb, leb-true, leb-false, ltb-false}
use Rattle.std.specs.Prelude.{cond}
use Rattle.std.specs.Int.{int_max, int_min}
use Rattle.octets.specs.{Choice.either, Number.little_at, Number.if_there, Signed.signed_of}
use Rattle.octets.proofs.Reading.{if_there_lem}
use Rattle.names.specs.Names.{same_bytes}
use Rattle.message.specs.declared.Maybe.{Maybe}
use Rattle.record.specs.declared.Con.{Con}
use Rattle.record.specs.Says.{sixteen_bytes}
use Rattle.session.specs.{Session.Session, Image.id_at, Image.session_at}
use Rattle.session.specs.Arrive.{is_below, highest_of, lowest_of, resumes}

pub kept : (z : ℤ) → mag z < 0x8000000000000000 → to_z w64 (of_z w64 z) ≡ z
kept z h = to_z-of_z w64 z (record { sfits = h })

-- the word that is there, as a signed number
pub id_read : (d : List ℕ) (at w : ℕ) (z : ℤ) → mag z < 0x8000000000000000 → z ≡ signed_of 64 w → w ≡ if_there d at 8 (little_at d at 8) → at + 8 ≤ length d → to_z w64 (of_z w64 z) ≡ id_at d at
id_read d at w z h e f l = kept z h ∙ e ∙ ap (signed_of 64) (f ∙ if_there_lem d at 8 (little_at d at 8) (omega arith) l)

not_above : (a b : ℕ) (x : Bool) → leb a b ≡ x → x ≡ not (ltb b a)
not_above a b true e = sym (ap not (le-ltb b a (leb-true a b e)))
not_above a b false e = sym (ap not (lt-ltb b a (leb-false a b e)))

pub le_is : (a b : ℤ) → le_z a b ≡ not (lt_z b a)
le_is (pos a) (pos b) = not_above a b (leb a b) refl
le_is (pos a) (negsuc b) = refl
le_is (negsuc a) (pos b) = refl
le_is (negsuc a) (negsuc b) = not_above b a (leb b a) refl

-- the library's greater and lesser of a number and 0
max_zero : (z : ℤ) → int_max z (pos 0) ≡ either (is_below z (pos 0)) (λ _. pos 0) (λ _. z)
max_zero (pos n) = go (ltb 0 n) refl
  where
    go : (b : Bool) → ltb 0 n ≡ b → cond b (pos n) (pos 0) ≡ either (ltb n 0) (λ _. pos 0) (λ _. pos n)
    go true e = rw (le-ltb n 0 (omega arith))
    go false e = let z : n ≡ 0 = omega (arith, ltb-false 0 n e) in rw z
max_zero (negsuc k) = refl

min_zero : (z : ℤ) → int_min z (pos 0) ≡ either (is_below (pos 0) z) (λ _. pos 0) (λ _. z)
min_zero (pos n) = go (ltb 0 n)
  where
    go : (b : Bool) → cond b (pos 0) (pos n) ≡ either b (λ _. pos 0) (λ _. pos n)
    go true = refl
    go false = refl
min_zero (negsuc k) = refl

-- a number that was read, z, is the session's
module _ (s : Session) (z : ℤ) (h : mag z < 0x8000000000000000) where
  module _ (x : ℤ) (g : mag x < 0x8000000000000000) where
    pub highest_max : z ≡ s.highest → x ≡ int_max (to_z w64 (of_z w64 z)) (pos 0) → to_z w64 (of_z w64 x) ≡ highest_of s
    highest_max e q = kept x g ∙ q ∙ ap (λ (y : ℤ). int_max y (pos 0)) (kept z h ∙ e) ∙ max_zero s.highest

    pub lowest_min : z ≡ s.lowest → x ≡ int_min (to_z w64 (of_z w64 z)) (pos 0) → to_z w64 (of_z w64 x) ≡ lowest_of s
    lowest_min e q = kept x g ∙ q ∙ ap (λ (y : ℤ). int_min y (pos 0)) (kept z h ∙ e) ∙ min_zero s.lowest

-- a result that is known by its definition
pub result_bits : (x y : ℤ) → mag x < 0x8000000000000000 → x ≡ y → mag y < 0x8000000000000000
result_bits x y h e = rw e at h

-- the machine's test of two numbers, of which one is known by its definition
pub le_kept : (a x y : ℤ) → mag a < 0x8000000000000000 → mag y < 0x8000000000000000 → x ≡ y → le_z (to_z w64 (of_z w64 a)) (to_z w64 (of_z w64 x)) ≡ not (is_below y a)
le_kept a x y h k e = rw (kept a h, e, kept y k, le_is a y)

pub ge_kept : (a x y : ℤ) → mag a < 0x8000000000000000 → mag y < 0x8000000000000000 → x ≡ y → le_z (to_z w64 (of_z w64 x)) (to_z w64 (of_z w64 a)) ≡ not (is_below a y)
ge_kept a x y h k e = rw (kept a h, e, kept y k, le_is y a)

-- what a con says that it knows, if it says so
module _ (d : List ℕ) (id : Maybe ℤ) (h : mag id.value < 0x8000000000000000) (x : ℤ) (g : mag x < 0x8000000000000000) where
  pub station_knows : x ≡ highest_of (session_at d) → not id.here || le_z (to_z w64 (of_z w64 id.value)) (to_z w64 (of_z w64 x)) ≡ not id.here || not (is_below (highest_of (session_at d)) id.value)
  station_knows e = ap (λ (b : Bool). not id.here || b) (le_kept id.value x (highest_of (session_at d)) h (result_bits x (highest_of (session_at d)) g e) e)

  pub centre_knows : x ≡ lowest_of (session_at d) → not id.here || le_z (to_z w64 (of_z w64 x)) (to_z w64 (of_z w64 id.value)) ≡ not id.here || not (is_below id.value (lowest_of (session_at d)))
  centre_knows e = ap (λ (b : Bool). not id.here || b) (ge_kept id.value x (lowest_of (session_at d)) h (result_bits x (lowest_of (session_at d)) g e) e)

-- five conditions, each by its own test
five : (a b x y z : Bool) → (((a && b) && x) && y) && z ≡ a && (b && (x && (y && z)))
five true true true y z = refl
five true true false y z = refl
five true false x y z = refl
five false b x y z = refl

module _ (d : List ℕ) (x : Con) (e : ℕ) (u v w : Bool) where
  pub resumes_is : 8 ≤ length d → e ≡ if_there d 0 8 (little_at d 0 8) → u ≡ same_bytes (take 16 (drop 312 d)) (sixteen_bytes x.sn_bs_uuid)
      → v ≡ not x.sn_bs_op_id.here || not (is_below (highest_of (session_at d)) x.sn_bs_op_id.value)
      → w ≡ not x.sn_sc_op_id.here || not (is_below x.sn_sc_op_id.value (lowest_of (session_at d)))
      → (((not (eqb (get_or d 345 0) 0) && eqb e x.bs_eui) && u) && v) && w ≡ resumes (session_at d) x
  unfolding session_at
  resumes_is h p q r s =
      let f : e ≡ little_at d 0 8 = p ∙ if_there_lem d 0 8 (little_at d 0 8) (omega arith) (omega arith) in
      five (not (eqb (get_or d 345 0) 0)) (eqb e x.bs_eui) u v w ∙ rw (f, q, r, s)
