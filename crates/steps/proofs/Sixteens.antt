-- Sixteen bytes and the two numbers that they write: read, compared and put as numbers they are the bytes of the definitions. Each law in the shape of
-- a need of the code. Assumes nothing.
use mathlib.Core.Path.{◌≡◌, refl, sym, ap, ap₂, ◌∙◌}
use mathlib.Core.Bool.{true, ◌&&◌}
use mathlib.Core.List.{List, [], ◌++◌, append-nil}
use Prim.Native.Nat.{ℕ, ◌+◌, ◌^◌, ◌≤◌, ◌<◌}
use native.Mathlib.Omega.{arith}
use lib.Dec.{eqb}
use lib.ListN.{length, get_or, take, drop}
use lib.Seq.{take-add, take_all, drop_at, drop-drop, get_or-take, get_or-drop}
use mir.Syntax.{w64}
use mir.Val.{Fits}
use borrow.Author.Tests.{eq-eqb, eqb-true}
use Rattle.octets.specs.{Number.big_at, Number.if_there, Bytes.IsBytes, Bytes.big_bytes, Bytes.put_at, Code.Put.put_number}
use Rattle.octets.proofs.{Digits.length_big, Digits.big_here, Digits.big_again, Places.same_big, Ranges.same_test, Truth.both}
use Rattle.octets.proofs.{Reading.Told, Reading.is_bytes, Reading.if_there_lem}
use Rattle.octets.proofs.Writing.{put_then}
use Rattle.names.specs.Names.{same_bytes}
use Rattle.names.proofs.Same.{same_eq, eq_same}
use Rattle.record.specs.declared.Sixteen.{Sixteen}
use Rattle.record.specs.{Record.four_of, Record.sixteen_of, Says.sixteen_bytes}

-- the numbers of bytes that write them, and the bytes of numbers that are read
pub sixteen_back : (z : Sixteen) → z.high < 256 ^ 8 → z.low < 256 ^ 8 → sixteen_of (sixteen_bytes z) ≡ z
unfolding sixteen_bytes
sixteen_back z f g =
    let a = big_bytes 8 z.high in
    let b = big_bytes 8 z.low in
    ap₂ (λ (h l : ℕ). record { high = h; low = l }) (big_here 8 z.high f (a ++ b) 0 b refl)
    (big_here 8 z.low g (a ++ b) 8 [] (drop_at a b 8 (length_big 8 z.high) ∙ sym (append-nil b)))

parts_are : (d : List ℕ) (at : ℕ) → IsBytes d → at + 16 ≤ length d → take 16 (drop at d) ≡ big_bytes 8 (big_at d at 8) ++ big_bytes 8 (big_at d (at + 8) 8)
parts_are d at b h =
    take-add 8 8 (drop at d) ∙ ap (λ (l : List ℕ). take 8 (drop at d) ++ take 8 l) (drop-drop 8 at d)
    ∙ sym (ap₂ (λ (a c : List ℕ). a ++ c) (big_again d b at 8 (omega arith)) (big_again d b (at + 8) 8 (omega arith)))

-- all bytes of a list of sixteen
pub sixteen_again : (u : List ℕ) → IsBytes u → length u ≡ 16 → sixteen_bytes (sixteen_of u) ≡ u
unfolding sixteen_bytes
sixteen_again u b h = sym (parts_are u 0 b (omega arith)) ∙ take_all 16 u (omega arith)

-- a number as the code reads it, and in the sixteen bytes
module _ (d : List ℕ) (at : ℕ) (h : at + 16 ≤ length d) where
  high_there : (x : ℕ) → x ≡ if_there d at 8 (big_at d at 8) → x ≡ big_at d at 8
  high_there x e = e ∙ if_there_lem d at 8 (big_at d at 8) (omega arith) (omega arith)

  low_there : (y : ℕ) → y ≡ if_there d (at + 8) 8 (big_at d (at + 8) 8) → y ≡ big_at d (at + 8) 8
  low_there y e = e ∙ if_there_lem d (at + 8) 8 (big_at d (at + 8) 8) (omega arith) (omega arith)

  number_in : (k : ℕ) → k + 8 ≤ 16 → big_at d (at + k) 8 ≡ big_at (take 16 (drop at d)) k 8
  number_in k l = same_big d (take 16 (drop at d)) (at + k) k 8
      (λ j f. let e : at + k + j ≡ at + (k + j) = omega arith in
      ap (λ (n : ℕ). get_or d n 0) e ∙ sym (get_or-take 16 (drop at d) (k + j) 0 (omega arith) ∙ get_or-drop at d (k + j) 0))

  module _ (x y : ℕ) (p : x ≡ if_there d at 8 (big_at d at 8)) (q : y ≡ if_there d (at + 8) 8 (big_at d (at + 8) 8)) where
    pub sixteen_read : ◌≡◌ {A = Sixteen} (record { high = x; low = y }) (sixteen_of (take 16 (drop at d)))
    sixteen_read =
        let e : at ≡ at + 0 = omega arith in
        ap₂ (λ (a b : ℕ). record { high = a; low = b }) (high_there x p ∙ ap (λ (n : ℕ). big_at d n 8) e ∙ number_in 0 (omega arith)) (low_there y q ∙ number_in 8 (omega arith))

    module _ (z : Sixteen) (told : Told d) (f : Fits w64 z.high) (g : Fits w64 z.low) where
      same_numbers : eqb x z.high && eqb y z.low ≡ true → same_bytes (take 16 (drop at d)) (sixteen_bytes z) ≡ true
      unfolding sixteen_bytes
      same_numbers e =
          let t = both (eqb x z.high) (eqb y z.low) e in
          eq_same (take 16 (drop at d)) (sixteen_bytes z)
          (parts_are d at (is_bytes d told) h
          ∙ ap₂ (λ (a c : ℕ). big_bytes 8 a ++ big_bytes 8 c) (sym (high_there x p) ∙ eqb-true x z.high t.0) (sym (low_there y q) ∙ eqb-true y z.low t.1))

      same_bytes_lem : same_bytes (take 16 (drop at d)) (sixteen_bytes z) ≡ true → eqb x z.high && eqb y z.low ≡ true
      same_bytes_lem e =
          let o : ◌≡◌ {A = Sixteen} (record { high = x; low = y }) z = sixteen_read ∙ ap sixteen_of (same_eq (take 16 (drop at d)) (sixteen_bytes z) e) ∙ sixteen_back z f.fits g.fits in
          simp (eq-eqb x z.high (ap (λ (s : Sixteen). s.high) o), eq-eqb y z.low (ap (λ (s : Sixteen). s.low) o))

      pub sixteen_same : eqb x z.high && eqb y z.low ≡ same_bytes (take 16 (drop at d)) (sixteen_bytes z)
      sixteen_same = same_test (eqb x z.high && eqb y z.low) (same_bytes (take 16 (drop at d)) (sixteen_bytes z)) same_numbers same_bytes_lem

pub four_read : (d : List ℕ) (x : ℕ) → length d ≡ 4 → x ≡ if_there d 0 4 (big_at d 0 4) → x ≡ four_of d
four_read d x h e = e ∙ if_there_lem d 0 4 (big_at d 0 4) (omega arith) (omega arith)

-- put as numbers
pub sixteen_put : (d a f : List ℕ) (at : ℕ) (z : Sixteen) → at + 16 ≤ length d → a ≡ put_number d at 8 (big_bytes 8 z.high) → f ≡ put_number a (at + 8) 8 (big_bytes 8 z.low) → f ≡ put_at d at (sixteen_bytes z)
unfolding sixteen_bytes
sixteen_put d a f at z h p q =
    let n = length_big 8 z.high in
    q ∙ ap (λ (l : List ℕ). put_at l (at + 8) (big_bytes 8 z.low)) p
    ∙ ap (λ (k : ℕ). put_at (put_at d at (big_bytes 8 z.high)) (at + k) (big_bytes 8 z.low)) (sym n)
    ∙ put_then d at (big_bytes 8 z.high) (big_bytes 8 z.low) (omega (arith, n, length_big 8 z.low))
