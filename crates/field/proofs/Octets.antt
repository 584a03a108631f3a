-- A part of an array of bytes: a whole number from 0 to 255 in any form, and the place behind it. Each law in the shape of a need of the code.
-- Assumes nothing.
use mathlib.Core.Path.{◌≡◌, refl, sym, ap, ap₂, ◌∙◌}
use mathlib.Core.{Bool.Bool, Bool.true, List.List, Option.Option, Option.some, Option.none}
use Prim.Native.Nat.{ℕ, ◌+◌, ◌≤◌, ◌<◌}
use native.Mathlib.Nat.{add-zero, zero-add}
use native.Mathlib.Omega.{arith}
use lib.{IntN.ℤ, Ieee.Float, ListN.length, ListN.get_or}
use mir.Syntax.{w8, w64}
use mir.Val.{Fits}
use borrow.Author.Tests.{le-leb, lt-leb}
use Rattle.octets.specs.Number.{big_at, is_there}
use Rattle.octets.proofs.Reading.{inside}
use Rattle.element.specs.declared.Shape.TheVariants.{Plain}
use Rattle.element.specs.{Lead.head_of, Lead.lead_bytes, Lead.row_in, Form.span_of, Code.At.leaf_at}
use Rattle.number.specs.declared.Number.{Number, TheVariants.Signed, TheVariants.Unsigned, TheVariants.Real}
use Rattle.std.specs.Prelude.{Some, None}
use Rattle.number.specs.{Number.Found, Number.number_of, Code.Body.bits_at}
use Rattle.number.proofs.Reading.{small_is, unsigned1}
use Rattle.walk.proofs.Leads.{row, says_low}
use Rattle.field.specs.declared.Octet.{Octet}
use Rattle.field.specs.{Judge.octet_in, Code.At.end_of, Code.Item.octet_by, Code.Item.octet_at}
use Rattle.field.proofs.{Shallow.leaf_past, Heads.plain_ends}

abbrev pub octet : ℕ → ℕ → Octet
octet v next = record { value = v; next = next }

fits_octet : (n : ℕ) → n < 256 → octet_in (Some (Unsigned n)) ≡ some n
fits_octet n h = simp (le-leb n 255 (omega arith))

module _ (s : List ℕ) (at : ℕ) where
  by_number : (x : Found) → x ≡ number_of (leaf_at s at) → octet_by (octet_in x) (end_of at (span_of s at)) ≡ octet_at s at
  unfolding octet_at
  by_number x e = ap (λ (y : Found). octet_by (octet_in y) (end_of at (span_of s at))) e

  by_octet : (x : Found) (v next : ℕ) → x ≡ number_of (leaf_at s at) → octet_in x ≡ some v → next ≡ end_of at (span_of s at) → Some (octet v next) ≡ octet_at s at
  by_octet x v next e q p = ap₂ (λ (o : Option ℕ) (k : ℕ). octet_by o k) (sym q) p ∙ by_number x e

  pub octet_past : length s ≤ at → None ≡ octet_at s at
  octet_past h = by_number None (sym (ap number_of (leaf_past s at h)))

  module _ (there : at < length s) where
    pub octet_small : get_or s at 0 < 0x80 → Some (octet (get_or s at 0) (at + 1)) ≡ octet_at s at
    octet_small h =
        by_octet (Some (Unsigned (get_or s at 0))) (get_or s at 0) (at + 1) (small_is s at there h) (fits_octet (get_or s at 0) (omega arith))
        (sym (ap (end_of at) (plain_ends s at 0 (omega arith) (says_low (get_or s at 0) (row Plain 0 0) refl h).is) ∙ add-zero (at + 1)))

    module _ (e : get_or s at 0 ≡ 0xCC) where
      pub octet_wide : at + 1 < length s → ((k : ℕ) → Fits w8 (get_or s k 0)) → Some (octet (get_or s (at + 1) 0) (at + 2)) ≡ octet_at s at
      unfolding bits_at big_at head_of lead_bytes row_in
      octet_wide h told =
          let x = get_or s (at + 1) 0 in
          let b : big_at s (at + 1) 1 ≡ x = zero-add _ ∙ ap (λ (k : ℕ). get_or s k 0) (add-zero (at + 1)) in
          let l : at + 1 + 1 ≤ length s = omega arith in
          let o : bits_at s (at + 1) 1 ≡ Some (big_at s (at + 1) 1) = simp (le-leb (at + 1 + 1) (length s) l) in
          let n : Some (Unsigned (big_at s (at + 1) 1)) ≡ number_of (leaf_at s at) =
          unsigned1 s at (Some (Unsigned (big_at s (at + 1) 1))) (Some (big_at s (at + 1) 1)) there e (sym o) refl in
          by_octet (Some (Unsigned x)) x (at + 2) (ap (λ (k : ℕ). Some (Unsigned k)) (sym b) ∙ n) (fits_octet x (told (at + 1)).fits)
          (sym (ap (end_of at) (plain_ends s at 1 l (ap head_of (sym e))) ∙ omega arith))

      pub octet_cut : length s ≤ at + 1 → None ≡ octet_at s at
      unfolding bits_at
      octet_cut h = by_number None (unsigned1 s at None None there e (sym (simp (lt-leb (at + 1 + 1) (length s) (omega arith)))) refl)

  -- where two bytes are there
  module _ (t : Bool) (e : t ≡ is_there (length s) at 2) (u : t ≡ true) where
    pub first_there : at < length s
    first_there = omega (arith, inside (length s) at 2 t e u)

    pub second_there : at + 1 < length s
    second_there = omega (arith, inside (length s) at 2 t e u)

    pub next_fits : Fits w64 (length s) → Fits w64 (at + 1)
    next_fits f = record { fits = omega (arith, inside (length s) at 2 t e u, f.fits) }

    pub behind_fits : Fits w64 (length s) → Fits w64 (at + 2)
    behind_fits f = record { fits = omega (arith, inside (length s) at 2 t e u, f.fits) }

  module _ (o : Found) (e : o ≡ number_of (leaf_at s at)) where
    pub octet_not : o ≡ None → None ≡ octet_at s at
    octet_not q = by_number None (sym q ∙ e)

    module _ (x : Number) (i : o ≡ Some x) where
      there_is : (y : Number) → x ≡ y → Some y ≡ number_of (leaf_at s at)
      there_is y q = ap (λ (n : Number). Some n) (sym q) ∙ sym i ∙ e

      pub octet_signed : (z : ℤ) → x ≡ Signed z → None ≡ octet_at s at
      octet_signed z q = by_number (Some (Signed z)) (there_is (Signed z) q)

      pub octet_real : (f : Float) → x ≡ Real f → None ≡ octet_at s at
      octet_real f q = by_number (Some (Real f)) (there_is (Real f) q)

      module _ (n : ℕ) (q : x ≡ Unsigned n) where
        pub octet_large : 256 ≤ n → None ≡ octet_at s at
        octet_large h =
            let z : octet_in (Some (Unsigned n)) ≡ none = simp (lt-leb n 255 (omega arith)) in
            ap (λ (o : Option ℕ). octet_by o (end_of at (span_of s at))) (sym z)
            ∙ by_number (Some (Unsigned n)) (there_is (Unsigned n) q)

        pub octet_any : (next : ℕ) → n < 256 → next ≡ end_of at (span_of s at) → Some (octet n next) ≡ octet_at s at
        octet_any next h p = by_octet (Some (Unsigned n)) n next (there_is (Unsigned n) q) (fits_octet n h) p

pub ruleset octets = (octet_past, octet_small, octet_wide, octet_cut, octet_signed, octet_real, octet_not, octet_large, octet_any, arith)

pub ruleset parts = (first_there, second_there, next_fits, behind_fits, octet_small, octet_wide, arith)
