-- What the calls answer, packed into one number. Assumes nothing.
use mathlib.Core.Path.{◌≡◌, refl, sym, ◌∙◌}
use mathlib.Core.Bool.{Bool, true, false}
use lib.{Dec.leb}
use Prim.Native.Nat.{ℕ, ◌≤◌, ◌<◌, min}
use native.Mathlib.Omega.{arith}
use borrow.Author.Tests.{le-leb, lt-leb, leb-true, leb-false}
use Rattle.chozukpima.specs.Packed.{most, shown}

pub shown_whole : (v : ℕ) → v ≤ most → v ≡ shown v
unfolding shown
shown_whole v h = sym (simp (le-leb v most h))

pub shown_most : (v : ℕ) → most < v → most ≡ shown v
unfolding shown
shown_most v h = sym (simp (lt-leb v most h))

pub shown_min : (v : ℕ) → min v most ≡ shown v
shown_min v = go (leb v most) refl
  where
    go : (t : Bool) → leb v most ≡ t → min v most ≡ shown v
    go true e = let h : v ≤ most = leb-true v most e in let q : min v most ≡ v = omega (arith, h) in q ∙ shown_whole v h
    go false e = let h : most < v = leb-false v most e in let q : min v most ≡ most = omega (arith, h) in q ∙ shown_most v h

-- a credit's row past 40 bits is a value past 48
pub shown_past : (v : ℕ) → most < v → shown most ≡ shown v
shown_past v h = sym (shown_whole most (omega arith)) ∙ shown_most v h
