-- A refusal shows 0 bytes used, and no answer more than there are. Assumes nothing.
use mathlib.Core.{Path.◌≡◌, Path.refl, Path.ap, List.List}
use Prim.Native.Nat.{ℕ, ◌≤◌}
use native.Mathlib.Omega.{arith}
use lib.ListN.{length}
use Rattle.refusal.specs.declared.Refusal.{Refusal}
use Rattle.std.specs.Prelude.{Ok, Err}
use Rattle.frame.specs.Frame.{Framed, framed_of, used_of}
use Rattle.frame.proofs.Format.{fits}

module _ (s : List ℕ) where
  pub refused_uses_none : (r : Refusal) → framed_of s ≡ Err r → used_of (framed_of s) ≡ 0
  refused_uses_none r e = ap used_of e

  within : (f : Framed) → framed_of s ≡ f → used_of f ≤ length s
  within (Ok n) e = fits s n e
  within (Err r) e = omega arith

  pub used_within : used_of (framed_of s) ≤ length s
  used_within = within (framed_of s) refl

pub ruleset used = (refused_uses_none, used_within)
