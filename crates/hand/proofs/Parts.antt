-- A part of a buffer, and none. Assumes nothing.
use mathlib.Core.{Path.◌≡◌, List.List}
use Prim.Native.Nat.{ℕ, ◌-◌, ◌≤◌, ◌<◌}
use lib.{ListN.length, ListN.take, ListN.drop}
use borrow.Author.Tests.{le-leb, lt-leb}
use Rattle.hand.specs.Code.Part.{part_of}

module _ (s : List ℕ) (a e : ℕ) where
  pub part_backward : e < a → take 0 s ≡ part_of s a e
  unfolding part_of
  part_backward h = simp (lt-leb a e h)

  pub part_past : a ≤ e → length s < e → take 0 s ≡ part_of s a e
  unfolding part_of
  part_past h l = simp (le-leb a e h, lt-leb e (length s) l)

  pub part_there : a ≤ e → e ≤ length s → take (e - a) (drop a s) ≡ part_of s a e
  unfolding part_of
  part_there h l = simp (le-leb a e h, le-leb e (length s) l)

pub ruleset parts = (part_backward, part_past, part_there)
