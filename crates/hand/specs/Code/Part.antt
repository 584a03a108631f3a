-- Bytes at hand: a part of a buffer. No statement of the host's calls rests on this page.
use Rattle.std.specs.Prelude.{ℕ, ◌-◌, ◌≤◌}
use mathlib.Core.{Path.◌≡◌, Bool.◌&&◌, List.List, List.[], List.◌++◌}
use lib.{Dec.leb, ListN.length, ListN.take, ListN.drop}
use Rattle.octets.specs.Choice.{either}

-- the part of s from a to e; empty where s has no such part
unfoldable pub part_of : List ℕ → ℕ → ℕ → List ℕ
part_of s a e = either (leb a e && leb e (length s)) (λ _. take (e - a) (drop a s)) (λ _. [])

-- the bytes at hand are a part of the buffer
pub record Sound (d : List ℕ) (from to : ℕ) : Type 0 where
  pub ordered : from ≤ to
  pub there : to ≤ length d

-- what was at hand stands first, and what was read behind it: no byte is lost
pub record Follows (before d : List ℕ) (from to : ℕ) : Type 0 where
  pub sound : Sound d from to
  pub more : List ℕ
  pub same : part_of d from to ≡ before ++ more
