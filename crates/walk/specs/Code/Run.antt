-- The parts of an array that are a byte below 0x80, or a byte behind CC, passed without the element reader.
use mathlib.Core.{Path.◌≡◌, Bool.Bool, Bool.false, Bool.◌&&◌, List.List}
use Rattle.std.specs.Prelude.{ℕ, ◌+◌, ◌-◌, ◌*◌, ◌≤◌, ◌<◌, leb}
use Rattle.octets.specs.Code.Low.{are_low}
use Rattle.element.specs.{Form.Role, Form.next, Form.element_of, Code.Items.items_of}

-- eight parts more of n are left, and are bytes below 0x80
unfoldable pub eight_more : List ℕ → ℕ → ℕ → Bool
eight_more s at n = leb 8 n && are_low s at 8

-- the place behind the part at a place, wherever that may be counted and has a level
pub record Follows (s : List ℕ) (at behind : ℕ) : Type 0 where
  pub is : (left count : ℕ) → count < 1024 → (left ≡ 0 → ⊥) → element_of s left Role.value at count ≡ next behind (count + 1)

-- of n parts the first are passed: wherever they may be counted and have a level, the walk's answer from behind them is its answer
pub record Passes (s : List ℕ) (n at next parts : ℕ) : Type 0 where
  pub is : (left m count : ℕ) → parts ≤ m → parts ≤ 1024 - count → parts ≤ 1024 * left
      → items_of s left false m at count ≡ items_of s left false (m - parts) next (count + parts)
  pub most : parts ≤ n

-- the same of an array at a level, with so many elements counted
pub record Ran (s : List ℕ) (left n at count next parts : ℕ) : Type 0 where
  pub is : items_of s left false n at count ≡ items_of s left false (n - parts) next (count + parts)
  pub most : parts ≤ n
  pub few : parts ≤ 1024 - count
