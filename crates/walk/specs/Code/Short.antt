-- What the loops do by a lead byte alone, without the element reader.
use mathlib.Core.{Path.◌≡◌, Bool.Bool, Bool.false, List.List}
use Rattle.std.specs.Prelude.{ℕ, zero, suc, ◌+◌, ◌-◌, ◌*◌, ◌^◌, ◌≤◌, min, is_none}
use lib.{Dec.leb, Dec.ltb, Dec.eqb, ListN.length, ListN.get_or}
use Rattle.octets.specs.Choice.{either}
use Rattle.element.specs.declared.Shape.{Shape, TheVariants.Never, TheVariants.Plain, TheVariants.Text, TheVariants.Array, TheVariants.Map}
use Rattle.element.specs.declared.Head.{Head}
use Rattle.element.specs.{Lead.head_of, Form.Role, Form.fault_of}

-- r is the head that the lead byte b announces; no head states more than four bytes of length
pub record Announces (b : ℕ) (r : Head) : Type 0 where
  pub is : r ≡ head_of b
  pub wide : r.wide ≤ 4
  pub more : r.more ≤ 31

-- 2 to the k, for the widths that lead bytes say
abbrev pub two_to : ℕ → ℕ
two_to k = 2 ^ min k 4

-- float 32 and 64, unsigned and signed integers
abbrev pub is_number : ℕ → Bool
is_number b = either (ltb b 0xCA) (λ _. false) (λ _. ltb b 0xD4)

abbrev pub quick_by : Shape → ℕ → ℕ → ℕ
quick_by Never wide more = 0
quick_by Plain zero more = more + 1
quick_by Plain (suc w) more = 0
quick_by Text zero more = more + 1
quick_by Text (suc w) more = 0
quick_by Array zero more = 128 + more
quick_by Array (suc w) more = 0
quick_by Map zero more = 64 + more
quick_by Map (suc w) more = 0

-- what a lead byte alone tells: below 64 the bytes of an element without parts, 64 and more a map's pairs, 128 and
-- more an array's parts; 0 where bytes of length follow, and at C1
unfoldable pub quick_of : ℕ → ℕ
quick_of b = quick_by (head_of b).shape (head_of b).wide (head_of b).more

-- the bytes of an element have to be there
abbrev pub present : ℕ → ℕ → ℕ
present len q = either (ltb q 64) (λ _. either (leb q len) (λ _. q) (λ _. 0)) (λ _. q)

-- the same of the element at a place, where it breaks no rule; else 0
unfoldable pub quick_at : List ℕ → ℕ → Role → ℕ → ℕ → ℕ
quick_at s left role at count =
    either (is_none (fault_of s left role at count)) (λ _. present (length s - at) (quick_of (get_or s at 0))) (λ _. 0)

-- bounds that a caller's sums need: r is at most 160, an element is there, it is counted, and it has a level
pub record Bounded (len left at count r : ℕ) : Type 0 where
  pub most : r ≤ 160
  pub within : r ≤ (len - at) + 160 * (r - 63)
  pub there : r ≤ 160 * (len - at)
  pub few : r ≤ 160 * (1024 - count)
  pub deep : r ≤ 160 * left

-- an element without parts
abbrev pub is_short : ℕ → Bool
is_short z = either (eqb z 0) (λ _. false) (λ _. ltb z 64)

-- the value behind a key of y bytes; 0 where there is no such key
unfoldable pub quick_after : List ℕ → ℕ → ℕ → ℕ → ℕ → ℕ
quick_after s left at count y = either (eqb y 0) (λ _. 0) (λ _. quick_at s left Role.value (at + y) (count + 1))

-- its bounds: there is a key, and the value's own bounds hold
pub record After (len left at count y r : ℕ) : Type 0 where
  pub key : r ≤ 160 * y
  pub bounds : Bounded len left (at + y) (count + 1) r

-- z is what the lead byte tells of a value that is not short
pub record Opens (s : List ℕ) (left at count z : ℕ) : Type 0 where
  pub is : z ≡ quick_at s left Role.value at count
  pub bounds : Bounded (length s) left at count z
  pub long : is_short z ≡ false

-- y and z are what the lead bytes tell of a key and its value, where the value is not short
pub record QuickPair (s : List ℕ) (left at count y z : ℕ) : Type 0 where
  pub key : y ≡ quick_at s left Role.key at (count + 1)
  pub small : y ≤ 32
  pub bounds : Bounded (length s) left at (count + 1) y
  pub value : z ≡ quick_after s left at count y
  pub after : After (length s) left at count y z
  pub long : is_short z ≡ false
