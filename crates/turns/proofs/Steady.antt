-- What turns must keep to, so that it does not matter how their input is cut. Assumes nothing.
use mathlib.Core.{Path.◌≡◌, Bool.Bool, Bool.true, Bool.false}
use Prim.Native.Nat.{ℕ, ◌≤◌}
use mathlib.Core.List.{List, [], ◌++◌}
use lib.ListN.{length}
use Rattle.turns.specs.Turns.{Turn}

pub record Steady {S : Type 0} (T : Bool → S → List ℕ → Turn S → Type 0) : Type 0 where
  -- there is a turn, and no second
  pub told : (last : Bool) (x : S) (h : List ℕ) → (t : Turn S) × T last x h t
  pub once : (last : Bool) (x : S) (h : List ℕ) (t u : Turn S) → T last x h t → T last x h u → t ≡ u
  -- it uses bytes that are there
  pub within : (last : Bool) (x : S) (h : List ℕ) (t : Turn S) → T last x h t → t.used ≤ length h
  -- one that waits is not the last, prints nothing and leaves the state
  pub waits : (last : Bool) (x : S) (h : List ℕ) (t : Turn S) → T last x h t → t.ended ≡ false → t.used ≡ 0 → (last ≡ false) × ((t.text ≡ []) × (t.state ≡ x))
  -- one that does not wait is the same however the input goes on
  pub stays : (x : S) (h p : List ℕ) (l : Bool) (t : Turn S) → T false x h t → ((t.ended ≡ false → t.used ≡ 0 → ⊥)) → T l x (h ++ p) t
