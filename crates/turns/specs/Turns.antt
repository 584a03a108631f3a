-- Turns over an input that arrives in pieces of any length: each is handed the bytes that are at hand, and told whether they are the last.
use mathlib.Core.{Path.◌≡◌, Bool.Bool, Bool.true, Bool.false}
use Rattle.std.specs.Prelude.{ℕ, List, [], ◌∷◌, ◌++◌, drop}

-- how many bytes are used, what is printed, whether it is the last that is, and the state afterwards
pub record Turn (S : Type 0) : Type 0 where
  pub used : ℕ
  pub text : List ℕ
  pub ended : Bool
  pub state : S

-- the whole input
abbrev pub whole : List (List ℕ) → List ℕ
whole [] = []
whole (p ∷ ps) = p ++ whole ps

module _ {S : Type 0} (T : Bool → S → List ℕ → Turn S → Type 0) where
  -- all that is printed, and the last state, by whether the end was seen, the state, the bytes at hand and the pieces to come. Bytes that are used are passed
  -- over; a turn that uses none waits: a piece is joined, and where none is left the next turn is told so
  pub data Runs : Bool → S → List ℕ → List (List ℕ) → List ℕ → S → Type 0 where
    ends : (last : Bool) (x : S) (h : List ℕ) (ps : List (List ℕ)) (t : Turn S) → T last x h t → t.ended ≡ true → Runs last x h ps t.text t.state
    passes : (last : Bool) (x y : S) (h : List ℕ) (ps : List (List ℕ)) (out : List ℕ) (t : Turn S) → T last x h t → t.ended ≡ false → (t.used ≡ 0 → ⊥)
        → Runs last t.state (drop t.used h) ps out y → Runs last x h ps (t.text ++ out) y
    joins : (last : Bool) (x y : S) (h p : List ℕ) (ps : List (List ℕ)) (out : List ℕ) (t : Turn S) → T last x h t → t.ended ≡ false → t.used ≡ 0
        → Runs last t.state (h ++ p) ps out y → Runs last x h (p ∷ ps) (t.text ++ out) y
    closes : (last : Bool) (x y : S) (h out : List ℕ) (t : Turn S) → T last x h t → t.ended ≡ false → t.used ≡ 0
        → Runs true t.state h [] out y → Runs last x h [] (t.text ++ out) y
