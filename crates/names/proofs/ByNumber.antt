-- A place by numbers is the place by bytes: lists of one length whose first m bytes write one number, and whose other bytes write one, are
-- the same. Once for any list of names, by induction. Assumes nothing.
use mathlib.Core.Path.{◌≡◌, refl, sym, ap₂, subst, ◌∙◌}
use mathlib.Core.Bool.{Bool, true, ◌&&◌}
use mathlib.Core.List.{List, [], ◌∷◌, ◌++◌}
use Prim.Native.Nat.{ℕ, suc, ◌-◌, ◌≤◌}
use native.Mathlib.Omega.{arith}
use lib.{Dec.T, Dec.eqb, Dec.eqb→eq, Pow.are_bytes, Seq.take_all}
use lib.ListN.{length, take, drop, take-append-drop, length-drop}
use borrow.Author.Tests.{eq-eqb}
use Rattle.octets.specs.{Choice.either, Number.big_at, Bytes.IsBytes}
use Rattle.octets.proofs.Ranges.{both_left, both_right, same_test, are_bytes_lem}
use Rattle.octets.proofs.Digits.{big_same}
use Rattle.names.specs.Names.{same_bytes, place_in}
use Rattle.names.specs.Code.Numbers.{first_of, rest_of, has_numbers, first_with, place_by}
use Rattle.names.proofs.Same.{same_eq, eq_same}

module _ (a u : List ℕ) (av : IsBytes a) (uv : IsBytes u) (m : ℕ) (h : m ≤ length u) where
  -- what stands behind the first m bytes
  behind : (s : List ℕ) → length s ≡ length u → take (length u - m) (drop m s) ≡ drop m s
  behind s e = take_all (length u - m) (drop m s) (omega (arith, length-drop m s))

  joined : length a ≡ length u → first_of m a ≡ first_of m u → rest_of m a ≡ rest_of m u → a ≡ u
  joined e p q =
      let r : big_at a m (length u - m) ≡ big_at u m (length u - m) = rw e at q in
      sym (take-append-drop m a)
      ∙ ap₂ (λ (x y : List ℕ). x ++ y)
      (big_same a u av uv 0 0 m (omega arith) (omega arith) p)
      (sym (behind a e) ∙ big_same a u av uv m m (length u - m) (omega arith) (omega arith) r ∙ behind u refl)
      ∙ take-append-drop m u

  pub numbers_same : same_bytes a u ≡ has_numbers (length u) m (first_of m u) (rest_of m u) a
  numbers_same =
      let n = length u in
      let x = first_of m u in
      let y = rest_of m u in
      let L : Bool = eqb (length a) n in
      let F : Bool = eqb (first_of m a) x in
      let R : Bool = eqb (rest_of m a) y in
      same_test (same_bytes a u) (has_numbers n m x y a)
      (λ e. subst (λ (s : List ℕ). has_numbers n m x y s ≡ true) (sym (same_eq a u e))
      (simp (eq-eqb n n refl, eq-eqb x x refl, eq-eqb y y refl)))
      (λ e.
      let t : T (L && (F && R)) = rw e tt in
      let r = both_right L (F && R) t in
      eq_same a u
      (joined
      (eqb→eq (length a) n (both_left L (F && R) t))
      (eqb→eq (first_of m a) x (both_left F R r))
      (eqb→eq (rest_of m a) y (both_right F R r))))

-- every name is bytes
abbrev pub all_bytes : List (List ℕ) → Bool
all_bytes [] = true
all_bytes (n ∷ ns) = are_bytes n && all_bytes ns

pub place_by_lem : (names : List (List ℕ)) → T (all_bytes names) → (u : List ℕ) → IsBytes u → (m : ℕ) → m ≤ length u → place_in names u ≡ place_by names (length u) m (first_of m u) (rest_of m u)
unfolding place_in place_by first_with
place_by_lem [] t u uv m h = refl
place_by_lem (n ∷ ns) t u uv m h =
    ap₂ (λ (b : Bool) (p : ℕ). either b (λ _. 0) (λ _. suc p))
    (numbers_same n u (are_bytes_lem n (both_left (are_bytes n) (all_bytes ns) t)) uv m h)
    (place_by_lem ns (both_right (are_bytes n) (all_bytes ns) t) u uv m h)
