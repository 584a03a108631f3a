-- From the parts that are read to the place: eight bytes are two numbers of four, and a list of n bytes, of which the first m and the others
-- are read, has the place that the numbers say; one whose length no name has is no name. Assumes nothing.
use mathlib.Core.Path.{◌≡◌, refl, sym, ap, ap₂, ◌∙◌}
use mathlib.Core.Bool.{Bool, false, ◌&&◌, ◌||◌}
use mathlib.Core.List.{List, [], ◌∷◌}
use Prim.Native.Nat.{ℕ, zero, suc, ◌+◌, ◌-◌, ◌*◌, ◌≤◌}
use native.Mathlib.Nat.{le_refl, sub_self, le_trans}
use native.Mathlib.Omega.{arith}
use lib.Dec.{T, eqb, eqb→eq, leb, leb→le, lit≤}
use lib.ListN.{length}
use Rattle.octets.specs.{Choice.either, Number.big_at, Number.if_there}
use Rattle.octets.proofs.{Ranges.both_left, Ranges.both_right, Ranges.is_true, Reading.Told, Reading.is_bytes, Reading.if_there_lem, Widths.big_join}
use Rattle.names.specs.{Names.same_bytes, Names.place_in, Code.Numbers.has_numbers, Code.Numbers.first_with, Code.Numbers.place_by}
use Rattle.names.proofs.{Same.same_eq, Places.below, ByNumber.all_bytes, ByNumber.place_by_lem}
use Rattle.names.proofs.Arms.{Apart, among, apart, each, nowhere}

-- eight bytes by halves
pub halves : (s : List ℕ) (x y : ℕ) → 8 ≤ length s → x ≡ if_there s 0 4 (big_at s 0 4) → y ≡ if_there s 4 4 (big_at s 4 4) → x * 4294967296 + y ≡ if_there s 0 8 (big_at s 0 8)
halves s x y h p q =
    ap₂ (λ (a b : ℕ). a * 4294967296 + b)
    (p ∙ if_there_lem s 0 4 (big_at s 0 4) (lit≤ tt) (omega arith))
    (q ∙ if_there_lem s 4 4 (big_at s 4 4) (lit≤ tt) (omega arith))
    ∙ sym (if_there_lem s 0 8 (big_at s 0 8) (lit≤ tt) h ∙ big_join s 0 4 4)

-- n bytes in two parts, m of them first, each a number of 64 bits
abbrev pub parts : ℕ → ℕ → Bool
parts n m = leb m n && (leb m 8 && leb (n - m) 8)

module _ (names : List (List ℕ)) (pure : T (all_bytes names)) (s : List ℕ) (told : Told s) where
  by_numbers : (n m x y r : ℕ) → m ≤ n → m ≤ 8 → r ≡ place_by names n m x y → length s ≡ n → x ≡ if_there s 0 m (big_at s 0 m) → y ≡ big_at s m (n - m) → r ≡ place_in names s
  by_numbers n m x y r within few e l p q =
      e ∙ ap₂ (place_by names n m) (p ∙ if_there_lem s 0 m (big_at s 0 m) few (omega arith)) q
      ∙ ap (λ (k : ℕ). place_by names k m (big_at s 0 m) (big_at s m (k - m))) (sym l)
      ∙ sym (place_by_lem names pure s (is_bytes s told) m (omega arith))

  pub by_two : (n m x y r : ℕ) → r ≡ place_by names n m x y → length s ≡ n → x ≡ if_there s 0 m (big_at s 0 m) → y ≡ if_there s m (n - m) (big_at s m (n - m)) → T (parts n m) → r ≡ place_in names s
  by_two n m x y r e l p q t =
      let rest = both_right (leb m n) (leb m 8 && leb (n - m) 8) t in
      let within : m ≤ n = leb→le m n (both_left (leb m n) (leb m 8 && leb (n - m) 8) t) in
      let few : m ≤ 8 = leb→le m 8 (both_left (leb m 8) (leb (n - m) 8) rest) in
      let others : n - m ≤ 8 = leb→le (n - m) 8 (both_right (leb m 8) (leb (n - m) 8) rest) in
      by_numbers n m x y r within few e l p (q ∙ if_there_lem s m (n - m) (big_at s m (n - m)) others (omega arith))

  pub by_one : (n x r : ℕ) → r ≡ place_by names n n x 0 → length s ≡ n → x ≡ if_there s 0 n (big_at s 0 n) → T (leb n 8) → r ≡ place_in names s
  unfolding big_at
  by_one n x r e l p t = by_numbers n n x 0 r (le_refl n) (leb→le n 8 t) e l p (sym (ap (big_at s n) (sub_self n)))

-- a place by bytes is the first name of the same bytes
place_first : (names : List (List ℕ)) (u : List ℕ) → first_with (λ (n : List ℕ). same_bytes n u) names ≡ place_in names u
unfolding place_in first_with
place_first [] u = refl
place_first (n ∷ ns) u = ap (λ (p : ℕ). either (same_bytes n u) (λ _. 0) (λ _. suc p)) (place_first ns u)

-- some name has l bytes
abbrev pub some : ℕ → List (List ℕ) → Bool
some l [] = false
some l (u ∷ us) = eqb (length u) l || some l us

-- the lengths of the names among the k numbers from l on
abbrev pub lengths : ℕ → ℕ → List (List ℕ) → List ℕ
lengths l zero names = []
lengths l (suc k) names = either (some l names) (λ _. l ∷ lengths (suc l) k names) (λ _. lengths (suc l) k names)

-- a length that no name has, all names being shorter than 16
pub no_length : (names : List (List ℕ)) (u : List ℕ) (k : ℕ) → T (eqb k (length names)) → Apart (Unit {0}) (length u) (lengths 0 16 names) → T (each (λ (n : List ℕ). among (length n) (lengths 0 16 names)) names) → k ≡ place_in names u
no_length names u k all a t =
    let cs = lengths 0 16 names in
    eqb→eq k (length names) all
    ∙ nowhere (λ (n : List ℕ). same_bytes n u) (λ (n : List ℕ). among (length n) cs)
    (λ n g f. apart (Unit {0}) (length u) cs a (length n) g (sym (ap length (same_eq n u (sym (is_true (same_bytes n u) f))))))
    names t
    ∙ place_first names u

first_small : (f : List ℕ → Bool) (names : List (List ℕ)) → first_with f names ≤ length names
unfolding first_with
first_small f [] = lit≤ tt
first_small f (u ∷ us) = below (f u) (first_with f us) (length us) (first_small f us)

pub by_small : (names : List (List ℕ)) (n m x y r k : ℕ) → r ≡ place_by names n m x y → T (leb (length names) k) → r ≤ k
unfolding place_by
by_small names n m x y r k e t = rw e (le_trans (first_small (has_numbers n m x y) names) (leb→le (length names) k t))

pub ruleset read = (by_one, by_two, no_length, by_small, lit≤)
