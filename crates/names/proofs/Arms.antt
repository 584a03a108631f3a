-- What the code knows at each `return`, as laws for any list of names. The constants of the code are the numbers of names by computed tests,
-- whose premises are `tt`: a name is found where both numbers are its own, and none is where a number is no name's or goes with another one.
-- Assumes nothing.
use mathlib.Core.Path.{◌≡◌, refl, sym, ap, subst, ◌∙◌}
use mathlib.Core.Bool.{Bool, true, false, not, ◌&&◌, ◌||◌}
use mathlib.Core.List.{List, [], ◌∷◌}
use Prim.Native.Nat.{ℕ, suc}
use lib.Dec.{T, eqb, eqb→eq, eqb_refl, not_T}
use lib.ListN.{length}
use borrow.Author.Tests.{eqb-true}
use Rattle.octets.specs.Choice.{either}
use Rattle.octets.proofs.Ranges.{is_false, both_left, both_right}
use Rattle.names.specs.Code.Numbers.{first_of, rest_of, has_numbers, first_with, place_by}

-- a test that every name passes
abbrev pub each : (List ℕ → Bool) → List (List ℕ) → Bool
each f [] = true
each f (u ∷ us) = f u && each f us

-- the names on which g passes fail f
pub nowhere : (f g : List ℕ → Bool) → ((u : List ℕ) → T (g u) → T (f u) → ⊥) → (names : List (List ℕ)) → T (each g names) → length names ≡ first_with f names
unfolding first_with
nowhere f g fails [] t = refl
nowhere f g fails (u ∷ us) t =
    let e : f u ≡ false = sym (is_false (f u) (not_T (f u) (fails u (both_left (g u) (each g us) t)))) in
    rw e (ap suc (nowhere f g fails us (both_right (g u) (each g us) t)))

-- x is none of the numbers cs, on top of A: what the last arm of a `match` on x knows
abbrev pub Apart : Type 0 → ℕ → List ℕ → Type 0
Apart A x [] = A
Apart A x (c ∷ cs) = Apart (A × (x ≡ c → ⊥)) x cs

abbrev pub among : ℕ → List ℕ → Bool
among x [] = false
among x (c ∷ cs) = eqb x c || among x cs

one_of_lem : (a b : Bool) → T (a || b) → (a ≡ true → ⊥) → (T b → ⊥) → ⊥
one_of_lem true b t f g = f refl
one_of_lem false b t f g = g t

apart_base : (A : Type 0) (x : ℕ) (cs : List ℕ) → Apart A x cs → A
apart_base A x [] a = a
apart_base A x (c ∷ cs) a = (apart_base (A × (x ≡ c → ⊥)) x cs a).0

pub apart : (A : Type 0) (x : ℕ) (cs : List ℕ) → Apart A x cs → (z : ℕ) → T (among z cs) → x ≡ z → ⊥
apart A x [] a z t e = t
apart A x (c ∷ cs) a z t e =
    one_of_lem (eqb z c) (among z cs) t
    (λ q. (apart_base (A × (x ≡ c → ⊥)) x cs a).1 (e ∙ eqb-true z c q))
    (λ s. apart (A × (x ≡ c → ⊥)) x cs a z s e)

-- the numbers f of the names of n bytes, in their order
abbrev pub numbers_of : ℕ → (List ℕ → ℕ) → List (List ℕ) → List ℕ
numbers_of n f [] = []
numbers_of n f (u ∷ us) = either (eqb (length u) n) (λ _. f u ∷ numbers_of n f us) (λ _. numbers_of n f us)

-- the number g of the first name of n bytes whose number f is c
abbrev pub partner : ℕ → (List ℕ → ℕ) → (List ℕ → ℕ) → ℕ → List (List ℕ) → ℕ
partner n f g c [] = 0
partner n f g c (u ∷ us) = either (eqb (length u) n && eqb (f u) c) (λ _. g u) (λ _. partner n f g c us)

-- u is not of n bytes, or its number f is one of cs
abbrev pub listed : ℕ → (List ℕ → ℕ) → List ℕ → List ℕ → Bool
listed n f cs u = not (eqb (length u) n) || among (f u) cs

-- u is not of n bytes with the number f at c, or its number g is d
abbrev pub only : ℕ → (List ℕ → ℕ) → (List ℕ → ℕ) → ℕ → ℕ → List ℕ → Bool
only n f g c d u = not (eqb (length u) n && eqb (f u) c) || eqb (g u) d

or_right : (a b : Bool) → T (not a || b) → T a → T b
or_right true b t h = t
or_right false b t h = absurd h

both : (a b : Bool) → T a → T b → T (a && b)
both true b h l = l
both false b h l = absurd h

equal : (a b : ℕ) → a ≡ b → T (eqb a b)
equal a b e = subst (λ (z : ℕ). T (eqb a z)) e (eqb_refl a)

module _ (n : ℕ) (u : List ℕ) (long : T (eqb (length u) n)) (f : List ℕ → ℕ) where
  strange : (cs : List ℕ) (x : ℕ) → Apart (Unit {0}) x cs → T (listed n f cs u) → f u ≡ x → ⊥
  strange cs x a t e = apart (Unit {0}) x cs a (f u) (or_right (eqb (length u) n) (among (f u) cs) t long) (sym e)

  kept : (g : List ℕ → ℕ) (c d : ℕ) → T (only n f g c d u) → f u ≡ c → g u ≡ d
  kept g c d t e =
      eqb→eq (g u) d
      (or_right (eqb (length u) n && eqb (f u) c) (eqb (g u) d) t
      (both (eqb (length u) n) (eqb (f u) c) long (equal (f u) c e)))

module _ (names : List (List ℕ)) (n m x : ℕ) where
  pub found : (y c d k : ℕ) → x ≡ c → y ≡ d → T (eqb k (first_with (has_numbers n m c d) names)) → k ≡ place_by names n m x y
  unfolding place_by
  found y c d k e f t = rw (e, f) (eqb→eq k (first_with (has_numbers n m c d) names) t)

  -- the same, where the first m bytes are all
  pub found_whole : (c k : ℕ) → x ≡ c → T (eqb k (first_with (has_numbers n m c 0) names)) → k ≡ place_by names n m x 0
  found_whole c k e t = found 0 c 0 k e refl t

  module _ (y k : ℕ) (all : T (eqb k (length names))) where
    -- none, where the names on which g passes have not both numbers
    absent : (g : List ℕ → Bool) → T (each g names) → ((u : List ℕ) → T (g u) → T (eqb (length u) n) → first_of m u ≡ x → rest_of m u ≡ y → ⊥) → k ≡ place_by names n m x y
    unfolding place_by
    absent g t fails =
        eqb→eq k (length names) all
        ∙ nowhere (has_numbers n m x y) g
        (λ u s h.
        let L : Bool = eqb (length u) n in
        let F : Bool = eqb (first_of m u) x in
        let R : Bool = eqb (rest_of m u) y in
        let r = both_right L (F && R) h in
        fails u s (both_left L (F && R) h)
        (eqb→eq (first_of m u) x (both_left F R r))
        (eqb→eq (rest_of m u) y (both_right F R r)))
        names t

    pub no_first : Apart (Unit {0}) x (numbers_of n (first_of m) names) → T (each (listed n (first_of m) (numbers_of n (first_of m) names)) names) → k ≡ place_by names n m x y
    no_first a t =
        let cs = numbers_of n (first_of m) names in
        absent (listed n (first_of m) cs) t (λ u s l f r. strange n u l (first_of m) cs x a s f)

    pub no_rest : Apart (Unit {0}) y (numbers_of n (rest_of m) names) → T (each (listed n (rest_of m) (numbers_of n (rest_of m) names)) names) → k ≡ place_by names n m x y
    no_rest a t =
        let cs = numbers_of n (rest_of m) names in
        absent (listed n (rest_of m) cs) t (λ u s l f r. strange n u l (rest_of m) cs y a s r)

    module _ (c : ℕ) where
      pub other_rest : x ≡ c → (y ≡ partner n (first_of m) (rest_of m) c names → ⊥) → T (each (only n (first_of m) (rest_of m) c (partner n (first_of m) (rest_of m) c names)) names) → k ≡ place_by names n m x y
      other_rest e fails t =
          let d = partner n (first_of m) (rest_of m) c names in
          absent (only n (first_of m) (rest_of m) c d) t
          (λ u s l f r. fails (sym r ∙ kept n u l (first_of m) (rest_of m) c d s (f ∙ e)))

      pub other_first : y ≡ c → (x ≡ partner n (rest_of m) (first_of m) c names → ⊥) → T (each (only n (rest_of m) (first_of m) c (partner n (rest_of m) (first_of m) c names)) names) → k ≡ place_by names n m x y
      other_first e fails t =
          let d = partner n (rest_of m) (first_of m) c names in
          absent (only n (rest_of m) (first_of m) c d) t
          (λ u s l f r. fails (sym f ∙ kept n u l (rest_of m) (first_of m) c d s (r ∙ e)))

pub ruleset arms = (found, found_whole, no_first, no_rest, other_rest, other_first)
