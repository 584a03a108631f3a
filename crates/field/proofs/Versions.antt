-- What is read of a version byte by byte is what its parts are: a reader's state stands for the parts before the last dot and the bytes behind it,
-- and with the bytes that are left it ends as all of them together. By induction on the bytes that are left.
-- Assumes nothing.
use mathlib.Core.Path.{◌≡◌, refl, sym, ap, ◌∙◌}
use mathlib.Core.Bool.{Bool, true, false, ◌&&◌}
use mathlib.Core.List.{List, [], ◌∷◌, ◌++◌, append-nil, append_assoc}
use mathlib.Core.Option.{Option, some, none}
use Prim.Native.Nat.{ℕ, ◌+◌, ◌-◌, ◌*◌, ◌≤◌, ◌<◌}
use native.Mathlib.Omega.{arith}
use lib.Dec.{leb, eqb}
use borrow.Author.Tests.{le-leb, lt-leb, ne_eqb, leb-true, leb-false, eqb-true, eqb-false}
use Rattle.octets.specs.Choice.{either}
use Rattle.octets.proofs.Ranges.{true_false}
use Rattle.std.specs.Prelude.{Some, None}
use Rattle.field.specs.Kind.{Value}
use Rattle.field.specs.Version.{grown, cut_at_dots, digits_from, at_most, number_of_part, released, three, version_of}
use Rattle.field.specs.Code.Feed.{release, unfed, dot_by, dotted_of, digit_of, fed_of, on_fed, fed_all, outcome_of}

-- digits
abbrev is_digit : ℕ → Bool
is_digit c = leb 0x30 c && leb c 0x39

abbrev and_then : Option ℕ → (ℕ → Option ℕ) → Option ℕ
and_then none f = none
and_then (some n) f = f n

digits_join : (n : ℕ) (xs ys : List ℕ) → digits_from n (xs ++ ys) ≡ and_then (digits_from n xs) (λ m. digits_from m ys)
unfolding digits_from
digits_join n [] ys = refl
digits_join n (c ∷ cs) ys = go (is_digit c) (digits_join (n * 10 + (c - 0x30)) cs ys)
  where
    go : (t : Bool) → digits_from (n * 10 + (c - 0x30)) (cs ++ ys) ≡ and_then (digits_from (n * 10 + (c - 0x30)) cs) (λ m. digits_from m ys) → either t (λ _. digits_from (n * 10 + (c - 0x30)) (cs ++ ys)) (λ _. none) ≡ and_then (either t (λ _. digits_from (n * 10 + (c - 0x30)) cs) (λ _. none)) (λ m. digits_from m ys)
    go true e = e
    go false e = refl

-- a number that is too large stays so
too_large : (most m : ℕ) (l : List ℕ) → most < m → at_most most (digits_from m l) ≡ none
unfolding digits_from
too_large most m [] h = simp (lt-leb m most h)
too_large most m (c ∷ cs) h = go (is_digit c) (too_large most (m * 10 + (c - 0x30)) cs (omega arith))
  where
    go : (t : Bool) → at_most most (digits_from (m * 10 + (c - 0x30)) cs) ≡ none → at_most most (either t (λ _. digits_from (m * 10 + (c - 0x30)) cs) (λ _. none)) ≡ none
    go true e = e
    go false e = refl

no_digit : (n c : ℕ) (l : List ℕ) → is_digit c ≡ false → digits_from n (c ∷ l) ≡ none
unfolding digits_from
no_digit n c l e = simp e

one_digit : (n c : ℕ) (l : List ℕ) → is_digit c ≡ true → digits_from n (c ∷ l) ≡ digits_from (n * 10 + (c - 0x30)) l
unfolding digits_from
one_digit n c l e = simp e

-- a part that starts with no zero is its digits' number
part_number : (c : ℕ) (cs : List ℕ) → (c ≡ 0x30 → ⊥) → number_of_part (c ∷ cs) ≡ at_most 65535 (digits_from 0 (c ∷ cs))
part_number c [] h = refl
part_number c (d ∷ cs) h = simp (ne_eqb c 0x30 h)

-- the bytes behind the last dot: none, a zero, or a number that starts with another digit
data Current : List ℕ → Bool → ℕ → Type 0 where
  fresh : Current [] false 0
  naught : Current (0x30 ∷ []) true 0
  number : (c : ℕ) (cs : List ℕ) (n : ℕ) → (c ≡ 0x30 → ⊥) → digits_from 0 (c ∷ cs) ≡ some n → 0 < n → n ≤ 65535 → Current (c ∷ cs) true n

-- the parts before it
data Done : List (List ℕ) → ℕ → ℕ → ℕ → Type 0 where
  nothing : Done [] 0 0 0
  first : (p : List ℕ) (a : ℕ) → number_of_part p ≡ some a → Done (p ∷ []) 1 a 0
  second : (p q : List ℕ) (a b : ℕ) → number_of_part p ≡ some a → number_of_part q ≡ some b → Done (p ∷ (q ∷ [])) 2 a b

current_number : (pre : List ℕ) (n : ℕ) → Current pre true n → number_of_part pre ≡ some n
unfolding digits_from
current_number pre n naught = refl
current_number pre n (number c cs m h e p l) = part_number c cs h ∙ ap (at_most 65535) e ∙ simp (le-leb m 65535 l)

-- a part that is no number makes no version
no_part : (ds : List (List ℕ)) (k a b : ℕ) → Done ds k a b → (p : List ℕ) (ps : List (List ℕ)) → number_of_part p ≡ none → three (ds ++ (p ∷ ps)) ≡ none
no_part ds k a b nothing p [] e = refl
no_part ds k a b nothing p (q ∷ []) e = refl
no_part ds k a b nothing p (q ∷ (r ∷ [])) e = ap (λ (o : Option ℕ). released o (number_of_part q) (number_of_part r)) e
no_part ds k a b nothing p (q ∷ (r ∷ (t ∷ ts))) e = refl
no_part ds k a b (first x n f) p [] e = refl
no_part ds k a b (first x n f) p (q ∷ []) e = rw (f, e)
no_part ds k a b (first x n f) p (q ∷ (r ∷ rs)) e = refl
no_part ds k a b (second x y n m f g) p [] e = rw (f, g, e)
no_part ds k a b (second x y n m f g) p (q ∷ qs) e = refl

-- bytes in front of the first part
abbrev behind : List ℕ → List (List ℕ) → List (List ℕ)
behind pre [] = pre ∷ []
behind pre (p ∷ ps) = (pre ++ p) ∷ ps

data Parts : List (List ℕ) → Type 0 where
  parts : (p : List ℕ) (ps : List (List ℕ)) → Parts (p ∷ ps)

some_part : (cs : List ℕ) → Parts (cut_at_dots cs)
unfolding cut_at_dots
some_part [] = parts [] []
some_part (c ∷ cs) = go (eqb c 0x2E) (cut_at_dots cs) (some_part cs)
  where
    go : (t : Bool) (l : List (List ℕ)) → Parts l → Parts (either t (λ _. [] ∷ l) (λ _. grown c l))
    go true l y = parts [] l
    go false l (parts p ps) = parts (c ∷ p) ps

behind_none : (l : List (List ℕ)) → Parts l → behind [] l ≡ l
behind_none l (parts p ps) = refl

behind_more : (pre : List ℕ) (c : ℕ) (l : List (List ℕ)) → Parts l → behind pre (grown c l) ≡ behind (pre ++ (c ∷ [])) l
behind_more pre c l (parts p ps) = ap (λ (x : List ℕ). x ∷ ps) (sym (append_assoc pre (c ∷ []) p))

-- the bytes that are left end as all of them together
abbrev Ends : List ℕ → Type 0
Ends cs =
    (ds : List (List ℕ)) (pre : List ℕ) (k : ℕ) (g : Bool) (a b n : ℕ) → Done ds k a b → Current pre g n
    → outcome_of (fed_all (release k g a b n) cs) ≡ three (ds ++ behind pre (cut_at_dots cs))

-- no byte is left
ends_third : (g : Bool) (pre : List ℕ) (a b n : ℕ) → Current pre g n → either g (λ _. some (Value.release a b n)) (λ _. none) ≡ released (some a) (some b) (number_of_part pre)
ends_third g pre a b n fresh = refl
ends_third g pre a b n naught = rw (current_number (0x30 ∷ []) 0 naught)
ends_third g pre a b n (number c cs m h e p l) = rw (current_number (c ∷ cs) m (number c cs m h e p l))

ends_now : (ds : List (List ℕ)) (pre : List ℕ) (k : ℕ) (g : Bool) (a b n : ℕ) → Done ds k a b → Current pre g n → outcome_of (Some (release k g a b n)) ≡ three (ds ++ (pre ∷ []))
ends_now ds pre k g a b n nothing y = refl
ends_now ds pre k g a b n (first p x e) y = refl
ends_now ds pre k g a b n (second p q x z e f) y = rw (e, f) (ends_third g pre x z n y)

-- a dot behind a number, by how many parts are before it
dot_ends : (cs : List ℕ) → Ends cs → (ds : List (List ℕ)) (pre : List ℕ) (k a b n : ℕ) → Done ds k a b → number_of_part pre ≡ some n → outcome_of (on_fed (dot_by (release k true a b n) k) (λ w. fed_all w cs)) ≡ three (ds ++ (pre ∷ cut_at_dots cs))
dot_ends cs ih ds pre k a b n nothing e =
    ih (pre ∷ []) [] 1 false n 0 0 (first pre n e) fresh ∙ ap (λ (l : List (List ℕ)). three (pre ∷ l)) (behind_none (cut_at_dots cs) (some_part cs))
dot_ends cs ih ds pre k a b n (first p x f) e =
    ih (p ∷ (pre ∷ [])) [] 2 false x n 0 (second p pre x n f e) fresh
    ∙ ap (λ (l : List (List ℕ)). three (p ∷ (pre ∷ l))) (behind_none (cut_at_dots cs) (some_part cs))
dot_ends cs ih ds pre k a b n (second p q x z f g) e = go (cut_at_dots cs) (some_part cs)
  where
    go : (l : List (List ℕ)) → Parts l → none ≡ three (p ∷ (q ∷ (pre ∷ l)))
    go l (parts r rs) = refl

after_dot : (cs : List ℕ) → Ends cs → (ds : List (List ℕ)) (pre : List ℕ) (k : ℕ) (g : Bool) (a b n : ℕ) → Done ds k a b → Current pre g n → outcome_of (on_fed (dotted_of (release k g a b n)) (λ w. fed_all w cs)) ≡ three (ds ++ (pre ∷ cut_at_dots cs))
unfolding dotted_of
after_dot cs ih ds pre k g a b n D fresh = sym (no_part ds k a b D [] (cut_at_dots cs) refl)
after_dot cs ih ds pre k g a b n D naught = dot_ends cs ih ds (0x30 ∷ []) k a b 0 D (current_number (0x30 ∷ []) 0 naught)
after_dot cs ih ds pre k g a b n D (number c l m h e p w) =
    dot_ends cs ih ds (c ∷ l) k a b m D (current_number (c ∷ l) m (number c l m h e p w))

-- a byte that is no digit ends it
other_part : (pre : List ℕ) (g : Bool) (n c : ℕ) (p : List ℕ) → Current pre g n → is_digit c ≡ false → number_of_part (pre ++ (c ∷ p)) ≡ none
other_part pre g n c p fresh t = part_number c p (λ e. true_false (sym (ap is_digit e) ∙ t)) ∙ ap (at_most 65535) (no_digit 0 c p t)
other_part pre g n c p naught t = refl
other_part pre g n c p (number x xs m h e q l) t =
    part_number x (xs ++ (c ∷ p)) h
    ∙ ap (at_most 65535) (digits_join 0 (x ∷ xs) (c ∷ p) ∙ ap (λ (o : Option ℕ). and_then o (λ i. digits_from i (c ∷ p))) e ∙ no_digit m c p t)

-- so does a part that is no number with this byte
bad_part : (cs : List ℕ) (ds : List (List ℕ)) (pre : List ℕ) (k a b c : ℕ) → Done ds k a b → ((p : List ℕ) → number_of_part (pre ++ (c ∷ p)) ≡ none) → none ≡ three (ds ++ behind pre (grown c (cut_at_dots cs)))
bad_part cs ds pre k a b c D h = go (cut_at_dots cs) (some_part cs)
  where
    go : (l : List (List ℕ)) → Parts l → none ≡ three (ds ++ behind pre (grown c l))
    go l (parts p ps) = sym (no_part ds k a b D (pre ++ (c ∷ p)) ps (h p))

-- a digit
is_digit_lem : (c : ℕ) → is_digit c ≡ true → (0x30 ≤ c) × (c ≤ 0x39)
is_digit_lem c t = go (leb 0x30 c) (leb c 0x39) refl refl t
  where
    go : (u w : Bool) → leb 0x30 c ≡ u → leb c 0x39 ≡ w → u && w ≡ true → (0x30 ≤ c) × (c ≤ 0x39)
    go true true e f t = (leb-true 0x30 c e, leb-true c 0x39 f)
    go true false e f t = true_false (sym t)
    go false w e f t = true_false (sym t)

first_digit : (c : ℕ) → is_digit c ≡ true → Current (c ∷ []) true (0 * 10 + (c - 0x30))
unfolding digits_from
first_digit c t = go (eqb c 0x30) refl
  where
    go : (u : Bool) → eqb c 0x30 ≡ u → Current (c ∷ []) true (0 * 10 + (c - 0x30))
    go true e = rw (eqb-true c 0x30 e) naught
    go false e =
        let d = is_digit_lem c t in
        let f : c ≡ 0x30 → ⊥ = eqb-false c 0x30 e in
        number c [] (0 * 10 + (c - 0x30)) f (one_digit 0 c [] t) (omega arith) (omega arith)

next_digit : (x : ℕ) (xs : List ℕ) (m c : ℕ) → (x ≡ 0x30 → ⊥) → digits_from 0 (x ∷ xs) ≡ some m → 0 < m → is_digit c ≡ true → m * 10 + (c - 0x30) ≤ 65535 → Current ((x ∷ xs) ++ (c ∷ [])) true (m * 10 + (c - 0x30))
unfolding digits_from
next_digit x xs m c h e p t w =
    number x (xs ++ (c ∷ [])) (m * 10 + (c - 0x30)) h
    (digits_join 0 (x ∷ xs) (c ∷ []) ∙ ap (λ (o : Option ℕ). and_then o (λ i. digits_from i (c ∷ []))) e ∙ one_digit m c [] t) (omega arith) w

over_part : (x : ℕ) (xs : List ℕ) (m c : ℕ) (p : List ℕ) → (x ≡ 0x30 → ⊥) → digits_from 0 (x ∷ xs) ≡ some m → is_digit c ≡ true → 65535 < m * 10 + (c - 0x30) → number_of_part ((x ∷ xs) ++ (c ∷ p)) ≡ none
over_part x xs m c p h e t w =
    part_number x (xs ++ (c ∷ p)) h
    ∙ ap (at_most 65535)
    (digits_join 0 (x ∷ xs) (c ∷ p) ∙ ap (λ (o : Option ℕ). and_then o (λ i. digits_from i (c ∷ p))) e ∙ one_digit m c p t)
    ∙ too_large 65535 (m * 10 + (c - 0x30)) p w

after_digit : (cs : List ℕ) → Ends cs → (ds : List (List ℕ)) (pre : List ℕ) (k : ℕ) (g : Bool) (a b n c : ℕ) → Done ds k a b → Current pre g n → is_digit c ≡ true → outcome_of (on_fed (digit_of (release k g a b n) (c - 0x30)) (λ w. fed_all w cs)) ≡ three (ds ++ behind pre (grown c (cut_at_dots cs)))
unfolding digit_of
after_digit cs ih ds pre k g a b n c D fresh t =
    let d = is_digit_lem c t in
    simp (le-leb (0 * 10 + (c - 0x30)) 65535 (omega arith))
    (ih ds (c ∷ []) k true a b (0 * 10 + (c - 0x30)) D (first_digit c t)
    ∙ ap (λ (l : List (List ℕ)). three (ds ++ l)) (sym (behind_more [] c (cut_at_dots cs) (some_part cs))))
after_digit cs ih ds pre k g a b n c D naught t = bad_part cs ds (0x30 ∷ []) k a b c D (λ p. refl)
after_digit cs ih ds pre k g a b n c D (number x xs m h e p l) t =
    simp (ne_eqb m 0 (λ z. omega arith)) (go (leb (m * 10 + (c - 0x30)) 65535) refl)
  where
    go : (u : Bool) → leb (m * 10 + (c - 0x30)) 65535 ≡ u → outcome_of (on_fed (either u (λ _. Some (release k true a b (m * 10 + (c - 0x30)))) (λ _. None)) (λ w. fed_all w cs)) ≡ three (ds ++ behind (x ∷ xs) (grown c (cut_at_dots cs)))
    go true f =
        ih ds ((x ∷ xs) ++ (c ∷ [])) k true a b (m * 10 + (c - 0x30)) D
        (next_digit x xs m c h e p t (leb-true (m * 10 + (c - 0x30)) 65535 f))
        ∙ ap (λ (l : List (List ℕ)). three (ds ++ l)) (sym (behind_more (x ∷ xs) c (cut_at_dots cs) (some_part cs)))
    go false f = bad_part cs ds (x ∷ xs) k a b c D (λ q. over_part x xs m c q h e t (leb-false (m * 10 + (c - 0x30)) 65535 f))

-- one byte, by what it is
after : (c : ℕ) (cs : List ℕ) → Ends cs → Ends (c ∷ cs)
unfolding fed_all fed_of cut_at_dots
after c cs ih ds pre k g a b n D y = go (eqb c 0x2E) (is_digit c) refl
  where
    go : (t u : Bool) → is_digit c ≡ u → outcome_of (on_fed (either t (λ _. dotted_of (release k g a b n)) (λ _. either u (λ _. digit_of (release k g a b n) (c - 0x30)) (λ _. None))) (λ w. fed_all w cs)) ≡ three (ds ++ behind pre (either t (λ _. [] ∷ cut_at_dots cs) (λ _. grown c (cut_at_dots cs))))
    go true u e = after_dot cs ih ds pre k g a b n D y ∙ ap (λ (p : List ℕ). three (ds ++ (p ∷ cut_at_dots cs))) (sym (append-nil pre))
    go false true e = after_digit cs ih ds pre k g a b n c D y e
    go false false e = bad_part cs ds pre k a b c D (λ p. other_part pre g n c p y e)

ends : (cs : List ℕ) → Ends cs
unfolding fed_all cut_at_dots
ends [] ds pre k g a b n D y = ends_now ds pre k g a b n D y ∙ ap (λ (p : List ℕ). three (ds ++ (p ∷ []))) (sym (append-nil pre))
ends (c ∷ cs) ds pre k g a b n D y = after c cs (ends cs) ds pre k g a b n D y

pub version_is : (d : List ℕ) → outcome_of (fed_all unfed d) ≡ version_of d
unfolding version_of
version_is d = ends d [] [] 0 false 0 0 0 nothing fresh ∙ ap three (behind_none (cut_at_dots d) (some_part d))
