-- A number in decimal digits reads back, and so does a version. The digits of a number are its last one behind those of the others, so each
-- law goes by induction on them: none is a dot, the first is no zero where another follows, and they state the number. Assumes nothing.
use mathlib.Core.Path.{◌≡◌, refl, ap, subst, ◌∙◌}
use mathlib.Core.Bool.{Bool, true, false, not, ◌&&◌}
use mathlib.Core.List.{List, [], ◌∷◌, ◌++◌}
use mathlib.Core.Option.{Option, some, none}
use Prim.Native.Nat.{ℕ, zero, suc, ◌+◌, ◌-◌, ◌*◌, ◌/◌, ◌%◌, ◌^◌, ◌≤◌, ◌<◌}
use native.Mathlib.Nat.{pow-suc}
use native.Mathlib.Omega.{arith}
use lib.{Dec.T, Dec.eqb, Dec.leb, ListN.length, ListN.length-append}
use borrow.Author.Tests.{le-leb, ne_eqb}
use Rattle.octets.specs.Choice.{either}
use Rattle.octets.proofs.Ranges.{both_left, both_right, is_false}
use Rattle.forms.specs.Shortest.{digits_of, decimal_of, version_text}
use Rattle.field.specs.Kind.{Value}
use Rattle.field.specs.Version.{grown, cut_at_dots, digits_from, at_most, number_of_part, three, version_of}
use Rattle.shortest.proofs.Rows.{below}

-- the digits of a number: one, or one more behind those of a number that is not zero
data Decimal : ℕ → List ℕ → Type 0 where
  one : (b : ℕ) → b < 10 → Decimal b ((0x30 + b) ∷ [])
  then_one : (n b : ℕ) (d : List ℕ) → 0 < n → b < 10 → Decimal n d → Decimal (n * 10 + b) (d ++ ((0x30 + b) ∷ []))

decimal : (most n : ℕ) → n < 10 ^ suc most → Decimal n (digits_of (suc most) n)
unfolding digits_of
decimal zero n h = below n 10 (λ _. (0x30 + n) ∷ []) _ (Decimal n) (one n) (λ g. absurd (omega arith))
decimal (suc most) n h =
    let e : n / 10 * 10 + n % 10 ≡ n = omega arith in
    let p : 10 ^ suc (suc most) ≡ 10 ^ suc most * 10 = pow-suc 10 (suc most) in
    below n 10 (λ _. (0x30 + n) ∷ []) _ (Decimal n) (one n)
    (λ g. subst (λ (m : ℕ). Decimal m (digits_of (suc most) (n / 10) ++ ((0x30 + n % 10) ∷ []))) e
    (then_one (n / 10) (n % 10) (digits_of (suc most) (n / 10)) (omega arith) (omega arith) (decimal most (n / 10) (omega arith))))

digits_length : (most n : ℕ) → length (digits_of most n) ≤ most
unfolding digits_of
digits_length zero n = omega arith
digits_length (suc most) n =
    below n 10 (λ _. (0x30 + n) ∷ []) _ (λ d. length d ≤ suc most) (λ l. omega arith)
    (λ g. omega (arith, length-append (digits_of most (n / 10)) ((0x30 + n % 10) ∷ []), digits_length most (n / 10)))

-- they state the number
abbrev and_then : Option ℕ → (ℕ → Option ℕ) → Option ℕ
and_then none f = none
and_then (some n) f = f n

digits_join : (n : ℕ) (xs ys : List ℕ) → digits_from n (xs ++ ys) ≡ and_then (digits_from n xs) (λ m. digits_from m ys)
unfolding digits_from
digits_join n [] ys = refl
digits_join n (c ∷ cs) ys = go (n * 10 + (c - 0x30)) (leb 0x30 c && leb c 0x39) (digits_join (n * 10 + (c - 0x30)) cs ys)
  where
    go : (m : ℕ) (t : Bool) → digits_from m (cs ++ ys) ≡ and_then (digits_from m cs) (λ k. digits_from k ys)
        → either t (λ _. digits_from m (cs ++ ys)) (λ _. none) ≡ and_then (either t (λ _. digits_from m cs) (λ _. none)) (λ k. digits_from k ys)
    go m true e = e
    go m false e = refl

digit_from : (n b : ℕ) → b < 10 → digits_from n ((0x30 + b) ∷ []) ≡ some (n * 10 + b)
unfolding digits_from
digit_from n b h =
    let e : 0x30 + b - 0x30 ≡ b = omega arith in
    simp (le-leb 0x30 (0x30 + b) (omega arith), le-leb (0x30 + b) 0x39 (omega arith), e)

states : {n : ℕ} {d : List ℕ} → Decimal n d → digits_from 0 d ≡ some n
states (one b h) = digit_from 0 b h ∙ ap some (omega arith)
states (then_one n b d p h D) =
    digits_join 0 d ((0x30 + b) ∷ []) ∙ ap (λ (o : Option ℕ). and_then o (λ m. digits_from m ((0x30 + b) ∷ []))) (states D) ∙ digit_from n b h

-- the first is no zero, unless it is the only one
data Led : List ℕ → Type 0 where
  led : (c : ℕ) (cs : List ℕ) → (c ≡ 0x30 → ⊥) → Led (c ∷ cs)

led_more : {d : List ℕ} (t : List ℕ) → Led d → Led (d ++ t)
led_more t (led c cs h) = led c (cs ++ t) h

first_digit : {n : ℕ} {d : List ℕ} → Decimal n d → 0 < n → Led d
first_digit (one b h) p = led (0x30 + b) [] (λ e. omega arith)
first_digit (then_one n b d q h D) p = led_more ((0x30 + b) ∷ []) (first_digit D q)

led_number : {d : List ℕ} → Led d → number_of_part d ≡ at_most 65535 (digits_from 0 d)
led_number (led c [] h) = refl
led_number (led c (e ∷ cs) h) = simp (ne_eqb c 0x30 h)

part_number : {n : ℕ} {d : List ℕ} → Decimal n d → number_of_part d ≡ at_most 65535 (digits_from 0 d)
part_number (one b h) = refl
part_number (then_one n b d p h D) = led_number (led_more ((0x30 + b) ∷ []) (first_digit D p))

number_back : {n : ℕ} {d : List ℕ} → Decimal n d → n ≤ 65535 → number_of_part d ≡ some n
number_back {n} D h = part_number D ∙ ap (at_most 65535) (states D) ∙ simp (le-leb n 65535 h)

-- none is a dot
abbrev dotless : List ℕ → Bool
dotless [] = true
dotless (c ∷ cs) = not (eqb c 0x2E) && dotless cs

dotless_more : (b : ℕ) (d : List ℕ) → T (dotless d) → T (dotless (d ++ ((0x30 + b) ∷ [])))
dotless_more b [] t = rw (ne_eqb (0x30 + b) 0x2E (λ e. omega arith)) tt
dotless_more b (c ∷ d) t =
    rw (← is_false (eqb c 0x2E) (both_left (not (eqb c 0x2E)) (dotless d) t))
    (dotless_more b d (both_right (not (eqb c 0x2E)) (dotless d) t))

no_dot : {n : ℕ} {d : List ℕ} → Decimal n d → T (dotless d)
no_dot (one b h) = dotless_more b [] tt
no_dot (then_one n b d p h D) = dotless_more b d (no_dot D)

-- a text is cut at the dot behind them, and not at all where there is none
uncut : (d : List ℕ) → T (dotless d) → cut_at_dots d ≡ d ∷ []
unfolding cut_at_dots
uncut [] t = refl
uncut (c ∷ d) t =
    rw (← is_false (eqb c 0x2E) (both_left (not (eqb c 0x2E)) (dotless d) t))
    (ap (grown c) (uncut d (both_right (not (eqb c 0x2E)) (dotless d) t)))

cut : (d t : List ℕ) → T (dotless d) → cut_at_dots (d ++ (0x2E ∷ t)) ≡ d ∷ cut_at_dots t
unfolding cut_at_dots
cut [] t h = refl
cut (c ∷ d) t h =
    rw (← is_false (eqb c 0x2E) (both_left (not (eqb c 0x2E)) (dotless d) h))
    (ap (grown c) (cut d t (both_right (not (eqb c 0x2E)) (dotless d) h)))

module _ (a b c : ℕ) where
  pub version_back : a ≤ 65535 → b ≤ 65535 → c ≤ 65535 → version_of (version_text a b c) ≡ some (Value.release a b c)
  unfolding version_of version_text
  version_back p q r =
      let A = decimal 4 a (omega arith) in
      let B = decimal 4 b (omega arith) in
      let C = decimal 4 c (omega arith) in
      let e : cut_at_dots (version_text a b c) ≡ decimal_of a ∷ (decimal_of b ∷ (decimal_of c ∷ [])) =
      cut (decimal_of a) (decimal_of b ++ (0x2E ∷ decimal_of c)) (no_dot A)
      ∙ ap (λ (l : List (List ℕ)). decimal_of a ∷ l)
      (cut (decimal_of b) (decimal_of c) (no_dot B) ∙ ap (λ (l : List (List ℕ)). decimal_of b ∷ l) (uncut (decimal_of c) (no_dot C))) in
      ap three e ∙ rw (number_back A p, number_back B q, number_back C r)

  -- three of at most five digits, and two dots
  pub version_length : length (version_text a b c) ≤ 17
  unfolding version_text
  version_length =
      omega (
        arith,
        length-append (decimal_of a) (0x2E ∷ decimal_of b ++ (0x2E ∷ decimal_of c)),
        length-append (decimal_of b) (0x2E ∷ decimal_of c),
        digits_length 5 a,
        digits_length 5 b,
        digits_length 5 c,
      )
