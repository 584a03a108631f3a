-- The hearer count is the number of stations whose bit is set: each of them stands in the set once and nothing else does, there are at most 64, and adding
-- a station that is there already counts nothing. Bit by bit. Assumes nothing.
use Prim.Native.Nat.{ℕ, zero, suc, ◌+◌, ◌-◌, ◌/◌, ◌%◌, ◌^◌, ◌≤◌, ◌<◌}
use mathlib.Core.Path.{◌≡◌, refl, sym, ap, ap₂, ◌∙◌}
use mathlib.Core.Bool.{Bool, true, false, ◌&&◌, cond}
use mathlib.Core.List.{List, [], ◌∷◌, ◌++◌}
use native.Mathlib.Nat.{mod-lt, one-mul, div-eq_of_lt, add-zero}
use native.Mathlib.Omega.{arith}
use lib.{Dec.eqb, Dec.ltb, Dec.lit<, ListN.length, ListN.get_or, ListN.length-append, Count.ones-le}
use lib.Bits.{bit_or, or_shr, or_mod, or_zero_r, shifted_even}
use lib.Pow.{pow_pos, pow-add, pow-lt, shl-shr}
use borrow.Author.Tests.{lt-ltb, le-ltb, eq-eqb, ne_eqb, ltb-true, ltb-false, eqb-true, eqb-false}
use Rattle.refusal.specs.declared.Refusal.TheVariants.{UnequalColumns}
use Rattle.std.specs.Prelude.{Err}
use Rattle.meters.specs.Answers.{Uplinked}
use Rattle.meters.specs.Stations.{numbers_to, passing, hears, stations, hearers, nobody, alone, with_hearer}
use Rattle.meters.specs.declared.{Row.Row, Heard.Heard}
use Rattle.meters.specs.{Rows.hear_of, Answers.credit_refusal_of, Answers.hearers_of}
use Rattle.meters.specs.Table.{Left, no_row, meter_at, uplink_in}
use Rattle.meters.specs.Columns.{Columns, table_rows, columns_of, even, told_credit, uplink_on}
use Rattle.meters.proofs.{Rules.uplink_cases, Rules.hear_cases, Stations.passing_append, Stations.heard_below, Stations.or_joined}

-- how often a number stands in a list
abbrev pub times : ℕ → List ℕ → ℕ
times s [] = 0
times s (x ∷ xs) = cond (eqb x s) (suc (times s xs)) (times s xs)

times_append : (s : ℕ) (xs ys : List ℕ) → times s (xs ++ ys) ≡ times s xs + times s ys
times_append s [] ys = omega arith
times_append s (x ∷ xs) ys = by (eqb x s) (times_append s xs ys)
  where
    by : (b : Bool) → times s (xs ++ ys) ≡ times s xs + times s ys → cond b (suc (times s (xs ++ ys))) (times s (xs ++ ys)) ≡ cond b (suc (times s xs)) (times s xs) + times s ys
    by true e = omega arith
    by false e = e

gone : (b : Bool) → cond {A = ℕ} (b && false) 1 0 ≡ 0
gone true = refl
gone false = refl

here : (b : Bool) → cond {A = ℕ} (b && true) 1 0 ≡ cond b 1 0
here true = refl
here false = refl

module _ (t : ℕ → Bool) where
  -- the last of the numbers below suc n
  last_one : (s n : ℕ) → times s (passing t (n ∷ [])) ≡ cond (t n && eqb n s) 1 0
  unfolding passing
  last_one s n = by (t n)
    where
      by : (b : Bool) → times s (cond b (n ∷ []) []) ≡ cond (b && eqb n s) 1 0
      by true = refl
      by false = refl

  once : (s n : ℕ) → times s (passing t (numbers_to n)) ≡ cond (ltb s n && t s) 1 0
  unfolding numbers_to passing
  once s zero = simp (le-ltb s 0 (omega arith))
  once s (suc n) =
      ap (times s) (passing_append t (numbers_to n) (n ∷ []))
      ∙ times_append s (passing t (numbers_to n)) (passing t (n ∷ []))
      ∙ ap₂ ◌+◌ (once s n) (last_one s n)
      ∙ by (ltb s n) (eqb n s) refl refl
    where
      by : (b d : Bool) → ltb s n ≡ b → eqb n s ≡ d → cond (ltb s n && t s) 1 0 + cond (t n && eqb n s) 1 0 ≡ cond (ltb s (suc n) && t s) 1 0
      by true d p q =
          let l : s < n = ltb-true s n p in
          simp (lt-ltb s n l, lt-ltb s (suc n) (omega arith), ne_eqb n s (λ e. omega arith), gone (t n), add-zero)
      by false true p q =
          let e : n ≡ s = eqb-true n s q in
          simp (le-ltb s n (omega arith), lt-ltb s (suc n) (omega arith), eq-eqb n s e, here (t s), ap t e) (omega arith)
      by false false p q =
          let g : n ≤ s = ltb-false s n p in
          let e : n ≡ s → ⊥ = eqb-false n s q in
          simp (le-ltb s n g, le-ltb s (suc n) (omega arith), ne_eqb n s e, gone (t n))

pub each_once : (h s : ℕ) → times s (stations h) ≡ cond (ltb s 64 && hears h s) 1 0
unfolding stations
each_once h s = once (hears h) s 64

pub at_most_64 : (h : ℕ) → hearers h ≤ 64
unfolding hearers stations
at_most_64 h = rw (heard_below 64 h) (ones-le 64 (h % 2 ^ 64) (mod-lt h (pow_pos 64)))

-- ---- who is in the sets that the rules make

-- bit t of 2 ^ s
lone_bit : (s t : ℕ) → 2 ^ s / 2 ^ t % 2 ≡ cond (eqb t s) 1 0
lone_bit s t = by (ltb t s) (eqb t s) refl refl
  where
    by : (b d : Bool) → ltb t s ≡ b → eqb t s ≡ d → 2 ^ s / 2 ^ t % 2 ≡ cond (eqb t s) 1 0
    by true d p q =
        let l : t < s = ltb-true t s p in
        let e : s ≡ suc (s - suc t) + t = omega arith in
        simp (ne_eqb t s (λ f. omega arith))
        (ap (λ (k : ℕ). 2 ^ k / 2 ^ t % 2) e
        ∙ ap (λ (k : ℕ). k / 2 ^ t % 2) (pow-add 2 (suc (s - suc t)) t)
        ∙ ap (λ (k : ℕ). k % 2) (shl-shr (2 ^ suc (s - suc t)) t ∙ sym (one-mul (2 ^ suc (s - suc t))))
        ∙ shifted_even 1 (s - suc t))
    by false true p q =
        let e : t ≡ s = eqb-true t s q in
        simp (eq-eqb t s e)
        (ap (λ (k : ℕ). 2 ^ s / 2 ^ k % 2) e ∙ ap (λ (k : ℕ). k % 2) (ap (λ (k : ℕ). k / 2 ^ s) (sym (one-mul (2 ^ s))) ∙ shl-shr 1 s))
    by false false p q =
        let g : s ≤ t = ltb-false t s p in
        let f : t ≡ s → ⊥ = eqb-false t s q in
        simp (ne_eqb t s f) (ap (λ (k : ℕ). k % 2) (div-eq_of_lt (pow-lt (omega arith))))

by_bit : (b : Bool) → eqb (cond b 1 0) 1 ≡ b
by_bit true = refl
by_bit false = refl

pub nobody_hears : (s : ℕ) → hears nobody s ≡ false
unfolding hears
nobody_hears s = ap (λ (k : ℕ). eqb (k % 2) 1) (div-eq_of_lt (pow_pos s))

pub alone_hears : (s t : ℕ) → hears (alone s) t ≡ eqb t s
unfolding hears
alone_hears s t = ap (λ (k : ℕ). eqb k 1) (lone_bit s t) ∙ by_bit (eqb t s)

-- the stations of the set with s added: s, and those that were there
or_bits : (d : ℕ) (b : Bool) → d < 2 → eqb (bit_or d (cond b 1 0)) 1 ≡ cond b true (eqb d 1)
or_bits zero true l = refl
or_bits (suc zero) true l = refl
or_bits (suc (suc d)) true l = absurd (omega arith)
or_bits d false l = ap (λ (k : ℕ). eqb k 1) (or_zero_r d)

pub joined_hears : (h s t : ℕ) → hears (with_hearer h s) t ≡ cond (eqb t s) true (hears h t)
unfolding hears
joined_hears h s t =
    ap (λ (k : ℕ). eqb k 1)
    (ap (λ (k : ℕ). k / 2 ^ t % 2) (sym (or_joined h s)) ∙ ap (λ (k : ℕ). k % 2) (or_shr h (2 ^ s) t) ∙ or_mod (h / 2 ^ t) (2 ^ s / 2 ^ t) 1 ∙ ap (bit_or (h / 2 ^ t % 2)) (lone_bit s t))
    ∙ or_bits (h / 2 ^ t % 2) (eqb t s) (mod-lt (h / 2 ^ t) (lit< tt))

-- ---- how many they are

there : (h s : ℕ) → hears h s ≡ true → with_hearer h s ≡ h
unfolding with_hearer
there h s e = simp e

-- one more passes: s, and nothing else changes
one_more : (t t' : ℕ → Bool) (s n : ℕ) → ((k : ℕ) → t' k ≡ cond (eqb k s) true (t k)) → t s ≡ false
    → length (passing t' (numbers_to n)) ≡ length (passing t (numbers_to n)) + cond (ltb s n) 1 0
unfolding numbers_to passing
one_more t t' s zero e f = simp (le-ltb s 0 (omega arith))
one_more t t' s (suc n) e f =
    ap length (passing_append t' (numbers_to n) (n ∷ []))
    ∙ length-append (passing t' (numbers_to n)) (passing t' (n ∷ []))
    ∙ ap (λ (k : ℕ). k + length (passing t' (n ∷ []))) (one_more t t' s n e f)
    ∙ by (ltb s n) (eqb n s) refl refl
    ∙ ap (λ (k : ℕ). k + cond (ltb s (suc n)) 1 0) (sym (ap length (passing_append t (numbers_to n) (n ∷ [])) ∙ length-append (passing t (numbers_to n)) (passing t (n ∷ []))))
  where
    by : (b d : Bool) → ltb s n ≡ b → eqb n s ≡ d
        → (length (passing t (numbers_to n)) + cond (ltb s n) 1 0) + length (passing t' (n ∷ [])) ≡ (length (passing t (numbers_to n)) + length (passing t (n ∷ []))) + cond (ltb s (suc n)) 1 0
    by true d p q =
        let l : s < n = ltb-true s n p in
        simp (lt-ltb s n l, lt-ltb s (suc n) (omega arith), e n, ne_eqb n s (λ g. omega arith)) (omega arith)
    by false true p q =
        let g : n ≡ s = eqb-true n s q in
        simp (le-ltb s n (omega arith), lt-ltb s (suc n) (omega arith), e n, eq-eqb n s g, ap t g ∙ f) (omega arith)
    by false false p q =
        let g : n ≤ s = ltb-false s n p in
        let m : n ≡ s → ⊥ = eqb-false n s q in
        simp (le-ltb s n g, le-ltb s (suc n) (omega arith), e n, ne_eqb n s m) (omega arith)

added : (h s : ℕ) → s < 64 → hears h s ≡ false → hearers (with_hearer h s) ≡ suc (hearers h)
unfolding hearers stations
added h s l e =
    one_more (hears h) (hears (with_hearer h s)) s 64 (joined_hears h s) e
    ∙ ap (λ (b : Bool). length (passing (hears h) (numbers_to 64)) + cond b 1 0) (lt-ltb s 64 l) ∙ omega arith

pub joined_count : (h s : ℕ) → s < 64 → hearers (with_hearer h s) ≡ cond (hears h s) (hearers h) (suc (hearers h))
joined_count h s l = by (hears h s) refl
  where
    by : (b : Bool) → hears h s ≡ b → hearers (with_hearer h s) ≡ cond b (hearers h) (suc (hearers h))
    by true e = ap hearers (there h s e)
    by false e = added h s l e

-- ---- the answer

-- a packet that is not refused is answered with the count of the row's heard set, as it is afterwards
pub answer_counts : (i : ℕ) (r : Row) (n s : ℕ) → credit_refusal_of (hear_of i r n s).answer ≡ 0 → hearers_of (hear_of i r n s).answer ≡ hearers (hear_of i r n s).row.heard
answer_counts i r n s =
    hear_cases i r n s (λ (h : Heard). credit_refusal_of h.answer ≡ 0 → hearers_of h.answer ≡ hearers h.row.heard) (λ e. refl) (λ e. refl) (λ e. absurd (omega arith))

-- no uplink answers more than 64
pub answer_at_most_64 : (c : Columns) (x n s : ℕ) → (uplink_on c x n s).hearers ≤ 64
unfolding uplink_on
answer_at_most_64 c x n s = by (even c)
  where
    packet : (i : ℕ) (r : Row) → hearers_of (hear_of i r n s).answer ≤ 64
    packet i r = hear_cases i r n s (λ (h : Heard). hearers_of h.answer ≤ 64) (at_most_64 (alone s)) (at_most_64 (with_hearer r.heard s)) (omega arith)

    call : (rows : List Row) → hearers_of (uplink_in rows x n s).answer ≤ 64
    call rows =
        uplink_cases rows x n s (λ (l : Left Uplinked). hearers_of l.answer ≤ 64) (λ l. omega arith) (λ l m. omega arith) (λ l m. packet (meter_at rows x) (get_or rows (meter_at rows x) no_row))

    by : (b : Bool) → (cond b (told_credit (uplink_in (table_rows c) x n s).answer (columns_of (uplink_in (table_rows c) x n s).rows)) (told_credit (Err UnequalColumns) c)).hearers ≤ 64
    by true = call (table_rows c)
    by false = omega arith
