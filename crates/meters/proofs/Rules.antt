-- The calls on rows, case by case: each case of a definition as an equation. Assumes nothing.
use Prim.Native.Nat.{ℕ, ◌≤◌, ◌<◌}
use mathlib.Core.{Path.◌≡◌, Path.refl, List.List}
use mathlib.Core.Bool.{Bool, true, false, not, ◌&&◌, cond}
use lib.{Dec.eqb, Dec.ltb, ListN.length, ListN.get_or, ListN.set}
use borrow.Author.Tests.{lt-ltb, le-ltb, ltb-true, ltb-false}
use Rattle.refusal.specs.declared.Refusal.TheVariants.{NoRow, AlreadyEnrolled, NoFreeRow, StationNumber, Stale}
use Rattle.meters.specs.declared.Kind.TheVariants.{New, Copy}
use Rattle.std.specs.Prelude.{Ok, Err}
use Rattle.meters.specs.Answers.{Found, Uplinked}
use Rattle.meters.specs.declared.{Row.Row, Heard.Heard}
use Rattle.meters.specs.Stations.{nobody, alone, with_hearer}
use Rattle.meters.specs.Rows.{enrolled, withdrawn, heard_as, credited, hear_of}
use Rattle.meters.specs.Table.{Left, no_row, left, meter_at, free_at, heard_in, find_in, enrol_in, withdraw_in, uplink_in}

module _ (rows : List Row) (x : ℕ) where
  pub find_none : length rows ≤ meter_at rows x → find_in rows x ≡ left (Err NoRow) rows
  unfolding find_in
  find_none h = simp (le-ltb (meter_at rows x) (length rows) h)

  pub find_at : meter_at rows x < length rows → find_in rows x ≡ left (Ok (meter_at rows x)) rows
  unfolding find_in
  find_at h = simp (lt-ltb (meter_at rows x) (length rows) h)

  pub withdraw_none : length rows ≤ meter_at rows x → withdraw_in rows x ≡ left (Err NoRow) rows
  unfolding withdraw_in
  withdraw_none h = simp (le-ltb (meter_at rows x) (length rows) h)

  pub withdraw_at : meter_at rows x < length rows → withdraw_in rows x ≡ left (Ok (meter_at rows x)) (set rows (meter_at rows x) (withdrawn (get_or rows (meter_at rows x) no_row)))
  unfolding withdraw_in
  withdraw_at h = simp (lt-ltb (meter_at rows x) (length rows) h)

  module _ (a n : ℕ) where
    pub enrol_there : meter_at rows x < length rows → enrol_in rows x a n ≡ left (Err AlreadyEnrolled) rows
    unfolding enrol_in
    enrol_there h = simp (lt-ltb (meter_at rows x) (length rows) h)

    pub enrol_full : length rows ≤ meter_at rows x → length rows ≤ free_at rows → enrol_in rows x a n ≡ left (Err NoFreeRow) rows
    unfolding enrol_in
    enrol_full h g = simp (le-ltb (meter_at rows x) (length rows) h, le-ltb (free_at rows) (length rows) g)

    pub enrol_at : length rows ≤ meter_at rows x → free_at rows < length rows → enrol_in rows x a n ≡ left (Ok (free_at rows)) (set rows (free_at rows) (enrolled x a n))
    unfolding enrol_in
    enrol_at h g = simp (le-ltb (meter_at rows x) (length rows) h, lt-ltb (free_at rows) (length rows) g)

  module _ (n s : ℕ) where
    pub uplink_over : 63 < s → uplink_in rows x n s ≡ left (Err StationNumber) rows
    unfolding uplink_in
    uplink_over h = simp (lt-ltb 63 s h)

    pub uplink_none : s ≤ 63 → length rows ≤ meter_at rows x → uplink_in rows x n s ≡ left (Err NoRow) rows
    unfolding uplink_in
    uplink_none h g = simp (le-ltb 63 s h, le-ltb (meter_at rows x) (length rows) g)

    pub uplink_at : s ≤ 63 → meter_at rows x < length rows → uplink_in rows x n s ≡ left (heard_in rows x n s).answer (set rows (meter_at rows x) (heard_in rows x n s).row)
    unfolding uplink_in
    uplink_at h g = simp (le-ltb 63 s h, lt-ltb (meter_at rows x) (length rows) g)

-- ---- what holds in each case holds of the call
module _ (rows : List Row) (x : ℕ) where
  pub withdraw_cases : (P : Left Found → Type 0) → (length rows ≤ meter_at rows x → P (left (Err NoRow) rows))
      → (meter_at rows x < length rows → P (left (Ok (meter_at rows x)) (set rows (meter_at rows x) (withdrawn (get_or rows (meter_at rows x) no_row))))) → P (withdraw_in rows x)
  withdraw_cases P absent there = by (ltb (meter_at rows x) (length rows)) refl
    where
      by : (b : Bool) → ltb (meter_at rows x) (length rows) ≡ b → P (withdraw_in rows x)
      by true e = let l = ltb-true (meter_at rows x) (length rows) e in rw (withdraw_at rows x l) (there l)
      by false e = let l = ltb-false (meter_at rows x) (length rows) e in rw (withdraw_none rows x l) (absent l)

  pub enrol_cases : (a n : ℕ) (P : Left Found → Type 0) → (meter_at rows x < length rows → P (left (Err AlreadyEnrolled) rows))
      → (length rows ≤ meter_at rows x → length rows ≤ free_at rows → P (left (Err NoFreeRow) rows))
      → (length rows ≤ meter_at rows x → free_at rows < length rows → P (left (Ok (free_at rows)) (set rows (free_at rows) (enrolled x a n)))) → P (enrol_in rows x a n)
  enrol_cases a n P there full free = by (ltb (meter_at rows x) (length rows)) (ltb (free_at rows) (length rows)) refl refl
    where
      by : (b d : Bool) → ltb (meter_at rows x) (length rows) ≡ b → ltb (free_at rows) (length rows) ≡ d → P (enrol_in rows x a n)
      by true d e f = let l = ltb-true (meter_at rows x) (length rows) e in rw (enrol_there rows x a n l) (there l)
      by false false e f =
          let l = ltb-false (meter_at rows x) (length rows) e in
          let m = ltb-false (free_at rows) (length rows) f in
          rw (enrol_full rows x a n l m) (full l m)
      by false true e f =
          let l = ltb-false (meter_at rows x) (length rows) e in
          let m = ltb-true (free_at rows) (length rows) f in
          rw (enrol_at rows x a n l m) (free l m)

  pub uplink_cases : (n s : ℕ) (P : Left Uplinked → Type 0) → (63 < s → P (left (Err StationNumber) rows))
      → (s ≤ 63 → length rows ≤ meter_at rows x → P (left (Err NoRow) rows))
      → (s ≤ 63 → meter_at rows x < length rows → P (left (heard_in rows x n s).answer (set rows (meter_at rows x) (heard_in rows x n s).row))) → P (uplink_in rows x n s)
  uplink_cases n s P over absent there = by (ltb 63 s) (ltb (meter_at rows x) (length rows)) refl refl
    where
      by : (b d : Bool) → ltb 63 s ≡ b → ltb (meter_at rows x) (length rows) ≡ d → P (uplink_in rows x n s)
      by true d e f = let l = ltb-true 63 s e in rw (uplink_over rows x n s l) (over l)
      by false false e f =
          let l = ltb-false 63 s e in
          let m = ltb-false (meter_at rows x) (length rows) f in
          rw (uplink_none rows x n s l m) (absent l m)
      by false true e f =
          let l = ltb-false 63 s e in
          let m = ltb-true (meter_at rows x) (length rows) f in
          rw (uplink_at rows x n s l m) (there l m)

-- a packet is new, a copy or stale
pub hear_cases : (i : ℕ) (r : Row) (n s : ℕ) (P : Heard → Type 0) → P (credited New i (heard_as r n (alone s))) → P (credited Copy i (heard_as r r.last (with_hearer r.heard s)))
    → P (record { row = r; answer = Err Stale }) → P (hear_of i r n s)
unfolding hear_of
hear_cases i r n s P new copy stale = by (ltb r.last n) (eqb n r.last && not (eqb r.heard nobody))
  where
    by : (a b : Bool) → P (cond a (credited New i (heard_as r n (alone s))) (cond b (credited Copy i (heard_as r r.last (with_hearer r.heard s))) (record { row = r; answer = Err Stale })))
    by true b = new
    by false true = copy
    by false false = stale

-- it leaves the row's mark, EUI and short address
pub hear_keeps : (i : ℕ) (r : Row) (n s : ℕ) (g : Row → ℕ) → ((m h : ℕ) → g (heard_as r m h) ≡ g r) → g (hear_of i r n s).row ≡ g r
hear_keeps i r n s g kept = hear_cases i r n s (λ (h : Heard). g h.row ≡ g r) (kept n (alone s)) (kept r.last (with_hearer r.heard s)) refl

-- ---- a call's answer
module _ (rows : List Row) (x : ℕ) where
  pub find_answer : (find_in rows x).answer ≡ cond (ltb (meter_at rows x) (length rows)) (Ok (meter_at rows x)) (Err NoRow)
  unfolding find_in
  find_answer = refl

  pub withdraw_answer : (withdraw_in rows x).answer ≡ cond (ltb (meter_at rows x) (length rows)) (Ok (meter_at rows x)) (Err NoRow)
  withdraw_answer =
      withdraw_cases rows x (λ (l : Left Found). l.answer ≡ cond (ltb (meter_at rows x) (length rows)) (Ok (meter_at rows x)) (Err NoRow))
      (λ l. simp (le-ltb (meter_at rows x) (length rows) l)) (λ l. simp (lt-ltb (meter_at rows x) (length rows) l))

  pub uplink_answer : (n s : ℕ) → (uplink_in rows x n s).answer ≡ cond (ltb 63 s) (Err StationNumber) (cond (ltb (meter_at rows x) (length rows)) (heard_in rows x n s).answer (Err NoRow))
  uplink_answer n s =
      uplink_cases rows x n s (λ (l : Left Uplinked). l.answer ≡ cond (ltb 63 s) (Err StationNumber) (cond (ltb (meter_at rows x) (length rows)) (heard_in rows x n s).answer (Err NoRow)))
      (λ l. simp (lt-ltb 63 s l)) (λ l m. simp (le-ltb 63 s l, le-ltb (meter_at rows x) (length rows) m)) (λ l m. simp (le-ltb 63 s l, lt-ltb (meter_at rows x) (length rows) m))
