-- What a call leaves as it was: a refused call leaves every column, and a call that is not refused leaves every row but one. Assumes nothing.
use Prim.Native.Nat.{ℕ}
use mathlib.Core.Path.{◌≡◌, refl, ap, ◌∙◌}
use mathlib.Core.Bool.{Bool, true, false, cond}
use mathlib.Core.List.{List}
use native.Mathlib.Omega.{arith}
use lib.{ListN.get_or, ListN.set, Seq.get_or-set_other, Seq.set-get_or}
use Rattle.refusal.specs.declared.Refusal.TheVariants.{UnequalColumns}
use Rattle.std.specs.Prelude.{Err}
use Rattle.meters.specs.Answers.{Found, Uplinked}
use Rattle.meters.specs.declared.{Row.Row, Heard.Heard}
use Rattle.meters.specs.{Rows.enrolled, Rows.withdrawn, Rows.hear_of, Answers.table_refusal, Answers.credit_refusal_of, Answers.credit_row_of}
use Rattle.meters.specs.Table.{Left, no_row, meter_at, free_at, heard_in, find_in, enrol_in, withdraw_in, uplink_in}
use Rattle.meters.specs.Columns.{Columns, table_rows, columns_of, even, Done, told_place, told_credit, on_rows, find_on, enrol_on, withdraw_on, uplink_on}
use Rattle.meters.proofs.Held.{true_even, columns_back}
use Rattle.meters.proofs.Rules.{withdraw_cases, enrol_cases, uplink_cases, hear_cases}

-- ---- every other row stays: k is not the row that the call is about
module _ (rows : List Row) (x k : ℕ) where
  pub withdraw_others : (k ≡ meter_at rows x → ⊥) → get_or (withdraw_in rows x).rows k no_row ≡ get_or rows k no_row
  withdraw_others d =
      withdraw_cases rows x (λ (l : Left Found). get_or l.rows k no_row ≡ get_or rows k no_row)
      (λ l. refl)
      (λ l. get_or-set_other rows (meter_at rows x) k (withdrawn (get_or rows (meter_at rows x) no_row)) no_row d)

  pub enrol_others : (a n : ℕ) → (k ≡ free_at rows → ⊥) → get_or (enrol_in rows x a n).rows k no_row ≡ get_or rows k no_row
  enrol_others a n d =
      enrol_cases rows x a n (λ (l : Left Found). get_or l.rows k no_row ≡ get_or rows k no_row)
      (λ l. refl)
      (λ l m. refl)
      (λ l m. get_or-set_other rows (free_at rows) k (enrolled x a n) no_row d)

  pub uplink_others : (n s : ℕ) → (k ≡ meter_at rows x → ⊥) → get_or (uplink_in rows x n s).rows k no_row ≡ get_or rows k no_row
  uplink_others n s d =
      uplink_cases rows x n s (λ (l : Left Uplinked). get_or l.rows k no_row ≡ get_or rows k no_row)
      (λ l. refl)
      (λ l m. refl)
      (λ l m. get_or-set_other rows (meter_at rows x) k (heard_in rows x n s).row no_row d)

-- the row that a credited packet may change is the row in its answer
module _ (rows : List Row) (x n s : ℕ) where
  pub answered_row : credit_refusal_of (uplink_in rows x n s).answer ≡ 0 → credit_row_of (uplink_in rows x n s).answer ≡ meter_at rows x
  answered_row = uplink_cases rows x n s (λ (l : Left Uplinked). Named l.answer) (λ l e. absurd (omega arith)) (λ l m e. absurd (omega arith)) (λ l m. packet)
    where
      Named : Uplinked → Type 0
      Named a = credit_refusal_of a ≡ 0 → credit_row_of a ≡ meter_at rows x

      packet : Named (heard_in rows x n s).answer
      packet = hear_cases (meter_at rows x) (get_or rows (meter_at rows x) no_row) n s (λ (h : Heard). Named h.answer) (λ e. refl) (λ e. refl) (λ e. absurd (omega arith))

-- ---- a refused call changes nothing
-- on rows: where document 01's number of the answer is not 0, the rows are those that came in
abbrev pub Refuses : {A : Type 0} → (A → ℕ) → List Row → Left A → Type 0
Refuses number rows l = (number l.answer ≡ 0 → ⊥) → l.rows ≡ rows

module _ (rows : List Row) (x : ℕ) where
  find_refuses : Refuses table_refusal rows (find_in rows x)
  unfolding find_in
  find_refuses h = refl

  withdraw_refuses : Refuses table_refusal rows (withdraw_in rows x)
  withdraw_refuses = withdraw_cases rows x (Refuses table_refusal rows) (λ l h. refl) (λ l h. absurd (h refl))

  enrol_refuses : (a n : ℕ) → Refuses table_refusal rows (enrol_in rows x a n)
  enrol_refuses a n = enrol_cases rows x a n (Refuses table_refusal rows) (λ l h. refl) (λ l m h. refl) (λ l m h. absurd (h refl))

  -- a stale packet leaves its row
  stale_row : (i : ℕ) (r : Row) (n s : ℕ) → (credit_refusal_of (hear_of i r n s).answer ≡ 0 → ⊥) → (hear_of i r n s).row ≡ r
  stale_row i r n s = hear_cases i r n s (λ (h : Heard). (credit_refusal_of h.answer ≡ 0 → ⊥) → h.row ≡ r) (λ h. absurd (h refl)) (λ h. absurd (h refl)) (λ h. refl)

  uplink_refuses : (n s : ℕ) → Refuses credit_refusal_of rows (uplink_in rows x n s)
  uplink_refuses n s =
      uplink_cases rows x n s (Refuses credit_refusal_of rows)
      (λ l h. refl)
      (λ l m h. refl)
      (λ l m h. ap (set rows (meter_at rows x)) (stale_row (meter_at rows x) (get_or rows (meter_at rows x) no_row) n s h) ∙ set-get_or rows (meter_at rows x) no_row)

on_columns : {A : Type 0} (number : A → ℕ) (told : A → Columns → Done A) (unequal : A) (call : List Row → Left A) (c : Columns)
    → ((a : A) (d : Columns) → (told a d).refusal ≡ number a) → ((a : A) (d : Columns) → (told a d).columns ≡ d)
    → Refuses number (table_rows c) (call (table_rows c)) → ((on_rows told unequal call c).refusal ≡ 0 → ⊥) → (on_rows told unequal call c).columns ≡ c
on_columns number told unequal call c nm cs h = by (even c) refl
  where
    by : (b : Bool) → even c ≡ b
        → ((cond b (told (call (table_rows c)).answer (columns_of (call (table_rows c)).rows)) (told unequal c)).refusal ≡ 0 → ⊥)
        → (cond b (told (call (table_rows c)).answer (columns_of (call (table_rows c)).rows)) (told unequal c)).columns ≡ c
    by true e n =
        cs (call (table_rows c)).answer (columns_of (call (table_rows c)).rows)
        ∙ ap columns_of (h (λ z. n (nm (call (table_rows c)).answer (columns_of (call (table_rows c)).rows) ∙ z)))
        ∙ columns_back c (true_even c e)
    by false e n = cs unequal c

module _ (c : Columns) (x : ℕ) where
  pub find_refused : ((find_on c x).refusal ≡ 0 → ⊥) → (find_on c x).columns ≡ c
  unfolding find_on
  find_refused = on_columns table_refusal told_place (Err UnequalColumns) (λ (rows : List Row). find_in rows x) c (λ a d. refl) (λ a d. refl) (find_refuses (table_rows c) x)

  pub withdraw_refused : ((withdraw_on c x).refusal ≡ 0 → ⊥) → (withdraw_on c x).columns ≡ c
  unfolding withdraw_on
  withdraw_refused = on_columns table_refusal told_place (Err UnequalColumns) (λ (rows : List Row). withdraw_in rows x) c (λ a d. refl) (λ a d. refl) (withdraw_refuses (table_rows c) x)

  pub enrol_refused : (a n : ℕ) → ((enrol_on c x a n).refusal ≡ 0 → ⊥) → (enrol_on c x a n).columns ≡ c
  unfolding enrol_on
  enrol_refused a n = on_columns table_refusal told_place (Err UnequalColumns) (λ (rows : List Row). enrol_in rows x a n) c (λ a d. refl) (λ a d. refl) (enrol_refuses (table_rows c) x a n)

  pub uplink_refused : (n s : ℕ) → ((uplink_on c x n s).refusal ≡ 0 → ⊥) → (uplink_on c x n s).columns ≡ c
  unfolding uplink_on
  uplink_refused n s = on_columns credit_refusal_of told_credit (Err UnequalColumns) (λ (rows : List Row). uplink_in rows x n s) c (λ a d. refl) (λ a d. refl) (uplink_refuses (table_rows c) x n s)
