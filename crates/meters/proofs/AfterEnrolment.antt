-- An accepted enrolment takes the lowest free row, and the meter's row is that row: the first uplink is judged by the counter given, so a late equal counter
-- is 26 and not new. The row was free, so no row before it was the meter's. Assumes nothing.
use Prim.Native.Nat.{ℕ, ◌≤◌, ◌<◌}
use mathlib.Core.Path.{◌≡◌, refl, ap, subst, ◌∙◌}
use mathlib.Core.List.{List}
use native.Mathlib.Omega.{arith}
use lib.ListN.{length, get_or, set, length-set}
use lib.Seq.{get_or-set_same}
use borrow.Author.Tests.{lt-ltb, le-ltb, eq-eqb}
use Rattle.refusal.specs.declared.Refusal.{Refusal, TheVariants.AlreadyEnrolled, TheVariants.NoFreeRow, TheVariants.Stale}
use Rattle.std.specs.Prelude.{Ok, Err}
use Rattle.meters.specs.Answers.{Found}
use Rattle.meters.specs.declared.Row.{Row}
use Rattle.meters.specs.Rows.{is_free_row, is_meter, enrolled, hear_of}
use Rattle.meters.specs.Table.{Left, no_row, meter_at, free_at, enrol_in, uplink_in}
use Rattle.meters.proofs.{Truth.and-false, Scan.first_put, Scan.first_apart, Rules.enrol_cases, Rules.uplink_answer}

-- the row i of the rows afterwards is the new meter's, and the only one that changed
pub record Took (rows after : List Row) (x i : ℕ) (new : Row) : Type 0 where
  pub lowest : i ≡ free_at rows
  pub within : i < length rows
  pub absent : length rows ≤ meter_at rows x
  pub left : after ≡ set rows i new
  pub place : meter_at after x ≡ i
  pub row : get_or after i no_row ≡ new
  pub taken : free_at after ≡ i → ⊥

not_above : (i x a n m s : ℕ) → m ≤ n → (hear_of i (enrolled x a n) m s).answer ≡ Err Stale
unfolding hear_of
not_above i x a n m s g = simp (le-ltb n m g, and-false)

module _ (rows : List Row) (x a n : ℕ) where
  took : length rows ≤ meter_at rows x → free_at rows < length rows → Took rows (set rows (free_at rows) (enrolled x a n)) x (free_at rows) (enrolled x a n)
  took m l =
      let after = set rows (free_at rows) (enrolled x a n) in
      let within : free_at rows < length after = rw (length-set rows (free_at rows) (enrolled x a n)) l in
      let row = get_or-set_same rows (free_at rows) (enrolled x a n) no_row l in
      record {
        lowest = refl;
        within = l;
        absent = m;
        left = refl;
        place = first_put (is_meter x) rows (free_at rows) (enrolled x a n) (omega arith) l (eq-eqb x x refl);
        row = row;
        taken = first_apart is_free_row after (free_at rows) within (ap is_free_row row);
      }

  -- an enrolment that answers a row took that row
  pub enrolled_at : (i : ℕ) → (enrol_in rows x a n).answer ≡ Ok i → Took rows (enrol_in rows x a n).rows x i (enrolled x a n)
  enrolled_at i =
      enrol_cases rows x a n (λ (l : Left Found). l.answer ≡ Ok i → Took rows l.rows x i (enrolled x a n))
      (λ l. not_refused AlreadyEnrolled)
      (λ l m. not_refused NoFreeRow)
      (λ l m e. let i-is : free_at rows ≡ i = cc in subst (λ (k : ℕ). Took rows (set rows (free_at rows) (enrolled x a n)) x k (enrolled x a n)) i-is (took l m))
    where
      not_refused : {A : Type 0} (k : Refusal) → ◌≡◌ {A = Found} (Err k) (Ok i) → A
      not_refused k e = let z : ◌≡◌ {A = ℕ} 0 1 = cc in absurd (omega arith)

  -- the next uplink of the meter is judged by the row that the enrolment wrote
  module _ (i : ℕ) (accepted : (enrol_in rows x a n).answer ≡ Ok i) (m s : ℕ) (station : s ≤ 63) where
    pub first_uplink : (uplink_in (enrol_in rows x a n).rows x m s).answer ≡ (hear_of i (enrolled x a n) m s).answer
    first_uplink =
        let t = enrolled_at i accepted in
        let l : i < length (enrol_in rows x a n).rows = rw (t.left, length-set rows i (enrolled x a n)) t.within in
        uplink_answer (enrol_in rows x a n).rows x m s
        ∙ simp (le-ltb 63 s station, t.place, lt-ltb i (length (enrol_in rows x a n).rows) l, t.row)

    -- "taking a late equal counter after enrolment for new" is an error: it is 26, as is every counter that is not above
    pub late_is_stale : m ≤ n → (uplink_in (enrol_in rows x a n).rows x m s).answer ≡ Err Stale
    late_is_stale g = first_uplink ∙ not_above i x a n m s g
