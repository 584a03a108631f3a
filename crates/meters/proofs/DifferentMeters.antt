-- Calls on different EUIs touch different rows: a used row is one meter's and a free row is nobody's, so no call on x changes where y's row is or what it
-- holds, and y's answers stay. On every contents, several used rows of one EUI among them. Assumes nothing.
use Prim.Native.Nat.{ℕ, ◌<◌}
use mathlib.Core.Path.{◌≡◌, refl, sym, ap₂, ◌∙◌}
use mathlib.Core.{Bool.false, List.List}
use lib.ListN.{length, get_or, set, length-set}
use lib.Seq.{get_or-set_other}
use Rattle.meters.specs.Answers.{Found, Uplinked}
use Rattle.meters.specs.declared.Row.{Row}
use Rattle.meters.specs.Rows.{is_free_row, is_mark, is_meter, enrolled, withdrawn, hear_of}
use Rattle.meters.specs.Table.{Left, no_row, meter_at, free_at, find_in, enrol_in, withdraw_in, uplink_in}
use Rattle.meters.proofs.{Truth.of_meter, Truth.other_eui, Scan.first_passes, Scan.first_set, Scan.first_apart}
use Rattle.meters.proofs.Rules.{withdraw_cases, enrol_cases, uplink_cases, hear_keeps, find_answer, withdraw_answer, uplink_answer}

-- a call on another meter left y alone: as many rows, y's row where it was, and in it what it held
pub record Apart (rows after : List Row) (y : ℕ) : Type 0 where
  pub size : length after ≡ length rows
  pub place : meter_at after y ≡ meter_at rows y
  pub row : get_or after (meter_at rows y) no_row ≡ get_or rows (meter_at rows y) no_row

same : (rows : List Row) (y : ℕ) → Apart rows rows y
same rows y = record { size = refl; place = refl; row = refl }

module _ (rows : List Row) (y i : ℕ) (r : Row) (l : i < length rows) (p : is_meter y (get_or rows i no_row) ≡ false) (q : is_meter y r ≡ false) where
  set_apart : Apart rows (set rows i r) y
  set_apart =
      record { size = length-set rows i r; place = first_set (is_meter y) rows i r p q; row = get_or-set_other rows i (meter_at rows y) r no_row (first_apart (is_meter y) rows i l p) }

module _ (rows : List Row) (x y : ℕ) (differ : x ≡ y → ⊥) where
  -- x's row is not y's
  not_y : meter_at rows x < length rows → is_meter y (get_or rows (meter_at rows x) no_row) ≡ false
  not_y l =
      let r = get_or rows (meter_at rows x) no_row in
      let e : r.eui ≡ x = (of_meter r.used r.eui x (first_passes (is_meter x) rows l)).1 in
      other_eui r.used r.eui y (λ f. differ (sym e ∙ f))

  pub rows_differ : meter_at rows x < length rows → meter_at rows x ≡ meter_at rows y → ⊥
  rows_differ l e = first_apart (is_meter y) rows (meter_at rows x) l (not_y l) (sym e)

  -- nor is a free row
  free_not_y : free_at rows < length rows → is_meter y (get_or rows (free_at rows) no_row) ≡ false
  free_not_y l = simp (first_passes is_free_row rows l)

  pub free_row_differs : free_at rows < length rows → free_at rows ≡ meter_at rows y → ⊥
  free_row_differs l e = first_apart (is_meter y) rows (free_at rows) l (free_not_y l) (sym e)

  pub withdraw_apart : Apart rows (withdraw_in rows x).rows y
  withdraw_apart =
      withdraw_cases rows x (λ (l : Left Found). Apart rows l.rows y)
      (λ l. same rows y)
      (λ l. set_apart rows y (meter_at rows x) (withdrawn (get_or rows (meter_at rows x) no_row)) l (not_y l) refl)

  pub enrol_apart : (a n : ℕ) → Apart rows (enrol_in rows x a n).rows y
  enrol_apart a n =
      enrol_cases rows x a n (λ (l : Left Found). Apart rows l.rows y)
      (λ l. same rows y)
      (λ l m. same rows y)
      (λ l m. set_apart rows y (free_at rows) (enrolled x a n) m (free_not_y m) (other_eui 1 x y differ))

  pub uplink_apart : (n s : ℕ) → Apart rows (uplink_in rows x n s).rows y
  uplink_apart n s =
      let r = get_or rows (meter_at rows x) no_row in
      let keeps : is_meter y (hear_of (meter_at rows x) r n s).row ≡ is_meter y r
      = ap₂ (λ (u w : ℕ). is_mark u w y) (hear_keeps (meter_at rows x) r n s (λ (z : Row). z.used) (λ m h. refl)) (hear_keeps (meter_at rows x) r n s (λ (z : Row). z.eui) (λ m h. refl)) in
      uplink_cases rows x n s (λ (l : Left Uplinked). Apart rows l.rows y)
      (λ l. same rows y)
      (λ l m. same rows y)
      (λ l m. set_apart rows y (meter_at rows x) (hear_of (meter_at rows x) r n s).row m (not_y m) (keeps ∙ not_y m))

-- so y's answers stay what they were
module _ (rows after : List Row) (y : ℕ) (a : Apart rows after y) where
  pub same_find : (find_in after y).answer ≡ (find_in rows y).answer
  same_find = find_answer after y ∙ simp (a.size, a.place) (sym (find_answer rows y))

  pub same_withdraw : (withdraw_in after y).answer ≡ (withdraw_in rows y).answer
  same_withdraw = withdraw_answer after y ∙ simp (a.size, a.place) (sym (withdraw_answer rows y))

  pub same_uplink : (n s : ℕ) → (uplink_in after y n s).answer ≡ (uplink_in rows y n s).answer
  same_uplink n s = uplink_answer after y n s ∙ simp (a.size, a.place, a.row) (sym (uplink_answer rows y n s))
