-- No second result meets a public call's statement: two results, each with the five columns afterwards, that meet it on the same input are the same.
-- Assumes nothing.
use Prim.Native.Nat.{ℕ}
use mathlib.Core.Path.{◌≡◌, sym, ap, ◌∙◌}
use Rattle.meters.specs.Answers.{Found, Uplinked}
use Rattle.meters.specs.Columns.{Columns, Done, told_place, told_credit, find_on, enrol_on, withdraw_on, uplink_on}

module _ (c : Columns) (x : ℕ) where
  module _ (r r' : Found) (d d' : Columns) where
    same_place : told_place r d ≡ told_place r' d' → (r ≡ r') × (d ≡ d')
    same_place e = (ap (λ (t : Done Found). t.answer) e, ap (λ (t : Done Found). t.columns) e)

    pub one_find : told_place r d ≡ find_on c x → told_place r' d' ≡ find_on c x → (r ≡ r') × (d ≡ d')
    one_find p q = same_place (p ∙ sym q)

    pub one_enrol : (a n : ℕ) → told_place r d ≡ enrol_on c x a n → told_place r' d' ≡ enrol_on c x a n → (r ≡ r') × (d ≡ d')
    one_enrol a n p q = same_place (p ∙ sym q)

    pub one_withdraw : told_place r d ≡ withdraw_on c x → told_place r' d' ≡ withdraw_on c x → (r ≡ r') × (d ≡ d')
    one_withdraw p q = same_place (p ∙ sym q)

  module _ (r r' : Uplinked) (d d' : Columns) where
    pub one_uplink : (n s : ℕ) → told_credit r d ≡ uplink_on c x n s → told_credit r' d' ≡ uplink_on c x n s → (r ≡ r') × (d ≡ d')
    one_uplink n s p q = (ap (λ (t : Done Uplinked). t.answer) (p ∙ sym q), ap (λ (t : Done Uplinked). t.columns) (p ∙ sym q))
