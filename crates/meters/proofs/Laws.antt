-- Each return of the code as a law: its premises are the facts that the code has there, its conclusion is what the contract asks. Assumes nothing.
use Prim.Native.Nat.{ℕ, ◌%◌, ◌*◌, ◌^◌, ◌≤◌, ◌<◌}
use mathlib.Core.Path.{◌≡◌, refl, sym, ap, ◌∙◌}
use mathlib.Core.Bool.{Bool, true, false, not, ◌&&◌, cond}
use mathlib.Core.List.{List}
use Rattle.std.specs.Prelude.{Option, Some, None, ok_or, is_some}
use native.Mathlib.Omega.{arith}
use lib.{Dec.eqb, Dec.ltb, ListN.length, ListN.get_or, ListN.set, Bits.bit_or, Count.ones, Seq.set-get_or}
use borrow.Author.Tests.{lt-ltb, le-ltb, ltb-true, ltb-false}
use Rattle.refusal.specs.declared.Refusal.{Refusal}
use Rattle.meters.specs.Answers.{Found}
use Rattle.refusal.specs.declared.Refusal.TheVariants.{NoRow, AlreadyEnrolled, NoFreeRow, UnequalColumns, StationNumber, Stale}
use Rattle.meters.specs.declared.Kind.TheVariants.{New, Copy}
use Rattle.std.specs.Prelude.{Ok, Err}
use Rattle.meters.specs.declared.{Row.Row, Heard.Heard}
use Rattle.meters.specs.Stations.{with_hearer}
use Rattle.meters.specs.Rows.{enrolled, withdrawn, heard_as, credit_of, hear_of}
use Rattle.meters.specs.Table.{Left, left, no_row, meter_at, free_at, find_in, enrol_in, withdraw_in, uplink_in}
use Rattle.meters.specs.Columns.{Columns, columns, row_at, table_rows, columns_of, even, Done, told_place, told_credit, on_rows, find_on, enrol_on, withdraw_on, uplink_on}
use Rattle.meters.specs.Code.Store.{meter_place, free_row, put_row, Even}
use Rattle.meters.proofs.Truth.{never}
use Rattle.meters.proofs.Stations.{ones_hearers, shifted, alone_hearers, or_joined, joined_lt}
use Rattle.meters.proofs.Rules.{find_none, find_at, withdraw_none, withdraw_at, enrol_there, enrol_full, enrol_at, uplink_over, uplink_none, uplink_at, hear_keeps}
use Rattle.meters.proofs.Held.{place_in, none_in, some_in, meter_of, free_of, even_true, true_even, length_rows, row_at_lem, columns_are, columns_back, columns_set}

-- ---- the row's step
module _ (i : ℕ) (r : Row) (n s : ℕ) (g : s < 64) where
  pub hear_new : r.last < n → record { row = heard_as r n ((1 * 2 ^ s) % 2 ^ 64); answer = Ok (credit_of New 1 i) } ≡ hear_of i r n s
  unfolding hear_of
  hear_new h = simp (lt-ltb _ _ h, shifted s g, alone_hearers s g)

  pub hear_copy : r.heard < 2 ^ 64 → n ≤ r.last → eqb n r.last && not (eqb r.heard 0) ≡ true
      → record { row = heard_as r r.last (bit_or r.heard ((1 * 2 ^ s) % 2 ^ 64)); answer = Ok (credit_of Copy (ones (bit_or r.heard ((1 * 2 ^ s) % 2 ^ 64))) i) } ≡ hear_of i r n s
  unfolding hear_of
  hear_copy f h e = simp (le-ltb r.last n h, e, shifted s g, or_joined r.heard s, ones_hearers (with_hearer r.heard s) (joined_lt r.heard s f g))

  pub hear_stale : n ≤ r.last → eqb n r.last && not (eqb r.heard 0) ≡ false → record { row = r; answer = Err Stale } ≡ hear_of i r n s
  unfolding hear_of
  hear_stale h e = simp (le-ltb r.last n h, e)

pub ruleset steps = (hear_new, hear_copy, hear_stale)

-- ---- the calls, where the lengths differ; d is what is shown of the columns c
on_uneven : {A : Type 0} (told : A → Columns → Done A) (unequal : A) (call : List Row → Left A) (c : Columns) → even c ≡ false → told unequal c ≡ on_rows told unequal call c
on_uneven told unequal call c t = simp t

module _ (c d : Columns) (shown : d ≡ c) (r : Bool) (p : r ≡ even d) where
  even_is : r ≡ even c
  even_is = p ∙ ap even shown

  pub is_table_lem : r ≡ true → Even c
  is_table_lem q = true_even c (sym even_is ∙ q)

  pub same_euis : r ≡ true → length d.euis ≡ length d.used
  same_euis q = (true_even d (sym p ∙ q)).euis

  module _ (q : r ≡ false) where
    uneven : even c ≡ false
    uneven = sym even_is ∙ q

    pub find_24 : (x : ℕ) → told_place (Err UnequalColumns) c ≡ find_on c x
    unfolding find_on
    find_24 x = on_uneven told_place (Err UnequalColumns) (λ (rows : List Row). find_in rows x) c uneven

    pub enrol_24 : (x a n : ℕ) → told_place (Err UnequalColumns) c ≡ enrol_on c x a n
    unfolding enrol_on
    enrol_24 x a n = on_uneven told_place (Err UnequalColumns) (λ (rows : List Row). enrol_in rows x a n) c uneven

    pub uplink_24 : (x n s : ℕ) → told_credit (Err UnequalColumns) c ≡ uplink_on c x n s
    unfolding uplink_on
    uplink_24 x n s = on_uneven told_credit (Err UnequalColumns) (λ (rows : List Row). uplink_in rows x n s) c uneven

-- ---- the calls on a table: what a call on its rows leaves is what the columns hold
on_even : {A : Type 0} (told : A → Columns → Done A) (unequal : A) (call : List Row → Left A) (c : Columns) → Even c
    → (a : A) (rows : List Row) (d : Columns) → call (table_rows c) ≡ left a rows → columns_of rows ≡ d → told a d ≡ on_rows told unequal call c
on_even told unequal call c t a rows d e f = simp (even_true c t, e, f)

-- what is made of a place that a search answers
module _ (o : Option ℕ) (e : Refusal) where
  none_err : (n : Refusal) → Err n ≡ ok_or o e → (o ≡ None) × (n ≡ e)
  none_err n f = by o refl f
    where
      by : (p : Option ℕ) → o ≡ p → Err n ≡ ok_or p e → (o ≡ None) × (n ≡ e)
      by None q g = let s : n ≡ e = cc in (q, s)
      by (Some i) q g = let z : ◌≡◌ {A = ℕ} 0 1 = cc in absurd (omega arith)

  some_ok : (i : ℕ) → Ok i ≡ ok_or o e → o ≡ Some i
  some_ok i f = by o refl f
    where
      by : (p : Option ℕ) → o ≡ p → Ok i ≡ ok_or p e → o ≡ Some i
      by None q g = let z : ◌≡◌ {A = ℕ} 0 1 = cc in absurd (omega arith)
      by (Some k) q g = let s : k ≡ i = cc in q ∙ ap Some s

-- a withdrawal finds as a lookup does
module _ (c : Columns) (x : ℕ) where
  at_lem : Bool → Bool → Found
  at_lem b k = cond b (cond k (Ok (meter_at (table_rows c) x)) (Err NoRow)) (Err UnequalColumns)

  find_answers : (r : Found) → told_place r c ≡ find_on c x → r ≡ at_lem (even c) (ltb (meter_at (table_rows c) x) (length (table_rows c)))
  unfolding find_on find_in at_lem
  find_answers r e = ap (λ (d : Done Found). d.answer) e ∙ by (even c)
    where
      by : (b : Bool) → (cond b (told_place (find_in (table_rows c) x).answer (columns_of (find_in (table_rows c) x).rows)) (told_place (Err UnequalColumns) c)).answer
          ≡ at_lem b (ltb (meter_at (table_rows c) x) (length (table_rows c)))
      by true = refl
      by false = refl

  record Place (i : ℕ) : Type 0 where
    even : Even c
    at : i ≡ meter_at (table_rows c) x
    within : i < length c.used

  find_places : (i : ℕ) → told_place (Ok i) c ≡ find_on c x → Place i
  unfolding at_lem
  find_places i e = by (even c) (ltb (meter_at (table_rows c) x) (length (table_rows c))) refl refl (find_answers (Ok i) e)
    where
      by : (b k : Bool) → even c ≡ b → ltb (meter_at (table_rows c) x) (length (table_rows c)) ≡ k → Ok i ≡ at_lem b k → Place i
      by true true p q f =
          let at : i ≡ meter_at (table_rows c) x = cc in
          record { even = true_even c p; at = at; within = rw (at, ← length_rows c) (ltb-true _ _ q) }
      by true false p q f = let z : ◌≡◌ {A = ℕ} 0 1 = cc in absurd (omega arith)
      by false k p q f = let z : ◌≡◌ {A = ℕ} 0 1 = cc in absurd (omega arith)

  find_refuses : (n : Refusal) → told_place (Err n) c ≡ find_on c x → told_place (Err n) c ≡ withdraw_on c x
  unfolding withdraw_on at_lem
  find_refuses n e = by (even c) (ltb (meter_at (table_rows c) x) (length (table_rows c))) refl refl (find_answers (Err n) e)
    where
      by : (b k : Bool) → even c ≡ b → ltb (meter_at (table_rows c) x) (length (table_rows c)) ≡ k → Err n ≡ at_lem b k → told_place (Err n) c ≡ withdraw_on c x
      by true true p q f = let z : ◌≡◌ {A = ℕ} 0 1 = cc in absurd (omega arith)
      by true false p q f =
          let t = true_even c p in
          ap (λ (r : Found). told_place r c) f
          ∙ on_even told_place (Err UnequalColumns) (λ (rows : List Row). withdraw_in rows x) c t _ _ _ (withdraw_none (table_rows c) x (ltb-false _ _ q)) (columns_back c t)
      by false k p q f = ap (λ (r : Found). told_place r c) f ∙ on_uneven told_place (Err UnequalColumns) (λ (rows : List Row). withdraw_in rows x) c p

module _ (u e s l h : List ℕ) where
  abbrev lent : Columns
  lent = columns u e s l h

  module _ (d : Columns) (shown : d ≡ lent) (x : ℕ) (r : Found) (f : told_place r d ≡ find_on d x) where
    as_found : told_place r lent ≡ find_on lent x
    as_found = rw shown at f

    pub withdraw_refused : (n : Refusal) → r ≡ Err n → told_place (Err n) lent ≡ withdraw_on lent x
    withdraw_refused n q = find_refuses lent x n (rw q at as_found)

    module _ (i : ℕ) (q : r ≡ Ok i) where
      found_at : Place lent x i
      found_at = find_places lent x i (rw q at as_found)

      pub withdraw_within : i < length u
      withdraw_within = found_at.within

      pub withdraw_done : told_place (Ok i) (columns (set u i 0) e s l h) ≡ withdraw_on lent x
      unfolding withdraw_on
      withdraw_done =
          on_even told_place (Err UnequalColumns) (λ (rows : List Row). withdraw_in rows x) lent found_at.even (Ok i) (set (table_rows lent) i (withdrawn (row_at lent i))) _
          (withdraw_at (table_rows lent) x (rw (length_rows lent, ← found_at.at) found_at.within)
          ∙ ap (λ (k : ℕ). left (Ok k) (set (table_rows lent) k (withdrawn (get_or (table_rows lent) k no_row)))) (sym found_at.at)
          ∙ ap (λ (r : Row). left (Ok i) (set (table_rows lent) i (withdrawn r))) (row_at_lem lent i found_at.within))
          (columns_set lent found_at.even i (withdrawn (row_at lent i)) ∙ columns_are refl (set-get_or e i 0) (set-get_or s i 0) (set-get_or l i 0) (set-get_or h i 0))

module _ (u e s l h : List ℕ) (t : Even (columns u e s l h)) where
  abbrev c : Columns
  c = columns u e s l h

  pub uplink_25 : (x n k : ℕ) → 63 < k → told_credit (Err StationNumber) c ≡ uplink_on c x n k
  unfolding uplink_on
  uplink_25 x n k g = on_even told_credit (Err UnequalColumns) (λ (rows : List Row). uplink_in rows x n k) c t _ _ _ (uplink_over (table_rows c) x n k g) (columns_back c t)

  -- what the lookup answers
  module _ (d : Columns) (shown : d ≡ c) (x : ℕ) (o : Option ℕ) (p : o ≡ meter_place d x) where
    placed : o ≡ place_in (length u) (meter_at (table_rows c) x)
    placed = p ∙ ap (λ (b : Columns). meter_place b x) shown ∙ meter_of c x t.euis

    -- the meter has no row
    module _ (q : o ≡ None) where
      none : length (table_rows c) ≤ meter_at (table_rows c) x
      none = rw (length_rows c) (none_in (length u) (meter_at (table_rows c) x) (sym q ∙ placed))

      find_21 : told_place (Err NoRow) c ≡ find_on c x
      unfolding find_on
      find_21 = on_even told_place (Err UnequalColumns) (λ (rows : List Row). find_in rows x) c t _ _ _ (find_none (table_rows c) x none) (columns_back c t)

      uplink_none_lem : (n k : ℕ) → k ≤ 63 → told_credit (Err NoRow) c ≡ uplink_on c x n k
      unfolding uplink_on
      uplink_none_lem n k g = on_even told_credit (Err UnequalColumns) (λ (rows : List Row). uplink_in rows x n k) c t _ _ _ (uplink_none (table_rows c) x n k g none) (columns_back c t)

      module _ (a n : ℕ) (v : Option ℕ) (w : v ≡ free_row d) where
        free : v ≡ place_in (length u) (free_at (table_rows c))
        free = w ∙ ap free_row shown ∙ free_of c

        enrol_full_lem : v ≡ None → told_place (Err NoFreeRow) c ≡ enrol_on c x a n
        unfolding enrol_on
        enrol_full_lem g =
            on_even told_place (Err UnequalColumns) (λ (rows : List Row). enrol_in rows x a n) c t _ _ _
            (enrol_full (table_rows c) x a n none (rw (length_rows c) (none_in (length u) (free_at (table_rows c)) (sym g ∙ free)))) (columns_back c t)

        pub enrol_23 : (m : Refusal) → Err m ≡ ok_or v NoFreeRow → told_place (Err m) c ≡ enrol_on c x a n
        enrol_23 m f = let z = none_err v NoFreeRow m f in rw z.1 (enrol_full_lem z.0)

        module _ (j : ℕ) (f : Ok j ≡ ok_or v NoFreeRow) where
          at_free : (j ≡ free_at (table_rows c)) × (j < length u)
          at_free = some_in (length u) (free_at (table_rows c)) j (sym (some_ok v NoFreeRow j f) ∙ free)

          pub free_within : j < length u
          free_within = at_free.1

          pub enrol_done : (b : Columns) → b ≡ put_row c j (enrolled x a n) → told_place (Ok j) b ≡ enrol_on c x a n
          unfolding enrol_on
          enrol_done b y =
              on_even told_place (Err UnequalColumns) (λ (rows : List Row). enrol_in rows x a n) c t (Ok j) (set (table_rows c) j (enrolled x a n)) b
              (enrol_at (table_rows c) x a n none (rw (length_rows c, ← at_free.0) at_free.1) ∙ ap (λ (k : ℕ). left (Ok k) (set (table_rows c) k (enrolled x a n))) (sym at_free.0))
              (columns_set c t j (enrolled x a n) ∙ sym y)

    -- the meter has row i
    module _ (i : ℕ) (q : o ≡ Some i) where
      found : (i ≡ meter_at (table_rows c) x) × (i < length u)
      found = some_in (length u) (meter_at (table_rows c) x) i (sym q ∙ placed)

      at : i ≡ meter_at (table_rows c) x
      at = found.0

      there : meter_at (table_rows c) x < length (table_rows c)
      there = rw (length_rows c, ← at) found.1

      find_done : told_place (Ok i) c ≡ find_on c x
      unfolding find_on
      find_done = on_even told_place (Err UnequalColumns) (λ (rows : List Row). find_in rows x) c t _ _ _ (find_at (table_rows c) x there ∙ ap (λ (k : ℕ). left (Ok k) (table_rows c)) (sym at)) (columns_back c t)

      enrol_there_lem : (a n : ℕ) → told_place (Err AlreadyEnrolled) c ≡ enrol_on c x a n
      unfolding enrol_on
      enrol_there_lem a n = on_even told_place (Err UnequalColumns) (λ (rows : List Row). enrol_in rows x a n) c t _ _ _ (enrol_there (table_rows c) x a n there) (columns_back c t)

      module _ (n k : ℕ) (g : k ≤ 63) where
        -- a column that no packet changes
        kept : (w : List ℕ) (f : Row → ℕ) → ((m b : ℕ) → f (heard_as (row_at c i) m b) ≡ f (row_at c i)) → f (row_at c i) ≡ get_or w i 0 → set w i (f (hear_of i (row_at c i) n k).row) ≡ w
        kept w f y z = ap (set w i) (hear_keeps i (row_at c i) n k f y ∙ z) ∙ set-get_or w i 0

        uplink_by : told_credit (hear_of i (row_at c i) n k).answer (columns u e s (set l i (hear_of i (row_at c i) n k).row.last) (set h i (hear_of i (row_at c i) n k).row.heard)) ≡ uplink_on c x n k
        unfolding uplink_on
        uplink_by =
            on_even told_credit (Err UnequalColumns) (λ (rows : List Row). uplink_in rows x n k) c t (hear_of i (row_at c i) n k).answer (set (table_rows c) i (hear_of i (row_at c i) n k).row) _
            (uplink_at (table_rows c) x n k g there
            ∙ ap (λ (j : ℕ). left (hear_of j (get_or (table_rows c) j no_row) n k).answer (set (table_rows c) j (hear_of j (get_or (table_rows c) j no_row) n k).row)) (sym at)
            ∙ ap (λ (r : Row). left (hear_of i r n k).answer (set (table_rows c) i (hear_of i r n k).row)) (row_at_lem c i found.1))
            (columns_set c t i (hear_of i (row_at c i) n k).row
            ∙ columns_are (kept u (λ (r : Row). r.used) (λ m b. refl) refl) (kept e (λ (r : Row). r.eui) (λ m b. refl) refl) (kept s (λ (r : Row). r.short) (λ m b. refl) refl) refl refl)

    -- what the search's answer is made into
    pub find_told : (w : Found) → w ≡ ok_or o NoRow → told_place w c ≡ find_on c x
    find_told w f = by o refl f
      where
        by : (v : Option ℕ) → o ≡ v → w ≡ ok_or v NoRow → told_place w c ≡ find_on c x
        by None q g = rw g (find_21 q)
        by (Some i) q g = rw g (find_done i q)

    pub enrol_22 : (b : Bool) → b ≡ is_some o → b ≡ true → (a n : ℕ) → told_place (Err AlreadyEnrolled) c ≡ enrol_on c x a n
    enrol_22 b f g a n = by o refl (sym g ∙ f)
      where
        by : (v : Option ℕ) → o ≡ v → true ≡ is_some v → told_place (Err AlreadyEnrolled) c ≡ enrol_on c x a n
        by None q k = never (sym k)
        by (Some i) q k = enrol_there_lem i q a n

    pub absent : (b : Bool) → b ≡ is_some o → b ≡ false → o ≡ None
    absent b f g = by o refl (sym g ∙ f)
      where
        by : (v : Option ℕ) → o ≡ v → false ≡ is_some v → o ≡ None
        by None q k = q
        by (Some i) q k = never k

    pub uplink_21 : (m : Refusal) → Err m ≡ ok_or o NoRow → (n k : ℕ) → k ≤ 63 → told_credit (Err m) c ≡ uplink_on c x n k
    uplink_21 m f n k g = let z = none_err o NoRow m f in rw z.1 (uplink_none_lem z.0 n k g)

    module _ (i : ℕ) (f : Ok i ≡ ok_or o NoRow) where
      pub row_within : i < length u
      row_within = (found i (some_ok o NoRow i f)).1

      pub last_within : i < length l
      last_within = rw t.lasts row_within

      pub heard_within : i < length h
      heard_within = rw t.heards row_within

      pub uplink_done : (n k : ℕ) → k ≤ 63 → (r : Row) (y : Heard) (b : Columns) → r ≡ row_at d i → y ≡ hear_of i r n k → b ≡ columns u e s (set l i y.row.last) (set h i y.row.heard)
          → told_credit y.answer b ≡ uplink_on c x n k
      uplink_done n k g r y b v m w =
          ap (told_credit y.answer) w
          ∙ ap (λ (z : Heard). told_credit z.answer (columns u e s (set l i z.row.last) (set h i z.row.heard))) (m ∙ ap (λ (o : Row). hear_of i o n k) (v ∙ ap (λ (b : Columns). row_at b i) shown))
          ∙ uplink_by i (some_ok o NoRow i f) n k g

pub ruleset finds = (same_euis, is_table_lem, find_24, find_told)

pub ruleset enrols = (same_euis, is_table_lem, enrol_24, enrol_22, absent, enrol_23, free_within, enrol_done)

pub ruleset withdraws = (withdraw_refused, withdraw_within, withdraw_done)

pub ruleset credits = (same_euis, is_table_lem, row_within, last_within, heard_within, uplink_24, uplink_25, uplink_21, uplink_done)
