-- Crediting depends on the EUI and the counter alone: on two tables that differ in short addresses alone, every call gives the same answer and leaves tables
-- that differ in short addresses alone; an enrolment does so whatever short addresses it is given. Each call commutes with setting every short address to 0.
-- Assumes nothing.
use Prim.Native.Nat.{ℕ, zero, suc}
use mathlib.Core.Path.{◌≡◌, refl, sym, ap, ap₂, ◌∙◌}
use mathlib.Core.Bool.{Bool, true, false, not, ◌&&◌, cond}
use mathlib.Core.List.{List, [], ◌∷◌, map, map-id}
use lib.Dec.{eqb, ltb}
use lib.ListN.{length, get_or, set, length-map, get_or-map}
use Rattle.refusal.specs.declared.Refusal.TheVariants.{NoRow, AlreadyEnrolled, NoFreeRow, UnequalColumns, StationNumber, Stale}
use Rattle.meters.specs.declared.Kind.TheVariants.{New, Copy}
use Rattle.std.specs.Prelude.{Ok, Err}
use Rattle.meters.specs.Answers.{Found, Uplinked}
use Rattle.meters.specs.declared.{Row.Row, Heard.Heard}
use Rattle.meters.specs.Stations.{numbers_to, hearers, alone, with_hearer}
use Rattle.meters.specs.Rows.{is_free_row, is_meter, enrolled, withdrawn, heard_as, credit_of, hear_of}
use Rattle.meters.specs.Table.{Left, no_row, left, first, changed, meter_at, free_at, find_in, enrol_in, withdraw_in, uplink_in}
use Rattle.meters.specs.Columns.{Columns, columns, row_at, table_rows, columns_of, same_lengths, even, Done, told_place, told_credit, on_rows, find_on, enrol_on, withdraw_on, uplink_on}
use Rattle.meters.proofs.{Scan.first_same, Held.map_set, Held.columns_are}

-- the same with every short address 0: a row, columns, what a call leaves
abbrev pub bare_row : Row → Row
bare_row r = record { used = r.used; eui = r.eui; short = 0; last = r.last; heard = r.heard }

abbrev pub bare : Columns → Columns
bare c = columns c.used c.euis (map (λ (s : ℕ). 0) c.shorts) c.lasts c.heards

abbrev pub bare_done : {A : Type 0} → Done A → Done A
bare_done d = record { answer = d.answer; refusal = d.refusal; row = d.row; hearers = d.hearers; columns = bare d.columns }

-- ---- on rows
abbrev bare_left : {A : Type 0} → Left A → Left A
bare_left l = left l.answer (map bare_row l.rows)

first_bare : (t : Row → Bool) → ((r : Row) → t (bare_row r) ≡ t r) → (rows : List Row) → first t (map bare_row rows) ≡ first t rows
first_bare t e rows = first_same t bare_row (λ (r : Row). r) e rows ∙ ap (first t) (map-id rows)

bare_hear : (i : ℕ) (r : Row) (n s : ℕ) → hear_of i (bare_row r) n s ≡ record { row = bare_row (hear_of i r n s).row; answer = (hear_of i r n s).answer }
unfolding hear_of
bare_hear i r n s = by (ltb r.last n) (eqb n r.last && not (eqb r.heard 0))
  where
    packet : Bool → Bool → Row → Heard
    packet p q y =
        cond p (record { row = heard_as y n (alone s); answer = Ok (credit_of New (hearers (alone s)) i) })
        (cond q (record { row = heard_as y r.last (with_hearer r.heard s); answer = Ok (credit_of Copy (hearers (with_hearer r.heard s)) i) }) (record { row = y; answer = Err Stale }))

    by : (p q : Bool) → packet p q (bare_row r) ≡ record { row = bare_row (packet p q r).row; answer = (packet p q r).answer }
    by true q = refl
    by false true = refl
    by false false = refl

module _ {A : Type 0} (rows : List Row) (i : ℕ) (r : Row) (answer refusal : A) where
  bare_changed : changed (map bare_row rows) i (bare_row r) answer refusal ≡ bare_left (changed rows i r answer refusal)
  bare_changed = ap (λ (n : ℕ). cond (ltb i n) (left answer (set (map bare_row rows) i (bare_row r))) (left refusal (map bare_row rows))) (length-map rows bare_row) ∙ by (ltb i (length rows))
    where
      by : (b : Bool) → cond b (left answer (set (map bare_row rows) i (bare_row r))) (left refusal (map bare_row rows)) ≡ bare_left (cond b (left answer (set rows i r)) (left refusal rows))
      by true = ap (left answer) (sym (map_set bare_row rows i r))
      by false = refl

module _ (rows : List Row) (x : ℕ) where
  meter_bare : meter_at (map bare_row rows) x ≡ meter_at rows x
  meter_bare = first_bare (is_meter x) (λ r. refl) rows

  row_bare : get_or (map bare_row rows) (meter_at rows x) no_row ≡ bare_row (get_or rows (meter_at rows x) no_row)
  row_bare = get_or-map bare_row rows (meter_at rows x) no_row

  bare_find : find_in (map bare_row rows) x ≡ bare_left (find_in rows x)
  unfolding find_in
  bare_find = simp (meter_bare, length-map rows bare_row)

  bare_withdraw : withdraw_in (map bare_row rows) x ≡ bare_left (withdraw_in rows x)
  unfolding withdraw_in
  bare_withdraw =
      ap (λ (i : ℕ). changed (map bare_row rows) i (withdrawn (get_or (map bare_row rows) i no_row)) (Ok i) (Err NoRow)) meter_bare
      ∙ ap (λ (r : Row). changed (map bare_row rows) (meter_at rows x) (withdrawn r) (Ok (meter_at rows x)) (Err NoRow)) row_bare
      ∙ bare_changed rows (meter_at rows x) (withdrawn (get_or rows (meter_at rows x) no_row)) (Ok (meter_at rows x)) (Err NoRow)

  bare_enrol : (a n : ℕ) → enrol_in (map bare_row rows) x 0 n ≡ bare_left (enrol_in rows x a n)
  unfolding enrol_in
  bare_enrol a n =
      ap₂ (call (map bare_row rows) 0 (length (map bare_row rows))) meter_bare (first_bare is_free_row (λ r. refl) rows)
      ∙ ap (λ (k : ℕ). call (map bare_row rows) 0 k (meter_at rows x) (free_at rows)) (length-map rows bare_row)
      ∙ by (ltb (meter_at rows x) (length rows))
    where
      call : List Row → ℕ → ℕ → ℕ → ℕ → Left Found
      call l short k m free = cond (ltb m k) (left (Err AlreadyEnrolled) l) (changed l free (enrolled x short n) (Ok free) (Err NoFreeRow))

      by : (b : Bool) → cond b (left (Err AlreadyEnrolled) (map bare_row rows)) (changed (map bare_row rows) (free_at rows) (enrolled x 0 n) (Ok (free_at rows)) (Err NoFreeRow))
          ≡ bare_left (cond b (left (Err AlreadyEnrolled) rows) (changed rows (free_at rows) (enrolled x a n) (Ok (free_at rows)) (Err NoFreeRow)))
      by true = refl
      by false = bare_changed rows (free_at rows) (enrolled x a n) (Ok (free_at rows)) (Err NoFreeRow)

  bare_uplink : (n s : ℕ) → uplink_in (map bare_row rows) x n s ≡ bare_left (uplink_in rows x n s)
  unfolding uplink_in
  bare_uplink n s =
      ap (λ (i : ℕ). call (map bare_row rows) i (get_or (map bare_row rows) i no_row)) meter_bare
      ∙ ap (call (map bare_row rows) (meter_at rows x)) row_bare
      ∙ by (ltb 63 s)
    where
      call : List Row → ℕ → Row → Left Uplinked
      call l i r = cond (ltb 63 s) (left (Err StationNumber) l) (changed l i (hear_of i r n s).row (hear_of i r n s).answer (Err NoRow))

      i : ℕ
      i = meter_at rows x

      r : Row
      r = get_or rows i no_row

      by : (b : Bool) → cond b (left (Err StationNumber) (map bare_row rows)) (changed (map bare_row rows) i (hear_of i (bare_row r) n s).row (hear_of i (bare_row r) n s).answer (Err NoRow))
          ≡ bare_left (cond b (left (Err StationNumber) rows) (changed rows i (hear_of i r n s).row (hear_of i r n s).answer (Err NoRow)))
      by true = refl
      by false = ap (λ (h : Heard). changed (map bare_row rows) i h.row h.answer (Err NoRow)) (bare_hear i r n s) ∙ bare_changed rows i (hear_of i r n s).row (hear_of i r n s).answer (Err NoRow)

-- ---- on columns
zeros : (l : List ℕ) (i : ℕ) → ◌≡◌ {A = ℕ} (get_or (map (λ (s : ℕ). 0) l) i 0) 0
zeros [] i = refl
zeros (x ∷ l) zero = refl
zeros (x ∷ l) (suc i) = zeros l i

each : {A B C : Type 0} (f : A → C) (g : B → C) (h : A → B) → ((a : A) → f a ≡ g (h a)) → (l : List A) → map f l ≡ map g (map h l)
each f g h e [] = refl
each f g h e (a ∷ l) = ap₂ ◌∷◌ (e a) (each f g h e l)

module _ (c : Columns) where
  rows_bare : table_rows (bare c) ≡ map bare_row (table_rows c)
  unfolding table_rows
  rows_bare = each (row_at (bare c)) bare_row (row_at c) row (numbers_to (length c.used))
    where
      row : (i : ℕ) → row_at (bare c) i ≡ bare_row (row_at c i)
      row i = ap (λ (s : ℕ). record { used = get_or c.used i 0; eui = get_or c.euis i 0; short = s; last = get_or c.lasts i 0; heard = get_or c.heards i 0 }) (zeros c.shorts i)

  even_bare : even (bare c) ≡ even c
  even_bare = ap (λ (n : ℕ). same_lengths (length c.used) (length c.euis) n (length c.lasts) (length c.heards)) (length-map c.shorts (λ (s : ℕ). 0))

columns_bare : (rows : List Row) → columns_of (map bare_row rows) ≡ bare (columns_of rows)
unfolding columns_of
columns_bare rows =
    columns_are
    (sym (each (λ (r : Row). r.used) (λ (r : Row). r.used) bare_row (λ r. refl) rows))
    (sym (each (λ (r : Row). r.eui) (λ (r : Row). r.eui) bare_row (λ r. refl) rows))
    (sym (each (λ (r : Row). 0) (λ (r : Row). r.short) bare_row (λ r. refl) rows) ∙ each (λ (r : Row). 0) (λ (s : ℕ). 0) (λ (r : Row). r.short) (λ r. refl) rows)
    (sym (each (λ (r : Row). r.last) (λ (r : Row). r.last) bare_row (λ r. refl) rows))
    (sym (each (λ (r : Row). r.heard) (λ (r : Row). r.heard) bare_row (λ r. refl) rows))

module _ {A : Type 0} (told : A → Columns → Done A) (unequal : A) (c : Columns) (told-bare : (a : A) (d : Columns) → told a (bare d) ≡ bare_done (told a d)) where
  bare_call : (call call' : List Row → Left A) → ((rows : List Row) → call' (map bare_row rows) ≡ bare_left (call rows)) → on_rows told unequal call' (bare c) ≡ bare_done (on_rows told unequal call c)
  bare_call call call' e =
      ap (λ (b : Bool). cond b (told (call' (table_rows (bare c))).answer (columns_of (call' (table_rows (bare c))).rows)) (told unequal (bare c))) (even_bare c)
      ∙ by (even c)
    where
      rows_of : call' (table_rows (bare c)) ≡ bare_left (call (table_rows c))
      rows_of = ap call' (rows_bare c) ∙ e (table_rows c)

      by : (b : Bool) → cond b (told (call' (table_rows (bare c))).answer (columns_of (call' (table_rows (bare c))).rows)) (told unequal (bare c))
          ≡ bare_done (cond b (told (call (table_rows c)).answer (columns_of (call (table_rows c)).rows)) (told unequal c))
      by true =
          ap (λ (l : Left A). told l.answer (columns_of l.rows)) rows_of
          ∙ ap (told (call (table_rows c)).answer) (columns_bare (call (table_rows c)).rows)
          ∙ told-bare (call (table_rows c)).answer (columns_of (call (table_rows c)).rows)
      by false = told-bare unequal c

module _ (c : Columns) (x : ℕ) where
  find_bare : find_on (bare c) x ≡ bare_done (find_on c x)
  unfolding find_on
  find_bare = bare_call told_place (Err UnequalColumns) c (λ a d. refl) (λ (rows : List Row). find_in rows x) (λ (rows : List Row). find_in rows x) (λ rows. bare_find rows x)

  withdraw_bare : withdraw_on (bare c) x ≡ bare_done (withdraw_on c x)
  unfolding withdraw_on
  withdraw_bare = bare_call told_place (Err UnequalColumns) c (λ a d. refl) (λ (rows : List Row). withdraw_in rows x) (λ (rows : List Row). withdraw_in rows x) (λ rows. bare_withdraw rows x)

  enrol_bare : (a n : ℕ) → enrol_on (bare c) x 0 n ≡ bare_done (enrol_on c x a n)
  unfolding enrol_on
  enrol_bare a n = bare_call told_place (Err UnequalColumns) c (λ a d. refl) (λ (rows : List Row). enrol_in rows x a n) (λ (rows : List Row). enrol_in rows x 0 n) (λ rows. bare_enrol rows x a n)

  uplink_bare : (n s : ℕ) → uplink_on (bare c) x n s ≡ bare_done (uplink_on c x n s)
  unfolding uplink_on
  uplink_bare n s = bare_call told_credit (Err UnequalColumns) c (λ a d. refl) (λ (rows : List Row). uplink_in rows x n s) (λ (rows : List Row). uplink_in rows x n s) (λ rows. bare_uplink rows x n s)

-- ---- the theorems: c and d differ in short addresses alone
module _ (c d : Columns) (alike : bare c ≡ bare d) (x : ℕ) where
  pub find_alike : bare_done (find_on c x) ≡ bare_done (find_on d x)
  find_alike = sym (find_bare c x) ∙ ap (λ (e : Columns). find_on e x) alike ∙ find_bare d x

  pub withdraw_alike : bare_done (withdraw_on c x) ≡ bare_done (withdraw_on d x)
  withdraw_alike = sym (withdraw_bare c x) ∙ ap (λ (e : Columns). withdraw_on e x) alike ∙ withdraw_bare d x

  pub enrol_alike : (a a' n : ℕ) → bare_done (enrol_on c x a n) ≡ bare_done (enrol_on d x a' n)
  enrol_alike a a' n = sym (enrol_bare c x a n) ∙ ap (λ (e : Columns). enrol_on e x 0 n) alike ∙ enrol_bare d x a' n

  pub uplink_alike : (n s : ℕ) → bare_done (uplink_on c x n s) ≡ bare_done (uplink_on d x n s)
  uplink_alike n s = sym (uplink_bare c x n s) ∙ ap (λ (e : Columns). uplink_on e x n s) alike ∙ uplink_bare d x n s
