-- Columns hold rows: as many rows as a column has entries, row i is entry i of each, and the columns of the rows are the columns again. A row that changes
-- changes one entry of each column. Entry by entry. Assumes nothing.
use Prim.Native.Nat.{ℕ, zero, suc, ◌+◌, ◌≤◌, ◌<◌}
use mathlib.Core.Path.{◌≡◌, refl, sym, ap, ap₂, ◌∙◌}
use mathlib.Core.Bool.{Bool, true, false, not, cond}
use Rattle.std.specs.Prelude.{Option, Some, None, zip}
use Rattle.std.specs.List.{position_or_len}
use Rattle.std.proofs.lemmas.Slice.Zip.{length-zip, get_or-zip}
use mathlib.Core.List.{List, [], ◌∷◌, ◌++◌, map}
use native.Mathlib.Numerals.{add-one}
use native.Mathlib.Nat.{zero-lt-suc, le_of_suc-le-suc}
use native.Mathlib.Omega.{arith}
use lib.{Dec.eqb, Dec.ltb, Seq.ext_get_or, Seq.get_or_at}
use lib.ListN.{length, get_or, set, length-append, length-map, get_or-append}
use borrow.Author.Tests.{eq-eqb, eqb-true, ltb-true, ltb-false}
use Rattle.meters.specs.declared.Row.{Row}
use Rattle.meters.specs.{Stations.numbers_to, Rows.is_free_row, Rows.is_mark, Rows.is_meter}
use Rattle.meters.specs.Table.{no_row, first, meter_at, free_at}
use Rattle.meters.specs.Columns.{Columns, columns, row_at, table_rows, columns_of, same_lengths, even}
use Rattle.meters.specs.Code.Store.{meter_place, free_row, put_row, Even}
use Rattle.meters.proofs.Truth.{both}

length_below : (n : ℕ) → length (numbers_to n) ≡ n
unfolding numbers_to
length_below zero = refl
length_below (suc n) = length-append (numbers_to n) (n ∷ []) ∙ ap (λ (k : ℕ). k + 1) (length_below n) ∙ add-one n

get_d_below : (n i : ℕ) → i < n → get_or (numbers_to n) i 0 ≡ i
unfolding numbers_to
get_d_below zero i h = absurd (omega arith)
get_d_below (suc n) i h = by (ltb i n) refl (get_d_below n i)
  where
    by : (b : Bool) → ltb i n ≡ b → (i < n → get_or (numbers_to n) i 0 ≡ i) → get_or (numbers_to n ++ (n ∷ [])) i 0 ≡ i
    by true e rest =
        let l : i < length (numbers_to n) = rw (length_below n) (ltb-true i n e) in
        get_or-append (numbers_to n) (n ∷ []) 0 i l ∙ rest (ltb-true i n e)
    by false e rest =
        let g : n ≤ i = ltb-false i n e in
        let s : n ≡ i = omega arith in
        get_or_at (numbers_to n) n [] 0 i (length_below n ∙ s) ∙ s

get_d_map : {A B : Type 0} (f : A → B) (l : List A) (i : ℕ) (d : A) (e : B) → i < length l → get_or (map f l) i e ≡ f (get_or l i d)
get_d_map f [] i d e h = absurd (omega arith)
get_d_map f (x ∷ l) zero d e h = refl
get_d_map f (x ∷ l) (suc i) d e h = get_d_map f l i d e (le_of_suc-le-suc h)

pub map_set : {A B : Type 0} (f : A → B) (l : List A) (i : ℕ) (a : A) → map f (set l i a) ≡ set (map f l) i (f a)
map_set f [] i a = refl
map_set f (x ∷ l) zero a = refl
map_set f (x ∷ l) (suc i) a = ap (λ t. f x ∷ t) (map_set f l i a)

-- a field of every row, where it is an entry of a column of n entries
column : (g : Row → ℕ) (f : ℕ → Row) (l : List ℕ) (n : ℕ) → length l ≡ n → ((i : ℕ) → g (f i) ≡ get_or l i 0) → map g (map f (numbers_to n)) ≡ l
column g f l n e s =
    let long : length (map g (map f (numbers_to n))) ≡ n = length-map (map f (numbers_to n)) g ∙ length-map (numbers_to n) f ∙ length_below n in
    ext_get_or 0 (map g (map f (numbers_to n))) l (long ∙ sym e) (λ i h.
    let h₀ : i < n = rw long at h in
    let h₁ : i < length (numbers_to n) = rw (length_below n) h₀ in
    let h₂ : i < length (map f (numbers_to n)) = rw (length-map (numbers_to n) f) h₁ in
    get_d_map g (map f (numbers_to n)) i no_row 0 h₂ ∙ ap g (get_d_map f (numbers_to n) i 0 no_row h₁ ∙ ap f (get_d_below n i h₀)) ∙ s i)

pub columns_are : {u u' e e' s s' l l' h h' : List ℕ} → u ≡ u' → e ≡ e' → s ≡ s' → l ≡ l' → h ≡ h' → columns u e s l h ≡ columns u' e' s' l' h'
columns_are p q r x y j = columns (p j) (q j) (r j) (x j) (y j)

-- the test of the lengths, and what it says
pub even_true : (c : Columns) → Even c → even c ≡ true
unfolding same_lengths
even_true c t = simp (eq-eqb _ _ t.euis, eq-eqb _ _ t.shorts, eq-eqb _ _ t.lasts, eq-eqb _ _ t.heards)

pub true_even : (c : Columns) → even c ≡ true → Even c
unfolding same_lengths
true_even c t =
    let n = length c.used in
    let a = both _ (eqb (length c.heards) n) t in
    let b = both _ (eqb (length c.lasts) n) a.0 in
    let d = both _ (eqb (length c.shorts) n) b.0 in
    record { euis = eqb-true _ _ d.0; shorts = eqb-true _ _ d.1; lasts = eqb-true _ _ b.1; heards = eqb-true _ _ a.1 }

module _ (c : Columns) where
  pub length_rows : length (table_rows c) ≡ length c.used
  unfolding table_rows
  length_rows = length-map (numbers_to (length c.used)) (row_at c) ∙ length_below (length c.used)

  pub row_at_lem : (i : ℕ) → i < length c.used → get_or (table_rows c) i no_row ≡ row_at c i
  unfolding table_rows
  row_at_lem i h =
      let l : i < length (numbers_to (length c.used)) = rw (length_below (length c.used)) h in
      get_d_map (row_at c) (numbers_to (length c.used)) i 0 no_row l ∙ ap (row_at c) (get_d_below (length c.used) i h)

  module _ (t : Even c) where
    pub columns_back : columns_of (table_rows c) ≡ c
    unfolding columns_of table_rows
    columns_back =
        columns_are
        (column (λ (r : Row). r.used) (row_at c) c.used (length c.used) refl (λ i. refl))
        (column (λ (r : Row). r.eui) (row_at c) c.euis (length c.used) t.euis (λ i. refl))
        (column (λ (r : Row). r.short) (row_at c) c.shorts (length c.used) t.shorts (λ i. refl))
        (column (λ (r : Row). r.last) (row_at c) c.lasts (length c.used) t.lasts (λ i. refl))
        (column (λ (r : Row). r.heard) (row_at c) c.heards (length c.used) t.heards (λ i. refl))

    -- a row that changes, column by column
    pub columns_set : (i : ℕ) (r : Row) → columns_of (set (table_rows c) i r) ≡ put_row c i r
    unfolding columns_of
    columns_set i r =
        columns_are
        (map_set (λ (x : Row). x.used) (table_rows c) i r ∙ ap (λ (d : Columns). set d.used i r.used) columns_back)
        (map_set (λ (x : Row). x.eui) (table_rows c) i r ∙ ap (λ (d : Columns). set d.euis i r.eui) columns_back)
        (map_set (λ (x : Row). x.short) (table_rows c) i r ∙ ap (λ (d : Columns). set d.shorts i r.short) columns_back)
        (map_set (λ (x : Row). x.last) (table_rows c) i r ∙ ap (λ (d : Columns). set d.lasts i r.last) columns_back)
        (map_set (λ (x : Row). x.heard) (table_rows c) i r ∙ ap (λ (d : Columns). set d.heards i r.heard) columns_back)

-- ---- the library's searches find the row
-- a list whose entries pass a test where the rows do
first_position : {A : Type 0} (t : Row → Bool) (p : A → Bool) (d : A) (rows : List Row) (l : List A) → length l ≡ length rows
    → ((i : ℕ) → i < length rows → t (get_or rows i no_row) ≡ p (get_or l i d)) → first t rows ≡ position_or_len p l
unfolding first
first_position t p d [] [] n e = refl
first_position t p d [] (a ∷ l) n e = absurd (omega (arith, n))
first_position t p d (r ∷ rows) [] n e = absurd (omega (arith, n))
first_position t p d (r ∷ rows) (a ∷ l) n e =
    ap (λ (b : Bool). cond b 0 (suc (first t rows))) (e 0 (zero-lt-suc (length rows)))
    ∙ by (p a) (first_position t p d rows l (omega (arith, n)) (λ i h. e (suc i) (omega arith)))
  where
    by : (b : Bool) → first t rows ≡ position_or_len p l → cond b 0 (suc (first t rows)) ≡ cond (not b) (1 + position_or_len p l) 0
    by true f = refl
    by false f = omega (arith, f)

-- what a search answers of a place i in a table of n rows
abbrev pub place_in : ℕ → ℕ → Option ℕ
place_in n i = cond (ltb i n) (Some i) None

module _ (n i : ℕ) where
  pub none_in : None ≡ place_in n i → n ≤ i
  none_in e = by (ltb i n) refl e
    where
      by : (b : Bool) → ltb i n ≡ b → ◌≡◌ {A = Option ℕ} None (cond b (Some i) None) → n ≤ i
      by true p q = let z : ◌≡◌ {A = ℕ} 0 1 = cc in absurd (omega arith)
      by false p q = ltb-false i n p

  pub some_in : (k : ℕ) → Some k ≡ place_in n i → (k ≡ i) × (k < n)
  some_in k e = by (ltb i n) refl e
    where
      by : (b : Bool) → ltb i n ≡ b → ◌≡◌ {A = Option ℕ} (Some k) (cond b (Some i) None) → (k ≡ i) × (k < n)
      by true p q = let s : k ≡ i = cc in (s, rw s (ltb-true i n p))
      by false p q = let z : ◌≡◌ {A = ℕ} 0 1 = cc in absurd (omega arith)

module _ (c : Columns) where
  pub meter_of : (x : ℕ) → length c.euis ≡ length c.used → meter_place c x ≡ place_in (length c.used) (meter_at (table_rows c) x)
  unfolding meter_place
  meter_of x g =
      ap₂ (λ (k n : ℕ). place_in n k) (sym places) long
    where
      long : length (zip c.used c.euis) ≡ length c.used
      long = length-zip c.used c.euis ∙ omega (arith, g)

      places : meter_at (table_rows c) x ≡ position_or_len (λ p. is_mark p.0 p.1 x) (zip c.used c.euis)
      places =
          first_position (is_meter x) (λ (p : ℕ × ℕ). is_mark p.0 p.1 x) (0, 0) (table_rows c) (zip c.used c.euis) (long ∙ sym (length_rows c)) (λ i h.
          let u : i < length c.used = rw (length_rows c) at h in
          let e : i < length c.euis = rw g u in
          ap (is_meter x) (row_at_lem c i u) ∙ sym (ap (λ (p : ℕ × ℕ). is_mark p.0 p.1 x) (get_or-zip c.used c.euis i (0, 0) u e)))

  pub free_of : free_row c ≡ place_in (length c.used) (free_at (table_rows c))
  unfolding free_row
  free_of =
      ap (place_in (length c.used))
      (sym (first_position is_free_row (λ (u : ℕ). eqb u 0) 0 (table_rows c) c.used (sym (length_rows c)) (λ i h.
      let u : i < length c.used = rw (length_rows c) at h in
      ap is_free_row (row_at_lem c i u))))
