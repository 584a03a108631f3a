-- A downlink's field by its place: counters and data entries that a cell has are those that stand behind the head of its array, as many as it
-- tells, and no more than there may be; a cell that tells none has none. Each law in the shape of a need of the code. Assumes nothing.
use mathlib.Core.Path.{◌≡◌, refl, sym, ap, ◌∙◌}
use mathlib.Core.Bool.{Bool, true, false, ◌&&◌}
use mathlib.Core.{List.List, List.[], List.◌∷◌, Option.Option, Option.some, Option.none}
use Prim.Native.Nat.{ℕ, zero, suc, ◌≤◌, ◌<◌}
use native.Mathlib.Omega.{arith}
use lib.Dec.{leb}
use lib.ListN.{length, replicate}
use borrow.Author.Tests.{leb-true}
use Rattle.octets.specs.{Choice.either, Bytes.put_at, Pieces.counter_bytes, Pieces.lengths_of, Pieces.strung, Pieces.downlink_bytes}
use Rattle.octets.proofs.{Pieces.downlink_put, Writing.put_none, Writing.length_put}
use Rattle.element.specs.Meaning.{Element, Elements}
use Rattle.std.specs.Prelude.{Option as Answer, Some, None}
use Rattle.std.specs.Prelude.{Result, Ok, Err}
use Rattle.field.specs.declared.{Extent.Extent, Flaw.Flaw}
use Rattle.field.specs.{Kind.Kind, Kind.Value, Cell.judged, Cell.value_in, Cell.word_of, Cell.views_of}
use Rattle.field.specs.Judge.{on_some, parts_of, naturals_in, pieces_in, counts_sized, strings_sized, judge}
use Rattle.field.specs.{Code.Told.told_of, Code.At.shallow_at, Code.At.nested_at, Code.At.seen_at, Code.At.cell_at, Code.Extent.parts_in, Code.Extent.Lists}
use Rattle.field.specs.Code.{Item.is_some, Item.naturals_from, Item.pieces_from, Lent.list_in, Lent.counters_at, Lent.entries_at, Lent.AreCounters, Lent.AreEntries, Lent.entries_put}
use Rattle.field.proofs.{Cells.told_word, Cells.told_nothing, Arrays.length_naturals, Arrays.by_parts, Naturals.naturals_zero, Entries.length_pieces, Entries.judged_by}

-- what a cell of no value holds
no_counts : (v : Value) → word_of v ≤ 0 → (views_of v).counts ≡ []
no_counts Value.nothing h = refl
no_counts (Value.number z) h = refl
no_counts (Value.figure x) h = refl
no_counts (Value.mark b) h = refl
no_counts (Value.position x y z) h = refl
no_counts (Value.string d) h = refl
no_counts (Value.counts []) h = refl
no_counts (Value.counts (n ∷ ns)) h = absurd (omega arith)
no_counts (Value.strings ds) h = refl
no_counts (Value.release a b c) h = refl

no_strings : (v : Value) → word_of v ≤ 0 → (views_of v).strings ≡ []
no_strings Value.nothing h = refl
no_strings (Value.number z) h = refl
no_strings (Value.figure x) h = refl
no_strings (Value.mark b) h = refl
no_strings (Value.position x y z) h = refl
no_strings (Value.string d) h = refl
no_strings (Value.counts ns) h = refl
no_strings (Value.strings []) h = refl
no_strings (Value.strings (d ∷ ds)) h = absurd (omega arith)
no_strings (Value.release a b c) h = refl

-- a cell that tells something is looked at
there : (k : Kind) (s : List ℕ) (p : ℕ) → 0 < word_of (value_in (cell_at k s p)) → cell_at k s p ≡ judged (judge k (seen_at k s p))
unfolding cell_at
there k s zero h = absurd (omega arith)
there k s (suc zero) h = absurd (omega arith)
there k s (suc (suc p)) h = refl

-- what holds of the value of every element, and of no value, holds of a cell's
by_value : (k : Kind) (s : List ℕ) (p : ℕ) (P : Value → Type 0) → P Value.nothing → ((e : Element) → P (value_in (judged (judge k e)))) → P (value_in (cell_at k s p))
unfolding cell_at
by_value k s zero P n y = n
by_value k s (suc zero) P n y = n
by_value k s (suc (suc p)) P n y = y (seen_at k s (suc (suc p)))

-- no more than there may be
abbrev counters : Value → List ℕ
counters v = (views_of v).counts

abbrev entries : Value → List (List ℕ)
entries v = (views_of v).strings

few_counters : (many : ℕ) (s : List ℕ) (p : ℕ) → length (counters (value_in (cell_at (Kind.counters many) s p))) ≤ many
unfolding judge
few_counters many s p = by_value (Kind.counters many) s p (λ v. length (counters v) ≤ many) (omega arith) (λ e. parts (parts_of e))
  where
    sized : (ns : List ℕ) (b : Bool) → leb (length ns) many ≡ b → length (counters (value_in (judged (either b (λ _. some (Value.counts ns)) (λ _. none))))) ≤ many
    sized ns true h = leb-true (length ns) many h
    sized ns false h = omega arith

    numbers : (o : Option (List ℕ)) → length (counters (value_in (judged (on_some o (counts_sized many))))) ≤ many
    numbers none = omega arith
    numbers (some ns) = sized ns (leb (length ns) many) refl

    parts : (o : Option Elements) → length (counters (value_in (judged (on_some o (λ es. on_some (naturals_in 0xFFFFFFFF es) (counts_sized many)))))) ≤ many
    parts none = omega arith
    parts (some es) = numbers (naturals_in 0xFFFFFFFF es)

pub record Few (many all : ℕ) (ds : List (List ℕ)) : Type 0 where
  pub few : length ds ≤ many
  pub small : length (strung ds) ≤ all

module _ (many all : ℕ) where
  none_few : Few many all []
  unfolding strung
  none_few = record { few = omega arith; small = omega arith }

  sized_few : (ds : List (List ℕ)) (a b : Bool) → leb (length ds) many ≡ a → leb (length (strung ds)) all ≡ b → Few many all (entries (value_in (judged (either (a && b) (λ _. some (Value.strings ds)) (λ _. none)))))
  sized_few ds true true f g = record { few = leb-true (length ds) many f; small = leb-true (length (strung ds)) all g }
  sized_few ds true false f g = none_few
  sized_few ds false b f g = none_few

  few_entries : (most : ℕ) (s : List ℕ) (p : ℕ) → Few many all (entries (value_in (cell_at (Kind.pieces many most all) s p)))
  unfolding judge
  few_entries most s p = by_value (Kind.pieces many most all) s p (λ v. Few many all (entries v)) none_few (λ e. parts (parts_of e))
    where
      arrays : (o : Option (List (List ℕ))) → Few many all (entries (value_in (judged (on_some o (strings_sized many all)))))
      arrays none = none_few
      arrays (some ds) = sized_few ds (leb (length ds) many) (leb (length (strung ds)) all) refl refl

      parts : (o : Option Elements) → Few many all (entries (value_in (judged (on_some o (λ es. on_some (pieces_in most es) (strings_sized many all))))))
      parts none = none_few
      parts (some es) = arrays (pieces_in most es)

-- counters that a cell tells stand behind the head of its array
module _ (s : List ℕ) (p : ℕ) (g : Answer Extent) (y : Lists s p g) (n : ℕ) (e : n ≡ word_of (value_in (cell_at (Kind.counters 16) s p))) (h : 0 < n) where
  abbrev counters_cell : Value
  counters_cell = value_in (cell_at (Kind.counters 16) s p)

  counters_told : (o : Option Value) → judge (Kind.counters 16) (shallow_at s p) ≡ o → counters_cell ≡ value_in (judged o)
  counters_told o q = ap value_in (there (Kind.counters 16) s p (omega arith) ∙ ap judged q)

  no_counters : {A : Type 0} → judge (Kind.counters 16) (shallow_at s p) ≡ none → A
  no_counters q = let z : word_of counters_cell ≡ 0 = ap word_of (counters_told none q) in absurd (omega arith)

  counters_sized : (a : Extent) (ns : List ℕ) → counters_at s a.size a.from ≡ some ns → (b : Bool) → judge (Kind.counters 16) (shallow_at s p) ≡ either b (λ _. some (Value.counts ns)) (λ _. none)
      → counters_at s n a.from ≡ some (counters counters_cell)
  counters_sized a ns f true q =
      let v : counters_cell ≡ Value.counts ns = counters_told (some (Value.counts ns)) q in
      let m : n ≡ a.size = e ∙ ap word_of v ∙ length_naturals 0xFFFFFFFF s a.size a.from ns f in
      ap (λ (k : ℕ). counters_at s k a.from) m ∙ f ∙ ap some (sym (ap counters v))
  counters_sized a ns f false q = no_counters q

  counters_are : (a : Extent) (o : Option (List ℕ)) → counters_at s a.size a.from ≡ o → judge (Kind.counters 16) (shallow_at s p) ≡ on_some o (counts_sized 16)
      → counters_at s n a.from ≡ some (counters counters_cell)
  counters_are a none f q = no_counters q
  counters_are a (some ns) f q = counters_sized a ns f (leb (length ns) 16) q

  counters_by : (t : Answer Extent) → g ≡ t → judge (Kind.counters 16) (shallow_at s p) ≡ on_some (parts_in s t) (λ es. on_some (naturals_in 0xFFFFFFFF es) (counts_sized 16))
  unfolding judge
  counters_by t u = sym (by_parts s p g y t u (λ es. on_some (naturals_in 0xFFFFFFFF es) (counts_sized 16)))

  -- so there is one
  pub counters_never : {A : Type 0} → g ≡ None → A
  counters_never u = no_counters (counters_by None u)

  counters_found : (a : Extent) → g ≡ Some a → counters_at s n a.from ≡ some (counters counters_cell)
  unfolding naturals_from
  counters_found a u = counters_are a (counters_at s a.size a.from) refl (counters_by (Some a) u)

  pub counters_there : (a : Extent) → g ≡ Some a → AreCounters s n a.from
  counters_there a u = record {
    there = ap is_some (counters_found a u);
    few = omega (arith, few_counters 16 s p, length_naturals 0xFFFFFFFF s n a.from (counters counters_cell) (counters_found a u));
  }

  pub counters_put : (a : Extent) → g ≡ Some a → (room out : List ℕ) → out ≡ put_at room 0 (counter_bytes (list_in (counters_at s n a.from))) → out ≡ put_at room 0 (counter_bytes (views_of (value_in (cell_at (Kind.counters 16) s p))).counts)
  counters_put a u room out f = f ∙ ap (λ (o : Option (List ℕ)). put_at room 0 (counter_bytes (list_in o))) (counters_found a u)

by_size : {A : Type 0} (n : ℕ) → (n ≤ 0 → A) → (0 < n → A) → A
by_size zero f g = f (omega arith)
by_size (suc n) f g = g (omega arith)

-- as its call tells them
module _ (s : List ℕ) (p : ℕ) (c : Result ℕ Flaw) (e : c ≡ told_of word_of (cell_at (Kind.counters 16) s p)) where
  abbrev cell : Value
  cell = value_in (cell_at (Kind.counters 16) s p)

  abbrev CountersPut : List ℕ → List ℕ → Type 0
  CountersPut room out = out ≡ put_at room 0 (counter_bytes (views_of (value_in (cell_at (Kind.counters 16) s p))).counts)

  none_put : (room : List ℕ) → word_of cell ≤ 0 → CountersPut room room
  unfolding counter_bytes
  none_put room h =
      sym (ap (λ (ns : List ℕ). put_at room 0 (counter_bytes ns)) (no_counts cell h) ∙ put_none room 0)

  pub told_none : (f : Flaw) → c ≡ Err f → (room : List ℕ) → room ≡ put_at room 0 (counter_bytes (views_of (value_in (cell_at (Kind.counters 16) s p))).counts)
  told_none f y room = let z : word_of cell ≡ 0 = ap word_of (told_nothing c (cell_at (Kind.counters 16) s p) e f y) in none_put room (omega arith)

  module _ (n : ℕ) (k : c ≡ Ok n) (g : Answer Extent) (y : Lists s p g) where
    is_word : n ≡ word_of cell
    is_word = told_word c (cell_at (Kind.counters 16) s p) e n k

    pub told_never : g ≡ None → (room : List ℕ) → room ≡ put_at room 0 (counter_bytes (views_of (value_in (cell_at (Kind.counters 16) s p))).counts)
    told_never u room = by_size n (λ h. none_put room (omega (arith, is_word))) (λ h. counters_never s p g y n is_word h u)

    module _ (a : Extent) (u : g ≡ Some a) where
      pub told_there : AreCounters s n a.from
      told_there =
          by_size n (λ h. record { there = ap is_some (naturals_zero 0xFFFFFFFF s n a.from h); few = omega arith })
          (λ h. counters_there s p g y n is_word h a u)

      pub told_put : (room out : List ℕ) → out ≡ put_at room 0 (counter_bytes (list_in (counters_at s n a.from))) → out ≡ put_at room 0 (counter_bytes (views_of (value_in (cell_at (Kind.counters 16) s p))).counts)
      told_put room out f =
          by_size n
          (λ h.
          f ∙ ap (λ (o : Option (List ℕ)). put_at room 0 (counter_bytes (list_in o))) (naturals_zero 0xFFFFFFFF s n a.from h)
          ∙ ap (λ (ns : List ℕ). put_at room 0 (counter_bytes ns)) (sym (no_counts cell (omega (arith, is_word)))))
          (λ h. counters_put s p g y n is_word h a u room out f)

pub ruleset counters_told_in = (told_there, told_put, told_none, told_never, arith)

-- so do data entries
module _ (s : List ℕ) (p n : ℕ) (e : n ≡ word_of (value_in (cell_at (Kind.pieces 16 245 800) s p))) where
  abbrev entries_cell : Value
  entries_cell = value_in (cell_at (Kind.pieces 16 245 800) s p)

  pub entries_none : (room : List ℕ) → n ≤ 0 → room ≡ entries_put room 0 80 (views_of (value_in (cell_at (Kind.pieces 16 245 800) s p))).strings
  unfolding lengths_of strung
  entries_none room h =
      sym (ap (entries_put room 0 80) (no_strings entries_cell (omega arith)) ∙ put_none (put_at room 64 []) 80 ∙ put_none room 64)

  module _ (g : Answer Extent) (y : Lists s p g) (h : 0 < n) where
    entries_told : (o : Option Value) → judge (Kind.pieces 16 245 800) (nested_at s p) ≡ o → entries_cell ≡ value_in (judged o)
    entries_told o q = ap value_in (there (Kind.pieces 16 245 800) s p (omega arith) ∙ ap judged q)

    no_entries : {A : Type 0} → judge (Kind.pieces 16 245 800) (nested_at s p) ≡ none → A
    no_entries q = let z : word_of entries_cell ≡ 0 = ap word_of (entries_told none q) in absurd (omega arith)

    entries_sized : (a : Extent) (ds : List (List ℕ)) → entries_at s a.size a.from ≡ some ds → (b : Bool) → judge (Kind.pieces 16 245 800) (nested_at s p) ≡ either b (λ _. some (Value.strings ds)) (λ _. none)
        → entries_at s n a.from ≡ some (entries entries_cell)
    entries_sized a ds f true q =
        let v : entries_cell ≡ Value.strings ds = entries_told (some (Value.strings ds)) q in
        let m : n ≡ a.size = e ∙ ap word_of v ∙ length_pieces 245 s a.size a.from ds f in
        ap (λ (k : ℕ). entries_at s k a.from) m ∙ f ∙ ap some (sym (ap entries v))
    entries_sized a ds f false q = no_entries q

    entries_are : (a : Extent) (o : Option (List (List ℕ))) → entries_at s a.size a.from ≡ o → judge (Kind.pieces 16 245 800) (nested_at s p) ≡ on_some o (strings_sized 16 800)
        → entries_at s n a.from ≡ some (entries entries_cell)
    entries_are a none f q = no_entries q
    entries_are a (some ds) f q = entries_sized a ds f (leb (length ds) 16 && leb (length (strung ds)) 800) q

    -- so there is one
    pub entries_never : g ≡ None → (room : List ℕ) → room ≡ entries_put room 0 80 (views_of (value_in (cell_at (Kind.pieces 16 245 800) s p))).strings
    entries_never u room = no_entries (sym (judged_by s p g y 16 245 800 None u))

    entries_found : (a : Extent) → g ≡ Some a → entries_at s n a.from ≡ some (entries entries_cell)
    unfolding pieces_from
    entries_found a u = entries_are a (entries_at s a.size a.from) refl (sym (judged_by s p g y 16 245 800 (Some a) u))

    pub entries_there : (a : Extent) → g ≡ Some a → AreEntries s n a.from
    entries_there a u =
        let f = few_entries 16 800 245 s p in
        record {
          there = ap is_some (entries_found a u);
          few = omega (arith, f.few, length_pieces 245 s n a.from (entries entries_cell) (entries_found a u));
          small = rw (entries_found a u) f.small;
        }

    pub entries_put_lem : (a : Extent) → g ≡ Some a → (room out : List ℕ) → out ≡ entries_put room 0 80 (list_in (entries_at s n a.from)) → out ≡ entries_put room 0 80 (views_of (value_in (cell_at (Kind.pieces 16 245 800) s p))).strings
    entries_put_lem a u room out f = f ∙ ap (λ (o : Option (List (List ℕ))). entries_put room 0 80 (list_in o)) (entries_found a u)

pub ruleset entries_told_in = (entries_never, entries_there, entries_put_lem, entries_none, arith)

-- zeros, the counters and the entries are the downlink's bytes
module _ (s : List ℕ) (q p : ℕ) (room cleared counted out : List ℕ) (h : 880 ≤ length room) (e : cleared ≡ put_at room 0 (replicate 80 0)) where
  pub cleared_room : 64 ≤ length cleared
  cleared_room = omega (arith, ap length e, length_put room 0 (replicate 80 0))

  module _ (f : counted ≡ put_at cleared 0 (counter_bytes (views_of (value_in (cell_at (Kind.counters 16) s q))).counts)) where
    pub counted_room : 880 ≤ length counted
    counted_room =
        omega (arith, ap length e, length_put room 0 (replicate 80 0), ap length f, length_put cleared 0 (counter_bytes (counters (value_in (cell_at (Kind.counters 16) s q)))))

    pub downlink_is : out ≡ entries_put counted 0 80 (views_of (value_in (cell_at (Kind.pieces 16 245 800) s p))).strings
        → out ≡ put_at room 0 (downlink_bytes (views_of (value_in (cell_at (Kind.counters 16) s q))).counts (views_of (value_in (cell_at (Kind.pieces 16 245 800) s p))).strings)
    downlink_is g =
        let cs = counters (value_in (cell_at (Kind.counters 16) s q)) in
        let ds = entries (value_in (cell_at (Kind.pieces 16 245 800) s p)) in
        let few = few_entries 16 800 245 s p in
        g ∙ ap (λ (r : List ℕ). entries_put r 0 80 ds) (f ∙ ap (λ (r : List ℕ). put_at r 0 (counter_bytes cs)) e)
        ∙ downlink_put room cs ds (few_counters 16 s q) few.few (omega (arith, few.small))

pub ruleset downlinks = (cleared_room, counted_room, downlink_is, arith)
