-- What a place of the store says of its entry, field by field: its ID, whether it is suitable, where its data stand. Each law in the shape of a need of the code.
-- Assumes nothing.
use mathlib.Core.{Path.◌≡◌, Path.refl, Path.sym, Path.ap, Path.◌∙◌}
use Rattle.std.specs.Prelude.{Some, None}
use mathlib.Core.Bool.{Bool, true, false, not, ◌&&◌, ◌||◌, and-true}
use mathlib.Core.List.{List, [], ◌∷◌}
use Prim.Native.Nat.{ℕ, suc, ◌+◌, ◌≤◌, ◌<◌}
use native.Mathlib.Omega.{arith}
use lib.{Dec.eqb, Dec.ltb, Dec.leb-suc-suc, ListN.length, ListN.take, ListN.drop, ListN.get_or, ListN.length-drop, ListN.get_or-eq_default}
use lib.Seq.{get_or-take, get_or-drop, take-take, length-take-le}
use borrow.Author.Tests.{lt-ltb, eq-eqb, ne_eqb, not-true, not-false}
use Rattle.std.proofs.lemmas.List.{take_all}
use Rattle.octets.specs.{Choice.either, Pieces.counters_from, Pieces.sum_of}
use Rattle.forms.proofs.Downlinks.{counters_length}
use Rattle.layout.specs.Taken.{number_at, flag_at, dl_data_que_at}
use Rattle.queue.specs.declared.Chosen.{Chosen}
use Rattle.queue.specs.Entry.{place_of, is_among, is_suitable, piece_for}
use Rattle.queue.specs.{Queue.has_id, Store.is_used, Store.entry_in, Calls.shown_at, Code.Slots.passing, Code.Slots.names_counter, Code.Slots.entry_at}
use Rattle.queue.proofs.Lents.{place_few}

-- among counters is what has a place before their end
among_place : (k : ℕ) (cs : List ℕ) → ltb (place_of k cs) (length cs) ≡ is_among k cs
unfolding place_of is_among
among_place k [] = refl
among_place k (c ∷ cs) = go (eqb c k) (among_place k cs)
  where
    go : (b : Bool) → ltb (place_of k cs) (length cs) ≡ is_among k cs → ltb (either b (λ _. 0) (λ _. suc (place_of k cs))) (suc (length cs)) ≡ (b || is_among k cs)
    go true h = lt-ltb 0 (suc (length cs)) (omega arith)
    go false h = leb-suc-suc (suc (place_of k cs)) (length cs) ∙ h

-- a length among n that are lent
module _ (d : List ℕ) (n j : ℕ) where
  pub length_in : j < n → get_or d (64 + j) 0 ≡ get_or (take n (drop 64 d)) j 0
  length_in h = sym (get_or-take n (drop 64 d) j 0 h ∙ get_or-drop 64 d j 0)

  pub length_past : n ≤ j → 64 + n ≤ length d → 0 ≡ get_or (take n (drop 64 d)) j 0
  length_past h l = sym (get_or-eq_default (take n (drop 64 d)) 0 (omega (arith, length-take-le n (drop 64 d) (omega (arith, length-drop 64 d)))))

pub ruleset lengths_at = (length_in, length_past, arith)

module _ (s : List ℕ) where
  pub has_told : (u : Bool) (x k : ℕ) → u ≡ is_used s → x ≡ number_at s 8 24 → (u && eqb x k) ≡ has_id k (entry_in s)
  unfolding dl_data_que_at
  has_told u x k e f = rw (e, f) (go (is_used s))
    where
      go : (b : Bool) → (b && eqb (number_at s 8 24) k) ≡ has_id k (either b (λ _. Some (entry_at s)) (λ _. None))
      go true = refl
      go false = refl

  -- the lent bytes behind the record
  pub lent_long : length s ≡ 984 → length (take 880 (drop 104 s)) ≡ 880
  lent_long e = length-take-le 880 (drop 104 s) (omega (arith, length-drop 104 s))

  pub lent_is : length s ≡ 984 → take 880 (drop 104 s) ≡ drop 104 s
  lent_is e = take_all 880 (drop 104 s) (omega (arith, length-drop 104 s))

  pub lengths_lie : length s ≡ 984 → (j : ℕ) → j ≤ 255 → 64 + j ≤ length (take 880 (drop 104 s))
  lengths_lie e j h = omega (arith, lent_long e)

  -- by whether it depends on counters
  module _ (t : Bool) (e : t ≡ flag_at s 42) (k : ℕ) where
    pub named_any : not t ≡ true → true ≡ names_counter k (entry_at s)
    unfolding dl_data_que_at
    named_any h = rw (← e, not-true t h)

    pub named_one : length s ≡ 984 → not t ≡ false → (n r : ℕ) → n ≡ number_at s 1 40 → r ≡ place_of k (counters_from (take 880 (drop 104 s)) n 0) → ltb r n ≡ names_counter k (entry_at s)
    unfolding dl_data_que_at
    named_one l h n r p q =
        rw (← e, not-false t h, ← p, q, lent_is l)
        (ap (ltb (place_of k (counters_from (drop 104 s) n 0))) (sym (counters_length (drop 104 s) n 0)) ∙ among_place k (counters_from (drop 104 s) n 0))

    pub piece_only : not t ≡ true → 0 ≡ piece_for k (entry_at s)
    unfolding dl_data_que_at
    piece_only h = rw (← e, not-true t h)

    pub piece_for_lem : length s ≡ 984 → not t ≡ false → (n r : ℕ) → n ≡ number_at s 1 40 → r ≡ place_of k (counters_from (take 880 (drop 104 s)) n 0) → r ≡ piece_for k (entry_at s)
    unfolding dl_data_que_at
    piece_for_lem l h n r p q = rw (← e, not-false t h, ← p, q, lent_is l)

  -- by the tests in their order
  module _ (u : Bool) (e : u ≡ is_used s) (eui k : ℕ) (expected : Bool) where
    abbrev told : Bool
    told = passing (is_suitable eui k expected) (entry_in s)

    pub unused : not u ≡ true → false ≡ told
    unused h = rw (← e, not-true u h)

    module _ (h : not u ≡ false) (x : ℕ) (p : x ≡ number_at s 8 16) where
      pub unlike : (x ≡ eui → ⊥) → false ≡ told
      unfolding dl_data_que_at
      unlike n = rw (← e, not-false u h, ← p, ne_eqb x eui n)

      pub likely : x ≡ eui → (a b n o : Bool) → a ≡ flag_at s 49 → b ≡ flag_at s 50 → n ≡ names_counter k (entry_at s) → o ≡ (not (a && b) || expected) → (n && o) ≡ told
      unfolding dl_data_que_at
      likely l a b n o f g m c = rw (← e, not-false u h, ← p, eq-eqb x eui l, c, f, g, m)

pub ruleset slots = (and-true, has_told, lent_long, lengths_lie, named_any, named_one, piece_only, piece_for_lem, unused, unlike, likely, arith)

-- what is shown
piece_few : (s : List ℕ) (k : ℕ) → piece_for k (entry_at s) ≤ number_at s 1 40
unfolding dl_data_que_at
piece_few s k = go (flag_at s 42)
  where
    go : (b : Bool) → either b (λ _. place_of k (either b (λ _. counters_from (drop 104 s) (number_at s 1 40) 0) (λ _. []))) (λ _. 0) ≤ number_at s 1 40
    go true = omega (arith, place_few k (counters_from (drop 104 s) (number_at s 1 40) 0), counters_length (drop 104 s) (number_at s 1 40) 0)
    go false = omega arith

pub shown_is : (s : List ℕ) → length s ≡ 984 → (i k j n f z : ℕ) → j ≡ piece_for k (entry_at s) → n ≡ number_at s 1 40 → f ≡ sum_of (take j (drop 64 (take 880 (drop 104 s))))
    → z ≡ get_or (take n (drop 64 (take 880 (drop 104 s)))) j 0
    → ◌≡◌ {A = Chosen} (record { place = i; from = 80 + f; size = z }) (shown_at i (piece_for k (entry_at s)) (entry_at s).lengths)
unfolding dl_data_que_at
shown_is s l i k j n f z p q g h =
    let few : j ≤ n = omega (arith, piece_few s k) in
    rw (← p, ← q, take-take j n (drop 64 (drop 104 s)) few, g, h, lent_is s l)

pub ruleset showing = (shown_is, lengths_lie, arith)
