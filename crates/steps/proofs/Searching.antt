-- The code's search of the places: it goes on from each place as the definition does from there; and the machine's equality of signed numbers.
-- Assumes nothing.
use mathlib.Core.Path.{◌≡◌, refl, sym, ap, ◌∙◌}
use mathlib.Core.Bool.{Bool, true, false, not, ◌&&◌}
use mathlib.Core.{List.List, Option.some, Option.none}
use Prim.Native.Nat.{ℕ, suc, ◌+◌, ◌-◌, ◌*◌, ◌≤◌, ◌<◌, ◌^◌}
use native.Mathlib.Numerals.{add-one}
use native.Mathlib.Omega.{arith}
use lib.{Dec.eqb, IntN.ℤ, IntN.pos, IntN.negsuc, Signed.mag, Seq.drop-cons}
use lib.ListN.{length, drop, get_or, drop_of_length-le}
use mir.Syntax.{w64}
use mir.Val.{to_z, of_z, SFits}
use borrow.Author.Tests.{eq-eqb, ne_eqb, eqb-true, eqb-false}
use Rattle.session.specs.{Session.Entry, Image.id_at, Image.entries_at, Image.session_at}
use Rattle.session.specs.Place.{same_id, is_free, matches, entry, no_entry, first_from, free_place, entry_place}
use Rattle.session.proofs.Image.{entries_long}
use Rattle.steps.specs.declared.side.Side.{Side, TheVariants.Station, TheVariants.Centre}
use Rattle.steps.specs.Code.Lies.{side_ids, side_kinds, entries_of}
use Rattle.steps.proofs.{Tests.and_assoc, Lying.entry_at, Knowing.kept}

same_test : (a b c d : ℕ) (x : Bool) → eqb c d ≡ x → (a ≡ b → c ≡ d) → (c ≡ d → a ≡ b) → eqb a b ≡ eqb c d
same_test a b c d true e f g = eq-eqb a b (g (eqb-true c d e)) ∙ sym e
same_test a b c d false e f g = ne_eqb a b (λ h. eqb-false c d e (f h)) ∙ sym e

pub same_bits : (x y : ℤ) → mag x < 0x8000000000000000 → mag y < 0x8000000000000000 → eqb (of_z w64 x) (of_z w64 y) ≡ same_id x y
same_bits (pos a) (pos b) f g = refl
same_bits (pos a) (negsuc b) f g = ne_eqb a (2 ^ 64 - suc b) (λ e. omega arith)
same_bits (negsuc a) (pos b) f g = ne_eqb (2 ^ 64 - suc a) b (λ e. omega arith)
same_bits (negsuc a) (negsuc b) f g = same_test (2 ^ 64 - suc a) (2 ^ 64 - suc b) a b (eqb a b) refl (λ e. omega arith) (λ e. rw e)

pub zero_bits : (x : ℤ) → mag x < 0x8000000000000000 → eqb (of_z w64 x) 0 ≡ same_id x (pos 0)
zero_bits x h = same_bits x (pos 0) h (omega arith)

pub match_is : (e : Entry) (z : ℤ) (k : ℕ) (b : Bool) → b ≡ is_free e → mag e.id < 0x8000000000000000 → mag z < 0x8000000000000000
    → (not b && eqb (of_z w64 e.id) (of_z w64 z)) && eqb e.kind k ≡ matches z k e
match_is e z k b p f g = rw (p, same_bits e.id z f g) (and_assoc (not (is_free e)) (same_id e.id z) (eqb e.kind k))

-- one side's places from i on
module _ (f : Entry → Bool) (t : List Entry) (i : ℕ) where
  pub found_here : i < length t → f (get_or t i no_entry) ≡ true → first_from f i (drop i t) ≡ some i
  unfolding first_from
  found_here h e = rw (drop-cons t i no_entry h) (simp e)

  pub found_later : i < length t → f (get_or t i no_entry) ≡ false → first_from f i (drop i t) ≡ first_from f (i + 1) (drop (i + 1) t)
  unfolding first_from
  found_later h e = rw (drop-cons t i no_entry h, add-one) (simp e)

  pub found_none : length t ≤ i → first_from f i (drop i t) ≡ none
  unfolding first_from
  found_none h = rw (drop_of_length-le t h)

-- a side's places in the bytes, and the search come to place i
entries_in : (d : List ℕ) (v : Side) → entries_of v (session_at d) ≡ entries_at d (side_ids v) (side_kinds v) 16
unfolding session_at
entries_in d Station = refl
entries_in d Centre = refl

module _ (d : List ℕ) (v : Side) (i : ℕ) where
  abbrev side : List Entry
  side = entries_of v (session_at d)

  sixteen : length side ≡ 16
  sixteen = ap length (entries_in d v) ∙ entries_long d (side_ids v) (side_kinds v) 16

  there : i < 16 → (z : ℤ) → z ≡ id_at d (side_ids v + 8 * i) → get_or side i no_entry ≡ entry z (get_or d (side_kinds v + i) 0)
  there h z q =
      ap (λ (t : List Entry). get_or t i no_entry) (entries_in d v) ∙ entry_at d (side_ids v) (side_kinds v) 16 i h
      ∙ ap (λ (y : ℤ). entry y (get_or d (side_kinds v + i) 0)) (sym q)

-- the ID at place i, from where the code has the side's IDs
id_there : (d : List ℕ) (v : Side) (i ids : ℕ) (z : ℤ) → ids ≡ side_ids v → z ≡ id_at d (ids + 8 * i) → z ≡ id_at d (side_ids v + 8 * i)
id_there d v i ids z p q = q ∙ ap (λ (k : ℕ). id_at d (k + 8 * i)) p

-- and there is room for it and its kind
pub id_room : (d : List ℕ) (i ids at : ℕ) → at + 128 ≤ length d → ids ≡ at → i < 16 → ids + 8 * i + 8 ≤ length d
id_room d i ids at l e h = omega arith

pub kind_room : (d : List ℕ) (i kinds at : ℕ) → at + 16 ≤ length d → kinds ≡ at → i < 16 → kinds + i < length d
kind_room d i kinds at l e h = omega arith

-- a free one
module _ (d : List ℕ) (v : Side) (i : ℕ) (e : free_place (entries_of v (session_at d)) ≡ first_from is_free i (drop i (entries_of v (session_at d)))) where
  pub free_none : 16 ≤ i → free_place (entries_of v (session_at d)) ≡ none
  free_none h = e ∙ found_none is_free (side d v i) i (omega (arith, sixteen d v i))

  module _ (h : i < 16) (ids : ℕ) (p : ids ≡ side_ids v) (z : ℤ) (m : mag z < 0x8000000000000000) (q : z ≡ id_at d (ids + 8 * i)) where
    inside : i < length (side d v i)
    inside = omega (arith, sixteen d v i)

    free_is : is_free (get_or (side d v i) i no_entry) ≡ eqb (of_z w64 z) 0
    free_is = ap is_free (there d v i h z (id_there d v i ids z p q)) ∙ sym (zero_bits z m)

    pub free_here : of_z w64 z ≡ 0 → free_place (entries_of v (session_at d)) ≡ some i
    free_here t = e ∙ found_here is_free (side d v i) i inside (free_is ∙ eq-eqb (of_z w64 z) 0 t)

    pub free_later : (of_z w64 z ≡ 0 → ⊥) → free_place (entries_of v (session_at d)) ≡ first_from is_free (i + 1) (drop (i + 1) (entries_of v (session_at d)))
    free_later t = e ∙ found_later is_free (side d v i) i inside (free_is ∙ ne_eqb (of_z w64 z) 0 t)

-- one with an ID and kind, the ID as the machine has it
module _ (d : List ℕ) (v : Side) (i : ℕ) (y : ℤ) (s : SFits w64 y) (k : ℕ)
    (e : entry_place y k (entries_of v (session_at d)) ≡ first_from (matches y k) i (drop i (entries_of v (session_at d)))) where
  pub match_none : 16 ≤ i → entry_place y k (entries_of v (session_at d)) ≡ none
  match_none h = e ∙ found_none (matches y k) (side d v i) i (omega (arith, sixteen d v i))

  module _ (h : i < 16) (ids kinds : ℕ) (o : ids ≡ side_ids v) (u : kinds ≡ side_kinds v) (z : ℤ) (m : mag z < 0x8000000000000000) (q : z ≡ id_at d (ids + 8 * i))
      (b : Bool) (r : b ≡ matches (to_z w64 (of_z w64 y)) k (entry (to_z w64 (of_z w64 z)) (get_or d (kinds + i) 0))) where
    within : i < length (side d v i)
    within = omega (arith, sixteen d v i)

    match_there : matches y k (get_or (side d v i) i no_entry) ≡ b
    match_there =
        ap (matches y k) (there d v i h z (id_there d v i ids z o q))
        ∙ sym
        (r ∙ ap (λ (x : ℤ). matches x k (entry (to_z w64 (of_z w64 z)) (get_or d (kinds + i) 0))) (kept y s.sfits)
        ∙ ap (λ (x : ℤ). matches y k (entry x (get_or d (kinds + i) 0))) (kept z m)
        ∙ ap (λ (j : ℕ). matches y k (entry z (get_or d (j + i) 0))) u)

    pub match_here : b ≡ true → entry_place y k (entries_of v (session_at d)) ≡ some i
    match_here t = e ∙ found_here (matches y k) (side d v i) i within (match_there ∙ t)

    pub match_later : b ≡ false → entry_place y k (entries_of v (session_at d)) ≡ first_from (matches y k) (i + 1) (drop (i + 1) (entries_of v (session_at d)))
    match_later t = e ∙ found_later (matches y k) (side d v i) i within (match_there ∙ t)
