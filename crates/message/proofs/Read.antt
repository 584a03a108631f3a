-- What the code goes by, places in the bytes, is what a reading goes by: for the bytes of a lawful tree the places agree with what the outer map
-- says of each key, so the cells are the same, and so is the command's number. Assumes nothing.
use mathlib.Core.Path.{◌≡◌, refl, sym, ap, ap₂, subst, ◌∙◌}
use mathlib.Core.List.{List, [], ◌∷◌, ◌++◌}
use Prim.Native.Nat.{ℕ, zero, suc, ◌+◌, ◌≤◌, ◌<◌}
use native.Mathlib.Omega.{arith}
use lib.Dec.{T, eqb, eqb→eq, lit<}
use lib.ListN.{length, get_or, drop}
use Rattle.octets.proofs.{Places.append-nil, Ranges.ranged, Ranges.both_left, Ranges.both_right}
use Rattle.element.specs.declared.Shape.TheVariants.{Map}
use Rattle.element.specs.{Form.Role, Tree.Tree.leaf, Tree.Tree.array, Tree.Tree.map, Meaning.Fields, Meaning.meaning_of}
use Rattle.element.specs.Tree.{Tree, bytes_of, bytes_of_pairs, count_of, depth_of, pair_count, IsBody, Lawful, Payload}
use Rattle.element.proofs.Steps.{suits_outer}
use Rattle.element.proofs.Passed.{span_opens, map_never, headed, inside, inside_le}
use Rattle.names.specs.{Names.name_at, Code.Slots.keys, Code.Slots.slot_of}
use Rattle.field.specs.{Judge.text_of, Cell.Said, Cell.Cell, Code.At.shallow_at}
use Rattle.message.specs.{Fields.Field, Code.Notes.unnoted}
use Rattle.message.specs.Reading.{outer_of, said_of, cells_of, command_said}
use Rattle.message.specs.Code.Cells.{cells_at, places_of, numbered, command_at}
use Rattle.message.proofs.Known.{is_known, are_known, known_slot, known_key}
use Rattle.message.proofs.Stands.{Agree, agree_cell, stands}

-- every place agrees with what is said of its key
abbrev pub Agrees : List ℕ → List ℕ → Fields → Type 0
Agrees s places fs = (i : ℕ) → i < 55 → Agree s (get_or places i 0) (said_of (name_at keys i) fs)

module _ (s places : List ℕ) (fs : Fields) (h : Agrees s places fs) where
  -- the cells are the same
  pub same_cells : (l : List Field) → T (are_known l) → cells_at l s places ≡ cells_of l (λ k. said_of k fs)
  unfolding cells_at cells_of
  same_cells [] t = refl
  same_cells (f ∷ l) t =
      let k = both_left (is_known f) (are_known l) t in
      ap₂ (λ (c : Cell) (cs : List Cell). c ∷ cs)
      (rw (known_key f k) at (agree_cell (h (slot_of f.key) (known_slot f k)) f.kind))
      (same_cells l (both_right (is_known f) (are_known l) t))

  -- the command's number, by its place and by what is said of it
  pub number_said : (q : ℕ) (x : Said) → Agree s q x → command_at s q ≡ numbered (command_said x)
  unfolding command_at
  number_said q Said.absent Agree.nowhere = refl
  number_said q (Said.once e) (Agree.somewhere p d g f t) = by_place p g t
    where
      by_place : (p : ℕ) → 2 ≤ p → text_of (shallow_at s p) ≡ text_of e → command_at s p ≡ numbered (text_of e)
      by_place zero g t = absurd (omega arith)
      by_place (suc zero) g t = absurd (omega arith)
      by_place (suc (suc p)) g t = ap numbered t
  number_said q Said.twice Agree.often = refl

-- no place yet, nothing said
unnoted_zero : (i : ℕ) → i < 55 → get_or unnoted i 0 ≡ 0
unnoted_zero i h = eqb→eq (get_or unnoted i 0) 0 (ranged (λ k. eqb (get_or unnoted k 0) 0) 0 55 tt i (omega arith) h)

nothing_said : (s : List ℕ) (i : ℕ) → i < 55 → Agree s (get_or unnoted i 0) Said.absent
nothing_said s i h = rw (unnoted_zero i h) Agree.nowhere

-- the places of a payload agree with its tree
pub payload_agrees : (s : List ℕ) (w : Tree) → Payload s w → Agrees s (places_of s) (outer_of (meaning_of w))
unfolding bytes_of count_of depth_of Lawful meaning_of places_of
payload_agrees s (leaf b l d) P = absurd (subst IsBody P.outer P.lawful.1)
payload_agrees s (array b l ts) P = let z : ◌≡◌ {A = ℕ} 0 1 = cc (P.lawful.0.shape_is, P.outer) in absurd (omega arith)
payload_agrees s (map b l ps) P =
    let d : drop 0 s ≡ (b ∷ l ++ bytes_of_pairs ps) ++ [] = sym P.bytes ∙ sym (append-nil (b ∷ l ++ bytes_of_pairs ps)) in
    let g = headed s 8 Role.outer 0 0 b l (bytes_of_pairs ps) [] (lit< tt) (lit< tt) d in
    let o = span_opens s 8 Role.outer 0 0 b (pair_count ps) l (bytes_of_pairs ps ++ []) Map P.lawful.0 map_never (suits_outer refl) (lit< tt) (lit< tt) g in
    let i = inside s 8 Role.outer 0 0 b l (bytes_of_pairs ps) [] (lit< tt) (lit< tt) d in
    let j = inside_le s 8 Role.outer 0 0 b l (bytes_of_pairs ps) [] (lit< tt) (lit< tt) d in
    rw o
    (stands ps s (0 + 1 + length l) 1 [] P.lawful.1 (omega (arith, P.depth)) (omega (arith, P.count)) (omega arith) j i unnoted refl (λ k. Said.absent) (nothing_said s))
