-- The places that the code notes agree with what the outer map says of each key: nowhere, at one place with that element, or several times.
-- By induction over the map's pairs: each pair is passed by the walk, its key is the text that stands there, and only its own slot changes.
-- Assumes nothing.
use mathlib.Core.Path.{◌≡◌, refl, sym, ap, ◌∙◌}
use mathlib.Core.Bool.{Bool, true, false}
use mathlib.Core.List.{List, ◌∷◌, ◌++◌, append_assoc}
use Prim.Native.Nat.{ℕ, zero, suc, ◌+◌, ◌-◌, ◌≤◌, ◌<◌}
use native.Mathlib.Omega.{arith}
use lib.ListN.{length, get_or, drop, length-append, length-set}
use lib.Seq.{get_or-set_same, get_or-set_other}
use borrow.Author.Tests.{eqb-true, eqb-false}
use Rattle.octets.specs.Choice.{either}
use Rattle.octets.proofs.Places.{here, next, after, after_le, part}
use Rattle.element.specs.declared.Shape.TheVariants.{Text}
use Rattle.element.specs.{Form.Role, Code.At.body_from, Tree.Tree.leaf, Tree.Tree.array, Tree.Tree.map, Tree.Pairs.end, Tree.Pairs.pair}
use Rattle.element.specs.Tree.{Tree, Pairs, bytes_of, bytes_of_pairs, count_of, count_of_pairs, depth_of, depth_of_pairs, pair_count, shape_of_tree, Lawful, LawfulPairs}
use Rattle.element.specs.Meaning.{Element, key_of, meaning_of, meaning_of_pairs}
use Rattle.element.proofs.{Steps.suits_value, Steps.suits_key, Passed.pass_tree}
use Rattle.names.specs.{Names.same_bytes, Names.name_at, Code.Slots.keys, Code.Slots.slot_of}
use Rattle.names.proofs.Places.{slot_is}
use Rattle.field.specs.{Kind.Kind, Judge.text_of, Cell.Said, Cell.cell_of, Code.At.shallow_at, Code.At.cell_at}
use Rattle.field.proofs.{Standing.leaf_shallow, Standing.array_shallow, Standing.map_shallow, Trees.cell_tree}
use Rattle.message.specs.Reading.{again, said_from}
use Rattle.message.specs.Code.Notes.{key_at, note_of, noted, notes_of}

-- a place says what is said: to every kind, and as a text
pub data Agree (s : List ℕ) : ℕ → Said → Type 0 where
  nowhere : Agree s 0 Said.absent
  somewhere : (p : ℕ) (e : Element) → 2 ≤ p → ((k : Kind) → cell_at k s p ≡ cell_of k (Said.once e)) → text_of (shallow_at s p) ≡ text_of e → Agree s p (Said.once e)
  often : Agree s 1 Said.twice

pub agree_cell : {s : List ℕ} {q : ℕ} {x : Said} → Agree s q x → (k : Kind) → cell_at k s q ≡ cell_of k x
unfolding cell_at
agree_cell nowhere k = refl
agree_cell (somewhere p e g f t) k = f k
agree_cell often k = refl

-- one more value
note_more : (n q : ℕ) → 0 < n → note_of n q ≡ 1
note_more zero q h = absurd (omega arith)
note_more (suc n) q h = refl

agree_again : {s : List ℕ} {q : ℕ} {x : Said} → Agree s q x → (p : ℕ) (e : Element) → 2 ≤ p
    → ((k : Kind) → cell_at k s p ≡ cell_of k (Said.once e)) → text_of (shallow_at s p) ≡ text_of e → Agree s (note_of q p) (again e x)
agree_again nowhere p e g f t = somewhere p e g f t
agree_again (somewhere r d h i u) p e g f t = rw (note_more r p (omega arith)) often
agree_again often p e g f t = often

-- the text of a value, from the bytes and from the tree
text_tree : (w : Tree) (s : List ℕ) (at : ℕ) (t : List ℕ) → Lawful w → drop at s ≡ bytes_of w ++ t → text_of (shallow_at s at) ≡ text_of (meaning_of w)
unfolding meaning_of
text_tree (leaf b l d) s at t L e = ap text_of (leaf_shallow s at b l t d L e)
text_tree (array b l ts) s at t L e = ap text_of (array_shallow s at b l t ts L e)
text_tree (map b l ps) s at t L e = ap text_of (map_shallow s at b l t ps L e)

-- the text that stands where a key stands is the key
key_text : (k : Tree) (s : List ℕ) (at : ℕ) (t : List ℕ) → Lawful k → shape_of_tree k ≡ Text → drop at s ≡ bytes_of k ++ t → key_at s at (at + length (bytes_of k)) ≡ key_of k
unfolding key_at bytes_of Lawful
key_text (leaf b l d) s at t L h e =
    let g : drop at s ≡ b ∷ (l ++ (d ++ t)) = e ∙ ap (λ (x : List ℕ). b ∷ x) (append_assoc l d t) in
    let lead : get_or s at 0 ≡ b = here s at b (l ++ (d ++ t)) g in
    let body = after s (at + 1) l (d ++ t) (next s at b (l ++ (d ++ t)) g) in
    let from : body_from s at ≡ at + 1 + length l = rw (lead, L.0.wide) in
    let many : at + length (b ∷ l ++ d) - (at + 1 + length l) ≡ length d = omega (arith, length-append l d) in
    rw (from, many) (part s (at + 1 + length l) d t body)
key_text (array b l ts) s at t L h e = let z : ◌≡◌ {A = ℕ} 0 1 = cc L.0.shape_is in absurd (omega arith)
key_text (map b l ps) s at t L h e = let z : ◌≡◌ {A = ℕ} 0 1 = cc L.0.shape_is in absurd (omega arith)

not_empty : (w : Tree) → 1 ≤ length (bytes_of w)
unfolding bytes_of
not_empty (leaf b l d) = omega arith
not_empty (array b l ts) = omega arith
not_empty (map b l ps) = omega arith

-- only the slot of the key changes
module _ (s : List ℕ) (u : List ℕ) (q : ℕ) (e : Element) (g : 2 ≤ q) (f : (k : Kind) → cell_at k s q ≡ cell_of k (Said.once e)) (t : text_of (shallow_at s q) ≡ text_of e)
    (a : List ℕ) (n : length a ≡ 64) (x : ℕ → Said) (h : (i : ℕ) → i < 55 → Agree s (get_or a i 0) (x i)) where
  changed : (i : ℕ) → i < 55 → (b : Bool) → same_bytes (name_at keys i) u ≡ b → Agree s (get_or (noted a (slot_of u) q) i 0) (either b (λ _. again e (x i)) (λ _. x i))
  changed i l true p =
      let j : slot_of u ≡ i = eqb-true (slot_of u) i (sym (slot_is u i l) ∙ p) in
      rw (j, get_or-set_same a i (note_of (get_or a i 0) q) 0 (omega arith)) (agree_again (h i l) q e g f t)
  changed i l false p =
      let j : slot_of u ≡ i → ⊥ = eqb-false (slot_of u) i (sym (slot_is u i l) ∙ p) in
      rw (get_or-set_other a (slot_of u) i (note_of (get_or a (slot_of u) 0) q) 0 (λ r. j (sym r))) (h i l)

  noted_agree : (i : ℕ) → i < 55 → Agree s (get_or (noted a (slot_of u) q) i 0) (either (same_bytes (name_at keys i) u) (λ _. again e (x i)) (λ _. x i))
  noted_agree i l = changed i l (same_bytes (name_at keys i) u) refl

-- the pairs of the outer map, from `at` on
pub stands : (ps : Pairs) (s : List ℕ) (at count : ℕ) (t : List ℕ) → LawfulPairs ps → depth_of_pairs ps ≤ 7 → count + count_of_pairs ps ≤ 1024 → 1 ≤ at → at ≤ length s
    → drop at s ≡ bytes_of_pairs ps ++ t → (a : List ℕ) → length a ≡ 64 → (x : ℕ → Said) → ((i : ℕ) → i < 55 → Agree s (get_or a i 0) (x i))
    → (i : ℕ) → i < 55 → Agree s (get_or (notes_of s (pair_count ps) at count a) i 0) (said_from (name_at keys i) (x i) (meaning_of_pairs ps))
unfolding notes_of said_from bytes_of count_of depth_of Lawful pair_count meaning_of
stands end s at count t L D C m b e a n x h i l = h i l
stands (pair k v ps) s at count t L D C m b e a n x h i l =
    let g = e ∙ append_assoc (bytes_of k ++ bytes_of v) (bytes_of_pairs ps) t in
    let f = g ∙ append_assoc (bytes_of k) (bytes_of v) (bytes_of_pairs ps ++ t) in
    let q = at + length (bytes_of k) in
    let ks = pass_tree k s 7 Role.key at count (bytes_of v ++ (bytes_of_pairs ps ++ t)) L.1 (omega arith) (omega arith) (suits_key L.0) f in
    let vf = after s at (bytes_of k) (bytes_of v ++ (bytes_of_pairs ps ++ t)) f in
    let vs = pass_tree v s 7 Role.value q (count + count_of k) (bytes_of_pairs ps ++ t) L.2 (omega arith) (omega arith) (suits_value (shape_of_tree v)) vf in
    let ql = after_le s at (bytes_of k) (bytes_of v ++ (bytes_of_pairs ps ++ t)) f b in
    let two : 2 ≤ q = omega (arith, not_empty k) in
    rw (ks, vs, key_text k s at (bytes_of v ++ (bytes_of_pairs ps ++ t)) L.1 L.0 f)
    (stands ps s (q + length (bytes_of v)) (count + count_of k + count_of v) t L.3 (omega arith) (omega arith) (omega arith)
    (after_le s q (bytes_of v) (bytes_of_pairs ps ++ t) vf ql) (after s q (bytes_of v) (bytes_of_pairs ps ++ t) vf)
    (noted a (slot_of (key_of k)) q) (simp length-set n)
    (λ j. either (same_bytes (name_at keys j) (key_of k)) (λ _. again (meaning_of v) (x j)) (λ _. x j))
    (noted_agree s (key_of k) q (meaning_of v) two (λ c. cell_tree c v s q (bytes_of_pairs ps ++ t) two L.2 vf) (text_tree v s q (bytes_of_pairs ps ++ t) L.2 vf) a n x h)
    i l)
