-- Trees and payloads by computed tests: what `Carries`, `Strange` and `OfKind` ask of written-out bytes is one computation. Each test is
-- sound by going through the tree. Assumes nothing.
use mathlib.Core.{Path.◌≡◌, Path.refl, Path.sym, List.List, List.[], List.◌∷◌}
use mathlib.Core.Bool.{Bool, true, false, ◌&&◌, ◌||◌, not}
use Prim.Native.Nat.{ℕ, ◌+◌}
use lib.Dec.{T, leb, eqb, eqb→eq, leb→le}
use lib.ListN.{length}
use Rattle.octets.specs.Number.{big}
use Rattle.octets.proofs.Ranges.{both_left, both_right, is_true, is_false}
use Rattle.element.specs.declared.Shape.{Shape, TheVariants.Never, TheVariants.Plain, TheVariants.Text, TheVariants.Array, TheVariants.Map}
use Rattle.element.specs.{Lead.head_of, Form.is_text, Form.is_map, Tree.Tree.leaf, Tree.Tree.array, Tree.Tree.map, Tree.Trees.none, Tree.Trees.some}
use Rattle.element.specs.{Tree.Pairs.end, Tree.Pairs.pair}
use Rattle.element.specs.Tree.{Tree, Trees, Pairs, bytes_of, count_of, depth_of, part_count, pair_count, Headed, IsBody, shape_of_tree, Lawful, LawfulAll, LawfulPairs, Payload}
use Rattle.names.specs.Names.{same_bytes}
use Rattle.names.proofs.Same.{same_eq}
use Rattle.field.specs.Kind.{Kind}
use Rattle.message.specs.Fields.{Field}
use Rattle.message.proofs.KeyKinds.{same_kind, same_kind_lem}
use Rattle.promises.specs.Steady.{Strange, OfKind, Carries}

abbrev is_array : Shape → Bool
is_array Never = false
is_array Plain = false
is_array Text = false
is_array Array = true
is_array Map = false

abbrev is_body : Shape → Bool
is_body Never = false
is_body Plain = true
is_body Text = true
is_body Array = false
is_body Map = false

-- each shape passes its own test alone
text_is : (h : Shape) → T (is_text h) → h ≡ Text
text_is Never t = absurd t
text_is Plain t = absurd t
text_is Text t = refl
text_is Array t = absurd t
text_is Map t = absurd t

array_is : (h : Shape) → T (is_array h) → h ≡ Array
array_is Never t = absurd t
array_is Plain t = absurd t
array_is Text t = absurd t
array_is Array t = refl
array_is Map t = absurd t

map_is : (h : Shape) → T (is_map h) → h ≡ Map
map_is Never t = absurd t
map_is Plain t = absurd t
map_is Text t = absurd t
map_is Array t = absurd t
map_is Map t = refl

body_is : (h : Shape) → T (is_body h) → IsBody h
body_is Never t = t
body_is Plain t = tt
body_is Text t = tt
body_is Array t = t
body_is Map t = t

-- a head states n
abbrev states : ℕ → List ℕ → ℕ → Bool
states b l n = eqb (length l) (head_of b).wide && eqb n ((head_of b).more + big l)

headed : (h : Shape) (b : ℕ) (l : List ℕ) (n : ℕ) → (head_of b).shape ≡ h → T (states b l n) → Headed h b l n
headed h b l n e t =
    let w = eqb (length l) (head_of b).wide in
    let m = eqb n ((head_of b).more + big l) in
    record { shape_is = e; wide = eqb→eq (length l) (head_of b).wide (both_left w m t); states = eqb→eq n ((head_of b).more + big l) (both_right w m t) }

unfoldable mutual
  pub is_lawful : Tree → Bool
  is_lawful (leaf b l d) = is_body (head_of b).shape && states b l (length d)
  is_lawful (array b l ts) = is_array (head_of b).shape && (states b l (part_count ts) && are_lawful ts)
  is_lawful (map b l ps) = is_map (head_of b).shape && (states b l (pair_count ps) && pairs_lawful ps)

  pub are_lawful : Trees → Bool
  are_lawful none = true
  are_lawful (some t ts) = is_lawful t && are_lawful ts

  pub pairs_lawful : Pairs → Bool
  pairs_lawful end = true
  pairs_lawful (pair k v ps) = is_text (shape_of_tree k) && (is_lawful k && (is_lawful v && pairs_lawful ps))

mutual
  unfolding is_lawful Lawful

  pub lawful : (w : Tree) → T (is_lawful w) → Lawful w
  lawful (leaf b l d) t =
      let h = (head_of b).shape in
      let n = states b l (length d) in
      (headed h b l (length d) refl (both_right (is_body h) n t), body_is h (both_left (is_body h) n t))
  lawful (array b l ts) t =
      let h = (head_of b).shape in
      let n = states b l (part_count ts) in
      let u = both_right (is_array h) (n && are_lawful ts) t in
      (headed Array b l (part_count ts) (array_is h (both_left (is_array h) (n && are_lawful ts) t)) (both_left n (are_lawful ts) u), all_lawful ts (both_right n (are_lawful ts) u))
  lawful (map b l ps) t =
      let h = (head_of b).shape in
      let n = states b l (pair_count ps) in
      let u = both_right (is_map h) (n && pairs_lawful ps) t in
      (headed Map b l (pair_count ps) (map_is h (both_left (is_map h) (n && pairs_lawful ps) t)) (both_left n (pairs_lawful ps) u), lawful_pairs ps (both_right n (pairs_lawful ps) u))

  pub all_lawful : (ts : Trees) → T (are_lawful ts) → LawfulAll ts
  all_lawful none t = tt
  all_lawful (some w ts) t = (lawful w (both_left (is_lawful w) (are_lawful ts) t), all_lawful ts (both_right (is_lawful w) (are_lawful ts) t))

  pub lawful_pairs : (ps : Pairs) → T (pairs_lawful ps) → LawfulPairs ps
  lawful_pairs end t = tt
  lawful_pairs (pair k v ps) t =
      let a = is_text (shape_of_tree k) in
      let u = both_right a (is_lawful k && (is_lawful v && pairs_lawful ps)) t in
      let x = both_right (is_lawful k) (is_lawful v && pairs_lawful ps) u in (
        text_is (shape_of_tree k) (both_left a (is_lawful k && (is_lawful v && pairs_lawful ps)) t),
        lawful k (both_left (is_lawful k) (is_lawful v && pairs_lawful ps) u),
        lawful v (both_left (is_lawful v) (pairs_lawful ps) x),
        lawful_pairs ps (both_right (is_lawful v) (pairs_lawful ps) x),
      )

-- a lawful map, within the limits, that these bytes write
unfoldable pub is_payload : List ℕ → Tree → Bool
is_payload s w = is_lawful w && (is_map (shape_of_tree w) && (leb (depth_of w) 8 && (leb (count_of w) 1024 && (leb (length s) 4096 && same_bytes (bytes_of w) s))))

pub payload : (s : List ℕ) (w : Tree) → T (is_payload s w) → Payload s w
unfolding is_payload
payload s w t =
    let e = same_bytes (bytes_of w) s in
    let d = leb (length s) 4096 in
    let c = leb (count_of w) 1024 in
    let b = leb (depth_of w) 8 in
    let a = is_map (shape_of_tree w) in
    let t1 = both_right (is_lawful w) (a && (b && (c && (d && e)))) t in
    let t2 = both_right a (b && (c && (d && e))) t1 in
    let t3 = both_right b (c && (d && e)) t2 in
    let t4 = both_right c (d && e) t3 in
    record {
      lawful = lawful w (both_left (is_lawful w) (a && (b && (c && (d && e)))) t);
      outer = map_is (shape_of_tree w) (both_left a (b && (c && (d && e))) t1);
      depth = leb→le (depth_of w) 8 (both_left b (c && (d && e)) t2);
      count = leb→le (count_of w) 1024 (both_left c (d && e) t3);
      short = leb→le (length s) 4096 (both_left d e t4);
      bytes = same_eq (bytes_of w) s (sym (is_true e (both_right d e t4)));
    }

-- the payload s is an outer map of these pairs, with that head
pub says : (s : List ℕ) (b : ℕ) (l : List ℕ) (ps : Pairs) → T (is_payload s (map b l ps)) → Carries s ps
says s b l ps t = record { lead = b; size = l; payload = payload s (map b l ps) t }

-- none of these fields has the key
abbrev pub is_strange : List Field → List ℕ → Bool
is_strange [] u = true
is_strange (f ∷ l) u = not (same_bytes f.key u) && is_strange l u

pub strange : (l : List Field) (u : List ℕ) → T (is_strange l u) → Strange l u
strange [] u t = tt
strange (f ∷ l) u t =
    let n = not (same_bytes f.key u) in
    (sym (is_false (same_bytes f.key u) (both_left n (is_strange l u) t)), strange l u (both_right n (is_strange l u) t))

-- every field of that key has that kind
abbrev pub is_of_kind : Kind → List Field → List ℕ → Bool
is_of_kind κ [] u = true
is_of_kind κ (f ∷ l) u = (not (same_bytes f.key u) || same_kind f.kind κ) && is_of_kind κ l u

pub of_kind : (κ : Kind) (l : List Field) (u : List ℕ) → T (is_of_kind κ l u) → OfKind κ l u
of_kind κ [] u t = tt
of_kind κ (f ∷ l) u t =
    let b = not (same_bytes f.key u) || same_kind f.kind κ in
    (λ e. same_kind_lem f.kind κ (rw e at (both_left b (is_of_kind κ l u) t)), of_kind κ l u (both_right b (is_of_kind κ l u) t))
