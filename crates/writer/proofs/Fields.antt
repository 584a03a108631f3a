-- What is written for the fields of any list: their parts joined are the bytes of their pairs, as many are counted as are said, and behind a title they
-- are a payload. By induction over the list. Assumes nothing.
use mathlib.Core.Path.{◌≡◌, refl, sym, ap, ap₂, ◌∙◌}
use mathlib.Core.{Bool.Bool, Bool.true, Bool.false, Option.Option, Option.some, Option.none}
use mathlib.Core.List.{List, [], ◌∷◌, ◌++◌, append-nil, append_assoc}
use Prim.Native.Nat.{ℕ, ◌+◌, ◌<◌}
use native.Mathlib.Omega.{arith}
use lib.{IntN.pos, ListN.length}
use borrow.Author.Tests.{lt-ltb}
use Rattle.octets.specs.Choice.{either}
use Rattle.element.specs.Tree.{Pairs, bytes_of, bytes_of_all, bytes_of_pairs, part_count, pair_count}
use Rattle.forms.specs.Shortest.{whole_tree, text_tree, text_head, map_tree, map_head, array_head, array_tree, numbers_tree, number_trees, piece_trees, version_text}
use Rattle.forms.specs.Shortest.{head_bytes}
use Rattle.forms.specs.Code.Put.{joined, whole_parts, real_parts, mark_parts, text_parts, number_parts, numbers_parts, piece_parts, pieces_parts, position_parts, version_parts}
use Rattle.forms.proofs.Putting.{joined_join}
use Rattle.shortest.proofs.{Many.numbers_parts_lem, Pieces.pieces_parts_lem}
use Rattle.names.specs.Names.{commands, name_at}
use Rattle.field.specs.Kind.{Kind, Value}
use Rattle.message.specs.Fields.{Field, headed, fields_of}
use Rattle.saying.specs.Says.{part_in}
use Rattle.saying.specs.Written.{as_array, tree_of, pair_by, pairs_from}
use Rattle.saying.proofs.Words.{name_few}
use Rattle.record.specs.{Record.command_in, Says.sayings_of, Says.says_of, Written.payload_for}
use Rattle.record.specs.declared.Message.{Message}
use Rattle.writer.specs.Code.Parts.{short_text, text, chained, pair_part, one_if, title_parts}

-- the parts of a value of a kind
abbrev pub value_parts : Kind → Value → List (List ℕ)
value_parts k Value.nothing = (0xC0 ∷ []) ∷ []
value_parts k (Value.number z) = whole_parts z
value_parts k (Value.figure x) = real_parts x
value_parts k (Value.mark b) = mark_parts b
value_parts k (Value.position x y z) = position_parts x y z
value_parts k (Value.string d) = either (as_array k) (λ _. numbers_parts d) (λ _. text_parts d)
value_parts k (Value.counts ns) = numbers_parts ns
value_parts k (Value.strings ds) = pieces_parts ds
value_parts k (Value.release a b c) = version_parts a b c

numbers_bytes : (d : List ℕ) → joined (number_parts d) ≡ bytes_of_all (number_trees d)
unfolding joined number_parts number_trees bytes_of
numbers_bytes [] = refl
numbers_bytes (b ∷ d) = ap (λ (l : List ℕ). bytes_of (whole_tree (pos b)) ++ l) (numbers_bytes d)

text_bytes : (d : List ℕ) → joined (text_parts d) ≡ bytes_of (text_tree d)
unfolding joined bytes_of text_tree
text_bytes d = ap (λ (l : List ℕ). head_bytes (text_head (length d)) ++ l) (append-nil d)

octets_bytes : (d : List ℕ) → joined (numbers_parts d) ≡ bytes_of (numbers_tree d)
unfolding joined bytes_of array_tree
octets_bytes d = ap₂ (λ (n : ℕ) (l : List ℕ). head_bytes (array_head n) ++ l) (sym (numbers_parts_lem d)) (numbers_bytes d)

pieces_bytes : (ds : List (List ℕ)) → joined (piece_parts ds) ≡ bytes_of_all (piece_trees ds)
unfolding joined piece_parts piece_trees bytes_of
pieces_bytes [] = refl
pieces_bytes (d ∷ ds) =
    joined_join (numbers_parts d) (piece_parts ds) ∙ ap₂ (λ (a b : List ℕ). a ++ b) (octets_bytes d) (pieces_bytes ds)

value_bytes : (k : Kind) (v : Value) → joined (value_parts k v) ≡ bytes_of (tree_of k v)
unfolding joined tree_of bytes_of array_tree part_count
value_bytes k Value.nothing = refl
value_bytes k (Value.number z) = append-nil (bytes_of (whole_tree z))
value_bytes k (Value.figure x) = append-nil _
value_bytes k (Value.mark b) = append-nil _
value_bytes k (Value.position x y z) = refl
value_bytes k (Value.string d) = go (as_array k)
  where
    go : (b : Bool) → joined (either b (λ _. numbers_parts d) (λ _. text_parts d)) ≡ bytes_of (either b (λ _. numbers_tree d) (λ _. text_tree d))
    go true = octets_bytes d
    go false = text_bytes d
value_bytes k (Value.counts ns) = octets_bytes ns
value_bytes k (Value.strings ds) = ap₂ (λ (n : ℕ) (l : List ℕ). head_bytes (array_head n) ++ l) (sym (pieces_parts_lem ds)) (pieces_bytes ds)
value_bytes k (Value.release a b c) = text_bytes (version_text a b c)

-- the parts of the fields of a list
abbrev pub parts_by : Field → Option Value → List (List ℕ)
parts_by f none = []
parts_by f (some v) = bytes_of (text_tree f.key) ∷ value_parts f.kind v

unfoldable pub parts_from : List Field → (List ℕ → Option Value) → List (List ℕ)
parts_from [] says = []
parts_from (f ∷ l) says = parts_by f (says f.key) ++ parts_from l says

field_bytes : (f : Field) (o : Option Value) (ps : Pairs) → joined (parts_by f o) ++ bytes_of_pairs ps ≡ bytes_of_pairs (pair_by f o ps)
unfolding joined bytes_of
field_bytes f none ps = refl
field_bytes f (some v) ps = ap (λ (l : List ℕ). (bytes_of (text_tree f.key) ++ l) ++ bytes_of_pairs ps) (value_bytes f.kind v)

fields_bytes : (l : List Field) (says : List ℕ → Option Value) → joined (parts_from l says) ≡ bytes_of_pairs (pairs_from l says)
unfolding joined parts_from pairs_from bytes_of
fields_bytes [] says = refl
fields_bytes (f ∷ l) says =
    joined_join (parts_by f (says f.key)) (parts_from l says)
    ∙ ap (λ (x : List ℕ). joined (parts_by f (says f.key)) ++ x) (fields_bytes l says)
    ∙ field_bytes f (says f.key) (pairs_from l says)

-- a field that is there or not, and one that always is
pub maybe_is : (f : Field) (h : Bool) (v : Value) → parts_by f (either h (λ _. some v) (λ _. none)) ≡ pair_part h (bytes_of (text_tree f.key)) (value_parts f.kind v)
unfolding pair_part
maybe_is f true v = refl
maybe_is f false v = refl

pub always_is : (key : List ℕ) (ps : List (List ℕ)) → pair_part true key ps ≡ key ∷ ps
unfolding pair_part
always_is key ps = refl

-- how many pairs are written: as many fields as are said
abbrev pub one_of : Option Value → ℕ
one_of none = 0
one_of (some v) = 1

abbrev pub counts : List Field → (List ℕ → Option Value) → ℕ
counts [] says = 0
counts (f ∷ l) says = one_of (says f.key) + counts l says

pub counted : (l : List Field) (says : List ℕ → Option Value) → pair_count (pairs_from l says) ≡ counts l says
unfolding pairs_from pair_count
counted [] says = refl
counted (f ∷ l) says = go (says f.key) (counted l says)
  where
    go : (o : Option Value) → pair_count (pairs_from l says) ≡ counts l says → pair_count (pair_by f o (pairs_from l says)) ≡ one_of o + counts l says
    go none e = omega (arith, e)
    go (some v) e = omega (arith, e)

pub one_of_lem : (h : Bool) (v : Value) → one_of (either h (λ _. some v) (λ _. none)) ≡ one_if h
one_of_lem true v = refl
one_of_lem false v = refl

-- a text of fewer than 32 bytes has its length in its lead byte
text_is : (d : List ℕ) → length d < 32 → short_text d ≡ bytes_of (text_tree d)
unfolding text_tree text_head bytes_of
text_is d h = rw (lt-ltb (length d) 32 h)

-- command and opId first, then the others
regroup : (k t i z r : List ℕ) → (k ++ (t ++ i)) ++ (z ++ r) ≡ (k ++ t) ++ ((i ++ z) ++ r)
regroup k t i z r = simp append_assoc

module _ (m : Message) (d : List ℕ) (l : List Field) (pss : List (List (List ℕ))) (n : ℕ) where
  pub payload_by : fields_of (command_in m.body) ≡ headed l → n ≡ pair_count (pairs_from (headed l) (says_of m d)) → chained pss ≡ parts_from l (says_of m d)
      → joined (chained (title_parts n (name_at commands (command_in m.body)) m.op_id ∷ pss)) ≡ payload_for m d
  unfolding payload_for map_tree bytes_of text_tree text_head tree_of pairs_from sayings_of part_in chained title_parts joined
  payload_by e c f =
      let says = says_of m d in
      let name = name_at commands (command_in m.body) in
      let k = text "command" in
      let t = short_text name in
      let i = text "opId" in
      let z = bytes_of (whole_tree m.op_id) in
      let r = bytes_of_pairs (pairs_from l says) in
      let few = name_few (command_in m.body) in
      ap (λ (x : List ℕ). head_bytes (map_head n) ++ ((k ++ (t ++ i)) ++ (z ++ x))) (ap joined f ∙ fields_bytes l says)
      ∙ ap (λ (j : ℕ). head_bytes (map_head j) ++ ((k ++ (t ++ i)) ++ (z ++ r))) c
      ∙ ap (λ (x : List ℕ). head_bytes (map_head (pair_count (pairs_from (headed l) says))) ++ x)
      (regroup k t i z r ∙ ap (λ (x : List ℕ). (k ++ x) ++ ((i ++ z) ++ r)) (text_is name (omega arith)))
      ∙ ap (λ (q : List Field). bytes_of (map_tree (pairs_from q says))) (sym e)
