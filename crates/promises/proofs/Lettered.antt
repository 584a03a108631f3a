-- What is read of a payload of bytes: each string in it is of bytes, so the numbers that stand for sixteen bytes or four have their width; and a refusal is a byte.
-- By induction over the pairs of the outer map. Assumes nothing.
use mathlib.Core.Path.{◌≡◌}
use mathlib.Core.{Bool.Bool, Bool.true, Bool.false, Bool.◌&&◌, Option.Option, Option.some, Option.none}
use mathlib.Core.List.{List, [], ◌∷◌, ◌++◌}
use Prim.Native.Nat.{ℕ, zero, suc, ◌-◌, ◌/◌, ◌<◌, max}
use native.Mathlib.Omega.{arith}
use lib.{Dec.eqb, Dec.leb, Dec.ltb, Dec.lit<, IntN.pos, ListN.length}
use lib.Ieee.{Float, binary32, fits}
use borrow.Author.Tests.{leb-true}
use Rattle.octets.specs.{Choice.either, Bytes.IsBytes, Pieces.strung}
use Rattle.octets.proofs.Widths.{big_below}
use Rattle.element.specs.{Lead.Class, Lead.class_of, Tree.Tree, Tree.Tree.leaf, Tree.Tree.array, Tree.Tree.map, Tree.Pairs, Tree.Pairs.end, Tree.Pairs.pair, Tree.bytes_of, Tree.bytes_of_pairs}
use Rattle.element.specs.Meaning.{Element, Elements, Elements.no_more, Elements.more, Fields, Fields.no_field, Fields.field, leaf_of, meaning_of, meaning_of_pairs}
use Rattle.std.specs.Prelude.{Some, None}
use Rattle.number.specs.declared.Number.TheVariants.{Signed, Unsigned, Real}
use Rattle.number.specs.Number.{Found, number_of}
use Rattle.names.specs.Names.{bytes, same_bytes, command_of}
use Rattle.field.specs.Kind.{Kind, Value}
use Rattle.field.specs.Judge.{when, on_some, whole_in, real_in, truth_of, text_of, parts_of, is_table, in_range, naturals_in, octet_in, octets_in, reals_in, pieces_in, three_of, judge}
use Rattle.field.specs.Version.{number_of_part, released, three, cut_at_dots, version_of}
use Rattle.field.specs.Cell.{Said, Cell, judged, cell_of}
use Rattle.message.specs.Fields.{Field, fields_of}
use Rattle.message.specs.Record.{string_of}
use Rattle.message.specs.Reading.{outer_of, again, said_from, said_of, cells_of, gravest, look_in, crossed, command_said}
use Rattle.record.specs.declared.Message.{Message}
use Rattle.record.specs.Record.{bytes_in, body_in, body_of, message_of, data_of, sixteen_in}
use Rattle.refusal.specs.declared.Refusal.TheVariants.{UnknownCommand}
use Rattle.record.specs.Reading.{Reading, refusal_of, reading_unless, reading_as, reading_named, reading_of}
use Rattle.record.proofs.Typed.{Wide, TypedBody, Typed}
use Rattle.record.proofs.Commands.{Command, command, Past.past}
use Rattle.record.proofs.Commands.Command.{con, con_rsp, status_rsp, det, det_rsp, att_prp, det_prp, ul_data, dl_data_que, bare}

-- lists of bytes
no_bytes : IsBytes []
no_bytes k = lit< tt

more_bytes : (b : ℕ) (l : List ℕ) → b < 256 → IsBytes l → IsBytes (b ∷ l)
more_bytes b l h f zero = h
more_bytes b l h f (suc k) = f k

first_bytes : (x y : List ℕ) → IsBytes (x ++ y) → IsBytes x
first_bytes [] y f k = lit< tt
first_bytes (b ∷ x) y f zero = f zero
first_bytes (b ∷ x) y f (suc k) = first_bytes x y (λ i. f (suc i)) k

last_bytes : (x y : List ℕ) → IsBytes (x ++ y) → IsBytes y
last_bytes [] y f = f
last_bytes (b ∷ x) y f = last_bytes x y (λ i. f (suc i))

-- a property of what is there
abbrev Where : {A : Type 0} → (A → Type 0) → Option A → Type 0
Where P none = Unit {0}
Where P (some a) = P a

where_on : {A B : Type 0} (P : A → Type 0) (Q : B → Type 0) (o : Option A) (f : A → Option B) → Where P o → ((a : A) → P a → Where Q (f a)) → Where Q (on_some o f)
where_on P Q none f p g = tt
where_on P Q (some a) f p g = g a p

where_any : {A B : Type 0} (Q : B → Type 0) (o : Option A) (f : A → Option B) → ((a : A) → Where Q (f a)) → Where Q (on_some o f)
where_any Q none f g = tt
where_any Q (some a) f g = g a

-- a value whose string is of bytes, and an element whose text is
abbrev Lettered : Value → Type 0
Lettered v = IsBytes (string_of v)

abbrev Plain : Element → Type 0
Plain e = Where IsBytes (text_of e)

where_when : (b : Bool) (v : Value) → Lettered v → Where Lettered (when b v)
where_when true v f = f
where_when false v f = tt

octet_small : (x : Found) → Where (λ (n : ℕ). n < 256) (octet_in x)
octet_small (Some (Signed z)) = tt
octet_small (Some (Unsigned n)) = go (leb n 255) (λ e. omega (arith, leb-true n 255 e))
  where
    go : (b : Bool) → (b ≡ true → n < 256) → Where (λ (n : ℕ). n < 256) (either b (λ _. some n) (λ _. none))
    go true f = f (λ _. true)
    go false f = tt
octet_small (Some (Real x)) = tt
octet_small None = tt

octets_are : (es : Elements) → Where IsBytes (octets_in es)
unfolding naturals_in
octets_are no_more = no_bytes
octets_are (more e es) =
    where_on (λ (n : ℕ). n < 256) IsBytes (octet_in (number_of e)) _ (octet_small (number_of e))
    (λ n h. where_on IsBytes IsBytes (octets_in es) _ (octets_are es) (λ ns f. more_bytes n ns h f))

three_lettered : (xs : List Float) → Where Lettered (three_of xs)
three_lettered [] = tt
three_lettered (x ∷ []) = tt
three_lettered (x ∷ (y ∷ [])) = tt
three_lettered (x ∷ (y ∷ (z ∷ []))) = no_bytes
three_lettered (x ∷ (y ∷ (z ∷ (w ∷ rest)))) = tt

released_lettered : (a b c : Option ℕ) → Where Lettered (released a b c)
released_lettered (some a) (some b) (some c) = no_bytes
released_lettered (some a) (some b) none = tt
released_lettered (some a) none c = tt
released_lettered none b c = tt

parts_lettered : (ds : List (List ℕ)) → Where Lettered (three ds)
parts_lettered [] = tt
parts_lettered (a ∷ []) = tt
parts_lettered (a ∷ (b ∷ [])) = tt
parts_lettered (a ∷ (b ∷ (c ∷ []))) = released_lettered (number_of_part a) (number_of_part b) (number_of_part c)
parts_lettered (a ∷ (b ∷ (c ∷ (d ∷ rest)))) = tt

version_lettered : (d : List ℕ) → Where Lettered (version_of d)
unfolding version_of
version_lettered d = parts_lettered (cut_at_dots d)

whole_lettered : (lo hi : ℕ) (x : Found) → Where Lettered (whole_in lo hi x)
whole_lettered lo hi (Some (Signed z)) = where_when (in_range lo hi z) (Value.number z) no_bytes
whole_lettered lo hi (Some (Unsigned n)) = where_when (leb n hi) (Value.number (pos n)) no_bytes
whole_lettered lo hi (Some (Real x)) = tt
whole_lettered lo hi None = tt

judge_lettered : (k : Kind) (e : Element) → Plain e → Where Lettered (judge k e)
unfolding judge
judge_lettered (Kind.wholes lo hi) e p = whole_lettered lo hi (number_of e)
judge_lettered Kind.reals e p = where_any Lettered (real_in (number_of e)) _ (λ x. no_bytes)
judge_lettered Kind.singles e p = where_any Lettered (real_in (number_of e)) _ (λ x. where_when (fits binary32 x) (Value.figure x) no_bytes)
judge_lettered Kind.flags e p = where_any Lettered (truth_of e) _ (λ b. no_bytes)
judge_lettered Kind.positions e p = where_any Lettered (parts_of e) _ (λ es. where_any Lettered (reals_in es) three_of three_lettered)
judge_lettered (Kind.arrays lo hi) e p =
    where_any Lettered (parts_of e) _ (λ es. where_on IsBytes Lettered (octets_in es) _ (octets_are es) (λ d f. where_when (leb lo (length d) && leb (length d) hi) (Value.string d) f))
judge_lettered (Kind.counters many) e p =
    where_any Lettered (parts_of e) _ (λ es. where_any Lettered (naturals_in 0xFFFFFFFF es) _ (λ ns. where_when (leb (length ns) many) (Value.counts ns) no_bytes))
judge_lettered (Kind.pieces many most all) e p =
    where_any Lettered (parts_of e) _ (λ es. where_any Lettered (pieces_in most es) _ (λ ds. where_when (leb (length ds) many && leb (length (strung ds)) all) (Value.strings ds) no_bytes))
judge_lettered (Kind.texts lo hi) e p = where_on IsBytes Lettered (text_of e) _ p (λ d f. where_when (leb lo (length d) && leb (length d) hi) (Value.string d) f)
judge_lettered Kind.versions e p = where_any Lettered (text_of e) version_of version_lettered
judge_lettered Kind.words e p = where_any Lettered (text_of e) _ (λ d. no_bytes)
judge_lettered Kind.maps e p = where_when (is_table e) Value.nothing no_bytes

-- what is said of a key, and the cells of a list
abbrev PlainSaid : Said → Type 0
PlainSaid Said.absent = Unit {0}
PlainSaid (Said.once e) = Plain e
PlainSaid Said.twice = Unit {0}

abbrev Clean : Cell → Type 0
Clean c = IsBytes (bytes_in c)

cell_clean : (k : Kind) (s : Said) → PlainSaid s → Clean (cell_of k s)
cell_clean k Said.absent p = no_bytes
cell_clean k (Said.once e) p = go (judge k e) (judge_lettered k e p)
  where
    go : (o : Option Value) → Where Lettered o → Clean (judged o)
    go none f = no_bytes
    go (some v) f = f
cell_clean k Said.twice p = no_bytes

look_clean : (said : List ℕ → Said) → ((u : List ℕ) → PlainSaid (said u)) → (l : List Field) (d : Cell) → Clean d → (u : List ℕ) → Clean (look_in d l (cells_of l said) u)
unfolding look_in cells_of
look_clean said p [] d f u = f
look_clean said p (g ∷ l) d f u = look_clean said p l _ (go (same_bytes g.key u)) u
  where
    go : (b : Bool) → Clean (either b (λ _. cell_of g.kind (said g.key)) (λ _. d))
    go true = cell_clean g.kind (said g.key) (p g.key)
    go false = f

abbrev PlainFields : Fields → Type 0
PlainFields no_field = Unit {0}
PlainFields (field u e fs) = Plain e × PlainFields fs

said_plain : (k : List ℕ) (x : Said) (fs : Fields) → PlainSaid x → PlainFields fs → PlainSaid (said_from k x fs)
unfolding said_from
said_plain k x no_field p f = p
said_plain k x (field u e fs) p f = said_plain k (either (same_bytes k u) (λ _. again e x) (λ _. x)) fs (go (same_bytes k u) x p) f.1
  where
    go : (b : Bool) (x : Said) → PlainSaid x → PlainSaid (either b (λ _. again e x) (λ _. x))
    go true Said.absent p = f.0
    go true (Said.once d) p = tt
    go true Said.twice p = tt
    go false x p = p

-- the pairs of a payload's outer map
leaf_plain : (c : Class) (b : ℕ) (d : List ℕ) → IsBytes d → Plain (leaf_of c b d)
leaf_plain Class.small b d f = tt
leaf_plain Class.map b d f = tt
leaf_plain Class.array b d f = tt
leaf_plain Class.text b d f = f
leaf_plain Class.nil b d f = tt
leaf_plain Class.never b d f = tt
leaf_plain Class.bool b d f = tt
leaf_plain Class.bin b d f = tt
leaf_plain Class.ext b d f = tt
leaf_plain Class.float32 b d f = tt
leaf_plain Class.float64 b d f = tt
leaf_plain Class.unsigned b d f = tt
leaf_plain Class.signed b d f = tt

tree_plain : (t : Tree) → IsBytes (bytes_of t) → Plain (meaning_of t)
unfolding bytes_of meaning_of
tree_plain (leaf b l d) f = leaf_plain (class_of b) b d (last_bytes (b ∷ l) d f)
tree_plain (array b l ts) f = tt
tree_plain (map b l ps) f = tt

pairs_plain : (ps : Pairs) → IsBytes (bytes_of_pairs ps) → PlainFields (meaning_of_pairs ps)
unfolding bytes_of_pairs meaning_of_pairs
pairs_plain end f = tt
pairs_plain (pair k v ps) f = (
  tree_plain v (last_bytes (bytes_of k) (bytes_of v) (first_bytes (bytes_of k ++ bytes_of v) (bytes_of_pairs ps) f)),
  pairs_plain ps (last_bytes (bytes_of k ++ bytes_of v) (bytes_of_pairs ps) f),
)

leaf_outer : (c : Class) (b : ℕ) (d : List ℕ) → PlainFields (outer_of (leaf_of c b d))
leaf_outer Class.small b d = tt
leaf_outer Class.map b d = tt
leaf_outer Class.array b d = tt
leaf_outer Class.text b d = tt
leaf_outer Class.nil b d = tt
leaf_outer Class.never b d = tt
leaf_outer Class.bool b d = tt
leaf_outer Class.bin b d = tt
leaf_outer Class.ext b d = tt
leaf_outer Class.float32 b d = tt
leaf_outer Class.float64 b d = tt
leaf_outer Class.unsigned b d = tt
leaf_outer Class.signed b d = tt

outer_plain : (t : Tree) → IsBytes (bytes_of t) → PlainFields (outer_of (meaning_of t))
unfolding bytes_of meaning_of
outer_plain (leaf b l d) f = leaf_outer (class_of b) b d
outer_plain (array b l ts) f = tt
outer_plain (map b l ps) f = pairs_plain ps (last_bytes (b ∷ l) (bytes_of_pairs ps) f)

-- the record of cells that are clean
module _ (look : List ℕ → Cell) (clean : (u : List ℕ) → Clean (look u)) where
  wide : (u : List ℕ) → Wide (sixteen_in (look u))
  wide u = record { high = big_below (bytes_in (look u)) (clean u) 0 8; low = big_below (bytes_in (look u)) (clean u) 8 8 }

  body_typed : {c : ℕ} → Command c → TypedBody (body_of c look)
  unfolding body_in
  body_typed con = wide (bytes "snBsUuid")
  body_typed con_rsp = wide (bytes "snScUuid")
  body_typed status_rsp = tt
  body_typed det = (wide (bytes "profile"), big_below (bytes_in (look (bytes "sign"))) (clean (bytes "sign")) 0 4)
  body_typed det_rsp = big_below (bytes_in (look (bytes "sign"))) (clean (bytes "sign")) 0 4
  body_typed att_prp = wide (bytes "nwkSnKey")
  body_typed det_prp = tt
  body_typed ul_data = wide (bytes "profile")
  body_typed dl_data_que = tt
  body_typed (bare (past i) e) = rw e tt

  message_typed : (c : ℕ) → Typed (message_of c look)
  unfolding message_of
  message_typed c = body_typed (command c)

-- a reading: its record has the widths of its type
abbrev pub Proper : Reading → Type 0
Proper (Reading.refused r) = Unit {0}
Proper (Reading.reads m d) = Typed m

unless_proper : (g : ℕ) (m : Message) (d : List ℕ) → Typed m → Proper (reading_unless g m d)
unless_proper g m d t = go (eqb g 0)
  where
    go : (b : Bool) → Proper (either b (λ _. Reading.reads m d) (λ _. Reading.refused (refusal_of (g / 64))))
    go true = t
    go false = tt

module _ (said : List ℕ → Said) (p : (u : List ℕ) → PlainSaid (said u)) where
  as_proper : (c : ℕ) → Proper (reading_as c said)
  unfolding reading_as
  as_proper c =
      let l = fields_of c in
      let look = look_in Cell.missing l (cells_of l said) in
      unless_proper (max (gravest 0 0 l (cells_of l said)) (crossed l look)) (message_of c look) (data_of c look) (message_typed look (look_clean said p l Cell.missing no_bytes) c)

  named_proper : (o : Option (List ℕ)) → Proper (reading_named o said)
  named_proper none = tt
  named_proper (some n) = go (ltb (command_of n) 24)
    where
      go : (b : Bool) → Proper (either b (λ _. reading_as (command_of n) said) (λ _. Reading.refused UnknownCommand))
      go true = as_proper (command_of n)
      go false = tt

pub reading_proper : (t : Tree) → IsBytes (bytes_of t) → Proper (reading_of (outer_of (meaning_of t)))
unfolding reading_of
reading_proper t f =
    let fs = outer_of (meaning_of t) in
    named_proper (λ k. said_of k fs) (λ k. said_plain k Said.absent fs tt (outer_plain t f)) (command_said (said_of (bytes "command") fs))
