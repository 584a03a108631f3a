-- Demand 3: what makers may change without changing a reading, on trees and without a parser.
use mathlib.Core.{Path.◌≡◌, Bool.true, Bool.false, List.List, List.[], List.◌∷◌, Option.some}
use Rattle.std.specs.Prelude.{ℕ, suc, ◌^◌, ◌≤◌, ◌<◌, ℤ, pos, negsuc, Float}
use Rattle.std.specs.Float.{binary32, binary64}
use Rattle.std.specs.Float.Ieee.{of_bits, Exact.HasValue}
use Rattle.element.specs.{Tree.Tree, Tree.Pairs, Tree.Payload, Tree.Tree.map, Tree.Pairs.pair}
use Rattle.element.specs.Meaning.{Element, Elements, key_of, meaning_of, meaning_of_pairs}
use Rattle.element.specs.Meaning.Element.{whole, single, double, list}
use Rattle.names.specs.Names.{bytes, same_bytes, command_of}
use Rattle.field.specs.{Kind.Kind, Cell.Said}
use Rattle.message.specs.{Fields.Field, Fields.fields_of, Reading.said_of, Reading.command_said}
use Rattle.record.specs.Meant.{Answered, refusal_told, place_told, message_told}

-- a key that none of these fields has
abbrev pub Strange : List Field → List ℕ → Type 0
Strange [] u = Unit {0}
Strange (f ∷ l) u = (same_bytes f.key u ≡ false) × Strange l u

-- every field of that key has that kind
abbrev pub OfKind : Kind → List Field → List ℕ → Type 0
OfKind κ [] u = Unit {0}
OfKind κ (f ∷ l) u = (same_bytes f.key u ≡ true → f.kind ≡ κ) × OfKind κ l u

-- the float x is exactly the whole number z, which is from −2^53 to 2^53; of the two zeros it is plus zero
abbrev pub Exactly : ℤ → Float → Type 0
Exactly (pos n) x = (n ≤ 2 ^ 53) × HasValue x false n 1
Exactly (negsuc k) x = (suc k ≤ 2 ^ 53) × HasValue x true (suc k) 1

-- a whole number and a float 32 or 64 of exactly that number
pub data SameReal : Element → Element → Type 0 where
  same : {e : Element} → SameReal e e
  float32 : {z : ℤ} {n : ℕ} → Exactly z (of_bits binary32 n) → SameReal (whole z) (single n)
  float64 : {z : ℤ} {n : ℕ} → Exactly z (of_bits binary64 n) → SameReal (whole z) (double n)

-- an array's parts, each so
pub data SameReals : Elements → Elements → Type 0 where
  no_more : SameReals Elements.no_more Elements.no_more
  more : {e d : Element} {es ds : Elements} → SameReal e d → SameReals es ds → SameReals (Elements.more e es) (Elements.more d ds)

-- what stands for what in a real field, in prio, and in each of geoLocation's three
pub data StandsFor : Kind → Element → Element → Type 0 where
  real : {e d : Element} → SameReal e d → StandsFor Kind.reals e d
  prio : {e d : Element} → SameReal e d → StandsFor Kind.singles e d
  position : {es ds : Elements} → SameReals es ds → StandsFor Kind.positions (list es) (list ds)

-- pairs of a message of command c, put in another order, with strange pairs put in, with other widths, and with whole numbers for reals; any number of these, and back
pub data Rearranged (c : ℕ) : Pairs → Pairs → Type 0 where
  -- nothing changes
  same : {ps : Pairs} → Rearranged c ps ps
  -- something changes behind a pair
  behind : {k v : Tree} {ps qs : Pairs} → Rearranged c ps qs → Rearranged c (pair k v ps) (pair k v qs)
  -- two pairs change places
  swapped : {k v j w : Tree} {ps : Pairs} → Rearranged c (pair k v (pair j w ps)) (pair j w (pair k v ps))
  -- a pair whose key the command does not have is put in
  added : {k v : Tree} {ps : Pairs} → Strange (fields_of c) (key_of k) → Rearranged c ps (pair k v ps)
  -- a key and a value are written with other widths: they mean the same
  widened : {k v j w : Tree} {ps : Pairs} → key_of k ≡ key_of j → meaning_of v ≡ meaning_of w → Rearranged c (pair k v ps) (pair j w ps)
  -- a whole number is written as a float where a real is meant
  counted : {κ : Kind} {k v w : Tree} {ps : Pairs} → OfKind κ (fields_of c) (key_of k) → StandsFor κ (meaning_of v) (meaning_of w) → Rearranged c (pair k v ps) (pair k w ps)
  next : {ps qs rs : Pairs} → Rearranged c ps qs → Rearranged c qs rs → Rearranged c ps rs
  back : {ps qs : Pairs} → Rearranged c ps qs → Rearranged c qs ps

-- the two defaults: format is 0 when absent, and prio is plus zero, in any of its three forms
pub data Default : List ℕ → Element → Type 0 where
  format : Default (bytes "format") (whole (pos 0))
  prio : Default (bytes "prio") (whole (pos 0))
  prio32 : Default (bytes "prio") (single 0)
  prio64 : Default (bytes "prio") (double 0)

-- and a default that is given once left out
pub data Changed (c : ℕ) : Pairs → Pairs → Type 0 where
  rearranged : {ps qs : Pairs} → Rearranged c ps qs → Changed c ps qs
  left_out : {k v : Tree} {ps : Pairs} → Default (key_of k) (meaning_of v) → said_of (key_of k) (meaning_of_pairs ps) ≡ Said.absent → Changed c (pair k v ps) ps
  next : {ps qs rs : Pairs} → Changed c ps qs → Changed c qs rs → Changed c ps rs
  back : {ps qs : Pairs} → Changed c ps qs → Changed c qs ps

-- a message of one command, which we know
pub record Known (c : ℕ) (ps : Pairs) : Type 0 where
  pub name : List ℕ
  pub said : command_said (said_of (bytes "command") (meaning_of_pairs ps)) ≡ some name
  pub is : command_of name ≡ c
  pub ours : c < 24

-- the payload s, within our limits, is an outer map of these pairs
pub record Carries (s : List ℕ) (ps : Pairs) : Type 0 where
  pub lead : ℕ
  pub size : List ℕ
  pub payload : Payload s (map lead size ps)

-- the same record and lent bytes, or the same refusal; the count of elements may differ
pub record Alike (r q : Answered) : Type 0 where
  pub refusal : refusal_told r.told ≡ refusal_told q.told
  pub place : place_told r.told ≡ place_told q.told
  pub message : message_told r.told ≡ message_told q.told
  pub lent : r.lent ≡ q.lent
