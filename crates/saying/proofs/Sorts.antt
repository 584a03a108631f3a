-- A value in its range is of its kind's sort, so that laws over kinds go by one case a kind; and the kinds of document 01 are no wider than what a
-- whole, an array and a text are written in, by one computed test. Assumes nothing.
use mathlib.Core.{Path.subst, List.List, List.[], List.◌∷◌}
use mathlib.Core.Bool.{Bool, true, false, ◌&&◌}
use Prim.Native.Nat.{ℕ, ◌^◌, ◌≤◌}
use lib.Dec.{T, eqb, eqb→eq, leb, leb→le, ltb}
use lib.{IntN.ℤ, Ieee.Float, ListN.length}
use Rattle.octets.specs.Choice.{either}
use Rattle.octets.proofs.Ranges.{both_left, both_right}
use Rattle.names.specs.Names.{same_bytes}
use Rattle.field.specs.Kind.{Kind, Value}
use Rattle.message.specs.Fields.{Field, lists, fields_of}
use Rattle.message.proofs.KeyKinds.{passes, kind_by, kind_for}
use Rattle.saying.specs.Fits.{is_sized, in_bounds, sort_for, sort_of, within}

-- a value by the number of its sort
data Of : ℕ → Value → Type 0 where
  nothing : Of 0 Value.nothing
  number : (z : ℤ) → Of 1 (Value.number z)
  figure : (x : Float) → Of 2 (Value.figure x)
  mark : (b : Bool) → Of 3 (Value.mark b)
  position : (x y z : Float) → Of 4 (Value.position x y z)
  string : (d : List ℕ) → Of 5 (Value.string d)
  counts : (ns : List ℕ) → Of 8 (Value.counts ns)
  strings : (ds : List (List ℕ)) → Of 9 (Value.strings ds)
  release : (a b c : ℕ) → Of 6 (Value.release a b c)

of_sort : (v : Value) → Of (sort_of v) v
of_sort Value.nothing = nothing
of_sort (Value.number z) = number z
of_sort (Value.figure x) = figure x
of_sort (Value.mark b) = mark b
of_sort (Value.position x y z) = position x y z
of_sort (Value.string d) = string d
of_sort (Value.counts ns) = counts ns
of_sort (Value.strings ds) = strings ds
of_sort (Value.release a b c) = release a b c

-- a value of a kind's sort
pub data Sorted : Kind → Value → Type 0 where
  whole : (lo hi : ℕ) (z : ℤ) → Sorted (Kind.wholes lo hi) (Value.number z)
  real : (x : Float) → Sorted Kind.reals (Value.figure x)
  single : (x : Float) → Sorted Kind.singles (Value.figure x)
  flag : (b : Bool) → Sorted Kind.flags (Value.mark b)
  position : (x y z : Float) → Sorted Kind.positions (Value.position x y z)
  array : (lo hi : ℕ) (d : List ℕ) → Sorted (Kind.arrays lo hi) (Value.string d)
  counters : (many : ℕ) (ns : List ℕ) → Sorted (Kind.counters many) (Value.counts ns)
  pieces : (many most all : ℕ) (ds : List (List ℕ)) → Sorted (Kind.pieces many most all) (Value.strings ds)
  text : (lo hi : ℕ) (d : List ℕ) → Sorted (Kind.texts lo hi) (Value.string d)
  version : (a b c : ℕ) → Sorted Kind.versions (Value.release a b c)
  word : (d : List ℕ) → Sorted Kind.words (Value.string d)

by_sort : (k : Kind) (v : Value) → Of (sort_for k) v → Sorted k v
by_sort (Kind.wholes lo hi) v (number z) = whole lo hi z
by_sort Kind.reals v (figure x) = real x
by_sort Kind.singles v (figure x) = single x
by_sort Kind.flags v (mark b) = flag b
by_sort Kind.positions v (position x y z) = position x y z
by_sort (Kind.arrays lo hi) v (string d) = array lo hi d
by_sort (Kind.counters many) v (counts ns) = counters many ns
by_sort (Kind.pieces many most all) v (strings ds) = pieces many most all ds
by_sort (Kind.texts lo hi) v (string d) = text lo hi d
by_sort Kind.versions v (release a b c) = version a b c
by_sort Kind.words v (string d) = word d
by_sort Kind.maps v x' = elim x' [ ]

module _ (k : Kind) (v : Value) (t : T (within k v)) where
  pub sorted : Sorted k v
  unfolding within
  sorted = by_sort k v (subst (λ (n : ℕ). Of n v) (eqb→eq (sort_of v) (sort_for k) (both_left (eqb (sort_of v) (sort_for k)) (in_bounds k v) t)) (of_sort v))

  pub bounds : T (in_bounds k v)
  unfolding within
  bounds = both_right (eqb (sort_of v) (sort_for k)) (in_bounds k v) t

-- bytes of a range are so many
pub sized_most : (lo hi : ℕ) (d : List ℕ) → T (is_sized lo hi d) → length d ≤ hi
sized_most lo hi d t = leb→le (length d) hi (both_right (leb lo (length d)) (leb (length d) hi) t)

pub sized_least : (lo hi : ℕ) (d : List ℕ) → T (is_sized lo hi d) → lo ≤ length d
sized_least lo hi d t = leb→le lo (length d) (both_left (leb lo (length d)) (leb (length d) hi) t)

-- a kind whose values have a form
abbrev pub is_held : Kind → Bool
is_held (Kind.wholes lo hi) = leb lo (2 ^ 63) && ltb hi (2 ^ 64)
is_held Kind.reals = true
is_held Kind.singles = true
is_held Kind.flags = true
is_held Kind.positions = true
is_held (Kind.arrays lo hi) = ltb hi (2 ^ 16)
is_held (Kind.counters many) = ltb many (2 ^ 16)
is_held (Kind.pieces many most all) = ltb many (2 ^ 16) && ltb most (2 ^ 16)
is_held (Kind.texts lo hi) = ltb hi (2 ^ 16)
is_held Kind.versions = true
is_held Kind.words = true
is_held Kind.maps = true

abbrev all_held : List Field → Bool
all_held [] = true
all_held (f ∷ l) = is_held f.kind && all_held l

held_by : (l : List Field) (u : List ℕ) → T (all_held l) → T (is_held (kind_by l u))
held_by [] u t = tt
held_by (f ∷ l) u t = go (same_bytes f.key u) (held_by l u (both_right (is_held f.kind) (all_held l) t))
  where
    go : (b : Bool) → T (is_held (kind_by l u)) → T (is_held (either b (λ _. f.kind) (λ _. kind_by l u)))
    go true h = both_left (is_held f.kind) (all_held l) t
    go false h = h

pub kind_held : (c : ℕ) (u : List ℕ) → T (is_held (kind_for c u))
unfolding lists
kind_held c u = held_by (fields_of c) u (passes all_held tt c)
