-- The bytes that rows say of a key are few: the range says so, or the key is that of a word, of which only `command` has a row, and the names of the
-- commands have at most twelve bytes. So all that they say in its range reads back. Assumes nothing.
use mathlib.Core.Path.{◌≡◌, refl, sym, ap, subst, ◌∙◌}
use mathlib.Core.Bool.{Bool, true, false, not, ◌&&◌}
use mathlib.Core.{List.List, List.[], List.◌∷◌, Option.Option, Option.some, Option.none}
use Prim.Native.Nat.{ℕ, zero, suc, ◌^◌, ◌≤◌, ◌<◌}
use native.Mathlib.Omega.{arith}
use lib.Dec.{T, eqb, leb, leb→le, ltb→lt}
use lib.{ListN.length, Pow.are_bytes}
use borrow.Author.Tests.{eqb-true}
use Rattle.octets.specs.Choice.{either}
use Rattle.octets.proofs.{Ranges.both_left, Ranges.both_right, Ranges.is_false, Ranges.true_false, Truth.some_is, Truth.none_some}
use Rattle.element.specs.Meaning.{meaning_of}
use Rattle.names.specs.Names.{same_bytes, commands, name_at, downlink}
use Rattle.names.proofs.Same.{same_eq}
use Rattle.field.specs.{Kind.Kind, Kind.Value, Judge.judge}
use Rattle.message.specs.{Fields.Field, Fields.fields_of, Record.string_of}
use Rattle.message.proofs.KeyKinds.{kind_by, kind_for}
use Rattle.saying.specs.{Says.Saying, Says.part_in, Fits.is_sized, Fits.in_bounds, Fits.within, Written.tree_of}
use Rattle.saying.proofs.{Rows.says_in, Shown.kept_by, Back.back_of}
use Rattle.saying.proofs.Sorts.{Sorted, sorted, bounds, sized_most, is_held, kind_held}
use Rattle.saying.proofs.Sorts.Sorted.{whole, real, single, flag, position, array, counters, pieces, text, version, word}

-- the names of the commands
abbrev all_few : List (List ℕ) → Bool
all_few [] = true
all_few (n ∷ ns) = leb (length n) 12 && all_few ns

few_in : (ns : List (List ℕ)) → T (all_few ns) → (c : ℕ) → length (name_at ns c) ≤ 12
unfolding name_at
few_in [] t c = omega arith
few_in (n ∷ ns) t zero = leb→le (length n) 12 (both_left (leb (length n) 12) (all_few ns) t)
few_in (n ∷ ns) t (suc c) = few_in ns (both_right (leb (length n) 12) (all_few ns) t) c

pub name_few : (c : ℕ) → length (name_at commands c) ≤ 12
unfolding commands
name_few c = few_in commands tt c

-- the longest message's has nine
abbrev pub name_most : Bool → ℕ
name_most longest = either longest (λ _. 9) (λ _. 12)

pub name_most_lem : (c : ℕ) → length (name_at commands c) ≤ name_most (eqb c downlink)
unfolding commands name_at
name_most_lem c = go (eqb c downlink) refl
  where
    go : (b : Bool) → eqb c downlink ≡ b → length (name_at commands c) ≤ name_most b
    go true e = rw (eqb-true c downlink e) (omega arith)
    go false e = name_few c

pub name_brief : (longest : Bool) → name_most longest < 32
name_brief true = omega arith
name_brief false = omega arith

-- keys of words
abbrev pub is_word : Kind → Bool
is_word (Kind.wholes lo hi) = false
is_word Kind.reals = false
is_word Kind.singles = false
is_word Kind.flags = false
is_word Kind.positions = false
is_word (Kind.arrays lo hi) = false
is_word (Kind.counters many) = false
is_word (Kind.pieces many most all) = false
is_word (Kind.texts lo hi) = false
is_word Kind.versions = false
is_word Kind.words = true
is_word Kind.maps = false

abbrev pub is_word_key : ℕ → List ℕ → Bool
is_word_key c k = is_word (kind_for c k)

-- rows without one under a list, and under a command's
abbrev pub wordless_in : List Field → List Saying → Bool
wordless_in l [] = true
wordless_in l (r ∷ rs) = not (is_word (kind_by l r.key)) && wordless_in l rs

abbrev pub wordless : ℕ → List Saying → Bool
wordless c rs = wordless_in (fields_of c) rs

-- they say nothing of a word
apart_from : (c : ℕ) (r : Saying) (k : List ℕ) → T (not (is_word_key c r.key)) → is_word_key c k ≡ true → same_bytes r.key k ≡ false
apart_from c r k t w = go (same_bytes r.key k) refl
  where
    go : (b : Bool) → same_bytes r.key k ≡ b → same_bytes r.key k ≡ false
    go true e = true_false (sym w ∙ ap (is_word_key c) (sym (same_eq r.key k e)) ∙ sym (is_false (is_word_key c r.key) t))
    go false e = e

unspoken : (c : ℕ) (rs : List Saying) (k : List ℕ) → T (wordless c rs) → is_word_key c k ≡ true → (part_in rs k).said ≡ none
unfolding part_in
unspoken c [] k t w = refl
unspoken c (r ∷ rs) k t w =
    rw (apart_from c r k (both_left (not (is_word_key c r.key)) (wordless c rs) t) w)
    (unspoken c rs k (both_right (not (is_word_key c r.key)) (wordless c rs) t) w)

-- so the first row says it, where no other has such a key
only_first : (c : ℕ) (r : Saying) (rs : List Saying) (k : List ℕ) (v : Value) → T (wordless c rs) → is_word_key c k ≡ true → (part_in (r ∷ rs) k).said ≡ some v → r.part.said ≡ some v
unfolding part_in
only_first c r rs k v t w = go (same_bytes r.key k)
  where
    go : (b : Bool) → (either b (λ _. r.part) (λ _. part_in rs k)).said ≡ some v → r.part.said ≡ some v
    go true e = e
    go false e = none_some (sym (unspoken c rs k t w) ∙ e)

abbrev pub first_of : List Saying → Option Value
first_of [] = none
first_of (r ∷ rs) = r.part.said

abbrev pub others_of : List Saying → List Saying
others_of [] = []
others_of (r ∷ rs) = rs

only_command : (c : ℕ) (rs : List Saying) (k : List ℕ) (v : Value) → T (wordless c (others_of rs)) → is_word_key c k ≡ true → says_in rs k ≡ some v → first_of rs ≡ some v
unfolding part_in
only_command c [] k v t w e = e
only_command c (r ∷ rs) k v t w e = only_first c r rs k v t w e

-- rows that say no more bytes under the key of a word than the command's name has
abbrev pub FewWords : ℕ → List Saying → Type 0
FewWords c rs = (k : List ℕ) (v : Value) → says_in rs k ≡ some v → is_word (kind_for c k) ≡ true → length (string_of v) ≤ length (name_at commands c)

-- a command's name first, and no word behind it
pub few_words : (rs : List Saying) (c : ℕ) → first_of rs ≡ some (Value.string (name_at commands c)) → T (wordless c (others_of rs)) → FewWords c rs
few_words rs c first others k v says w =
    let e : Value.string (name_at commands c) ≡ v = some_is (sym first ∙ only_command c rs k v others w says) in
    subst (λ (x : Value). length (string_of x) ≤ length (name_at commands c)) e (omega arith)

few_by : {n : Kind} {v : Value} → Sorted n v → T (is_held n) → T (in_bounds n v) → (is_word n ≡ true → length (string_of v) ≤ 12) → length (string_of v) < 2 ^ 16
few_by (whole lo hi z) h t w = omega arith
few_by (real x) h t w = omega arith
few_by (single x) h t w = omega arith
few_by (flag b) h t w = omega arith
few_by (counters many ns) h t w = omega arith
few_by (pieces many most all ds) h t w = omega arith
few_by (position x y z) h t w = omega arith
few_by (array lo hi d) h t w =
    omega (arith, ltb→lt hi (2 ^ 16) h, sized_most lo hi d (both_left (is_sized lo hi d) (are_bytes d) t))
few_by (text lo hi d) h t w = omega (arith, ltb→lt hi (2 ^ 16) h, sized_most lo hi d t)
few_by (version a b c) h t w = omega arith
few_by (word d) h t w = omega (arith, w refl)

-- what such rows say of a field whose kind is that of its key
module _ (c : ℕ) (rs : List Saying) (few : FewWords c rs) (f : Field) (v : Value) (agrees : f.kind ≡ kind_for c f.key) (says : says_in rs f.key ≡ some v) where
  pub word_few : is_word f.kind ≡ true → length (string_of v) ≤ length (name_at commands c)
  word_few w = few f.key v says (ap is_word (sym agrees) ∙ w)

  module _ (t : T (within f.kind v)) where
    pub held : T (is_held f.kind)
    held = rw agrees (kind_held c f.key)

    pub field_few : length (string_of v) < 2 ^ 16
    field_few = few_by (sorted f.kind v t) held (bounds f.kind v t) (λ w. omega (arith, word_few w, name_few c))

    -- it reads back
    pub row_back : judge f.kind (meaning_of (tree_of f.kind v)) ≡ some (kept_by f.kind v)
    row_back = let l = field_few in back_of f.kind v held (omega arith) t
