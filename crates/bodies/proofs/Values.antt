-- What a value that a kind takes is: a whole number within the bounds, a mark, a string within its sizes.
-- By the steps of `judge`: each is a test that passed or a part that is there. Assumes nothing.
use mathlib.Core.Path.{◌≡◌, refl, sym, ap, subst, ◌∙◌}
use mathlib.Core.Bool.{Bool, true, false, ◌&&◌}
use mathlib.Core.{List.List, Option.Option, Option.some, Option.none}
use Prim.Native.Nat.{ℕ, ◌≤◌}
use native.Mathlib.Omega.{arith}
use lib.{Dec.leb, IntN.ℤ, IntN.pos, ListN.length}
use borrow.Author.Tests.{leb-true, leb-false, le-leb}
use Rattle.octets.specs.{Choice.either, Bytes.put_at, Pieces.strung}
use Rattle.octets.proofs.Writing.{put_out}
use Rattle.element.specs.Meaning.{Element}
use Rattle.std.specs.Prelude.{Some, None}
use Rattle.number.specs.declared.Number.TheVariants.{Signed, Unsigned, Real}
use Rattle.number.specs.Number.{Found, number_of}
use Rattle.field.specs.{Kind.Kind, Kind.Value, Code.At.string_filled}
use Rattle.field.specs.Judge.{when, on_some, in_range, whole_in, truth_of, text_of, parts_of, naturals_in, octets_in, pieces_in, counts_sized, strings_sized, string_sized, judge}
use Rattle.message.specs.Record.{string_of}

pub data IsWhole (lo hi : ℕ) : Value → Type 0 where
  whole : (z : ℤ) → in_range lo hi z ≡ true → IsWhole lo hi (Value.number z)

pub data IsMark : Value → Type 0 where
  mark : (b : Bool) → IsMark (Value.mark b)

pub data IsString (lo hi : ℕ) : Value → Type 0 where
  string : (d : List ℕ) → lo ≤ length d → length d ≤ hi → IsString lo hi (Value.string d)

-- so many counters, and so many data entries
pub data AreParts (many : ℕ) : Value → Type 0 where
  counts : (ns : List ℕ) → length ns ≤ many → AreParts many (Value.counts ns)
  strings : (ds : List (List ℕ)) → length ds ≤ many → AreParts many (Value.strings ds)

module _ {A : Type 0} where
  never : {B : Type 0} (a : A) → none ≡ some a → B
  never a e = let z : ◌≡◌ {A = ℕ} 0 1 = cc in absurd (omega arith)

  -- a test that passed
  passed : (b : Bool) (x y : A) → either b (λ _. some x) (λ _. none) ≡ some y → (b ≡ true) × (x ≡ y)
  passed true x y e = (refl, cc)
  passed false x y e = never y e

-- a part that is there
module _ {A : Type 0} (f : A → Option Value) (v : Value) where
  through : {B : Type 0} (o : Option A) → on_some o f ≡ some v → ((a : A) → f a ≡ some v → B) → B
  through none e g = never v e
  through (some a) e g = g a e

  -- what a second test asks less
  onward : (o : Option A) (g : A → Option Value) → on_some o f ≡ some v → ((a : A) → f a ≡ some v → g a ≡ some v) → on_some o g ≡ some v
  onward none g e h = never v e
  onward (some a) g e h = h a e

-- whole numbers
whole_is : (lo hi : ℕ) (n : Found) (v : Value) → whole_in lo hi n ≡ some v → IsWhole lo hi v
whole_is lo hi (Some (Signed z)) v e =
    let p = passed (in_range lo hi z) (Value.number z) v e in
    subst (IsWhole lo hi) p.1 (IsWhole.whole z p.0)
whole_is lo hi (Some (Unsigned n)) v e =
    let p = passed (leb n hi) (Value.number (pos n)) v e in
    subst (IsWhole lo hi) p.1 (IsWhole.whole (pos n) p.0)
whole_is lo hi (Some (Real x)) v e = never v e
whole_is lo hi None v e = never v e

-- bytes
first : (a b : Bool) → (a && b) ≡ true → a ≡ true
first true b e = refl
first false b e = e

second : (a b : Bool) → (a && b) ≡ true → b ≡ true
second true b e = e
second false b e = let z : true ≡ b = cc in sym z

module _ (lo hi : ℕ) (d : List ℕ) (v : Value) (e : string_sized lo hi d ≡ some v) where
  held : ((leb lo (length d) && leb (length d) hi) ≡ true) × (Value.string d ≡ v)
  held = passed (leb lo (length d) && leb (length d) hi) (Value.string d) v e

  enough : lo ≤ length d
  enough = leb-true lo (length d) (first (leb lo (length d)) (leb (length d) hi) held.0)

  fits : length d ≤ hi
  fits = leb-true (length d) hi (second (leb lo (length d)) (leb (length d) hi) held.0)

  sized_is : IsString lo hi v
  sized_is = subst (IsString lo hi) held.1 (IsString.string d enough fits)

  -- wider bounds take the same string
  sized_more : (n : ℕ) → hi ≤ n → string_sized 0 n d ≡ some v
  sized_more n h =
      let l = fits in
      simp (le-leb 0 (length d) (omega arith), le-leb (length d) n (omega arith), held.1)

sized_put : (d room : List ℕ) → string_filled (string_sized 0 (length room) d) room ≡ put_at room 0 d
sized_put d room = simp (le-leb 0 (length d) (omega arith)) (go (leb (length d) (length room)) refl)
  where
    go : (b : Bool) → leb (length d) (length room) ≡ b → string_filled (when b (Value.string d)) room ≡ put_at room 0 d
    go true e = refl
    go false e = sym (put_out room 0 d (omega (arith, leb-false (length d) (length room) e)))

counts_sized_lem : (many : ℕ) (ns : List ℕ) (v : Value) → counts_sized many ns ≡ some v → AreParts many v
counts_sized_lem many ns v e =
    let p = passed (leb (length ns) many) (Value.counts ns) v e in
    subst (AreParts many) p.1 (AreParts.counts ns (leb-true (length ns) many p.0))

strings_sized_lem : (many all : ℕ) (ds : List (List ℕ)) (v : Value) → strings_sized many all ds ≡ some v → AreParts many v
strings_sized_lem many all ds v e =
    let p = passed (leb (length ds) many && leb (length (strung ds)) all) (Value.strings ds) v e in
    subst (AreParts many) p.1 (AreParts.strings ds (leb-true (length ds) many (first (leb (length ds) many) (leb (length (strung ds)) all) p.0)))

-- by the kind
module _ (e : Element) (v : Value) where
  pub wholes_are : (lo hi : ℕ) → judge (Kind.wholes lo hi) e ≡ some v → IsWhole lo hi v
  unfolding judge
  wholes_are lo hi h = whole_is lo hi (number_of e) v h

  pub flags_are : judge Kind.flags e ≡ some v → IsMark v
  unfolding judge
  flags_are h = through _ v (truth_of e) h (λ b g. let p : Value.mark b ≡ v = cc in subst IsMark p (IsMark.mark b))

  pub counters_are : (many : ℕ) → judge (Kind.counters many) e ≡ some v → AreParts many v
  unfolding judge
  counters_are many h = through _ v (parts_of e) h (λ es g. through (counts_sized many) v (naturals_in 0xFFFFFFFF es) g (λ ns k. counts_sized_lem many ns v k))

  pub pieces_are : (many most all : ℕ) → judge (Kind.pieces many most all) e ≡ some v → AreParts many v
  unfolding judge
  pieces_are many most all h = through _ v (parts_of e) h (λ es g. through (strings_sized many all) v (pieces_in most es) g (λ ds k. strings_sized_lem many all ds v k))

  module _ (lo hi : ℕ) where
    pub arrays_are : judge (Kind.arrays lo hi) e ≡ some v → IsString lo hi v
    unfolding judge
    arrays_are h = through _ v (parts_of e) h (λ es g. through (string_sized lo hi) v (octets_in es) g (λ d k. sized_is lo hi d v k))

    pub texts_are : judge (Kind.texts lo hi) e ≡ some v → IsString lo hi v
    unfolding judge
    texts_are h = through (string_sized lo hi) v (text_of e) h (λ d k. sized_is lo hi d v k)

    -- and the kind with no lower bound and a higher one takes the same value
    pub arrays_more : (n : ℕ) → hi ≤ n → judge (Kind.arrays lo hi) e ≡ some v → judge (Kind.arrays 0 n) e ≡ some v
    unfolding judge
    arrays_more n l h = onward _ v (parts_of e) _ h (λ es g. onward (string_sized lo hi) v (octets_in es) (string_sized 0 n) g (λ d k. sized_more lo hi d v k n l))

    -- a text fills any room that has space for it
    pub texts_put : judge (Kind.texts lo hi) e ≡ some v → (room : List ℕ) → string_filled (judge (Kind.texts 0 (length room)) e) room ≡ put_at room 0 (string_of v)
    unfolding judge
    texts_put h room = go (text_of e) h
      where
        go : (o : Option (List ℕ)) → on_some o (string_sized lo hi) ≡ some v → string_filled (on_some o (string_sized 0 (length room))) room ≡ put_at room 0 (string_of v)
        go none h = never v h
        go (some d) h = sized_put d room ∙ ap (λ (x : Value). put_at room 0 (string_of x)) (held lo hi d v h).1
