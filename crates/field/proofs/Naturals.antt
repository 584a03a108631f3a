-- Counters: parts that are numbers from 0 to hi, each read as a whole number. Whether those that are left are such numbers is whether all are.
-- Each law in the shape of a need of the code. Assumes nothing.
use mathlib.Core.Path.{◌≡◌, refl, sym, ap, ap₂, ◌∙◌}
use mathlib.Core.{Bool.Bool, Bool.true, Bool.false, List.List, List.[], List.◌∷◌, Option.Option, Option.some, Option.none}
use Prim.Native.Nat.{ℕ, suc, ◌+◌, ◌-◌, ◌≤◌, ◌<◌}
use native.Mathlib.Nat.{sub-zero}
use native.Mathlib.Omega.{arith}
use lib.{Dec.leb, IntN.pos, IntN.negsuc, ListN.length}
use lib.Ieee.{Format, binary32, binary64, of_bits}
use borrow.Author.Tests.{le-leb, lt-leb}
use Rattle.octets.specs.Choice.{either}
use Rattle.octets.proofs.Ranges.{true_false}
use Rattle.element.specs.{Form.span_of, Meaning.Element, Meaning.Elements, Code.At.leaf_at}
use Rattle.element.specs.Meaning.Element.{null, truth, whole, single, double, text, octets, typed, list, table}
use Rattle.number.specs.declared.Number.TheVariants.{Real}
use Rattle.std.specs.Prelude.{Option as Answer, Some, None}
use Rattle.number.specs.Number.{Found, finite, number_of}
use Rattle.field.specs.declared.Extent.{Extent}
use Rattle.field.specs.{Kind.Kind, Kind.Value, Cell.word_of, Code.Extent.Lists, Code.Item.is_some, Code.Item.naturals_from}
use Rattle.field.specs.Judge.{when, on_some, whole_in, natural_in, naturals_in, counts_sized, judge}
use Rattle.field.specs.Code.{At.end_of, At.leaves_from, At.shallow_at, Read.tell, Read.read_at}
use Rattle.field.proofs.{Numbers.number_there, Arrays.length_naturals, Arrays.by_parts}

-- a whole number from 0 to hi, as it is told
abbrev given_of : Option ℕ → Answer ℕ
given_of none = None
given_of (some n) = Some n

told_upto : (n : ℕ) (t : Bool) → tell word_of (when t (Value.number (pos n))) ≡ given_of (either t (λ _. some n) (λ _. none))
unfolding tell
told_upto n true = refl
told_upto n false = refl

told_real : (hi : ℕ) (f : Format) (n : ℕ) (t : Bool)
    → tell word_of (whole_in 0 hi (either t (λ _. Some (Real (of_bits f n))) (λ _. None))) ≡ given_of (natural_in hi (either t (λ _. Some (Real (of_bits f n))) (λ _. None)))
unfolding tell
told_real hi f n true = refl
told_real hi f n false = refl

told_natural : (hi : ℕ) (e : Element) → tell word_of (whole_in 0 hi (number_of e)) ≡ given_of (natural_in hi (number_of e))
unfolding tell
told_natural hi null = refl
told_natural hi (truth b) = refl
told_natural hi (whole (pos n)) = told_upto n (leb n hi)
told_natural hi (whole (negsuc k)) = rw (lt-leb (suc k) 0 (omega arith))
told_natural hi (single n) = told_real hi binary32 n (finite binary32 n)
told_natural hi (double n) = told_real hi binary64 n (finite binary64 n)
told_natural hi (text d) = refl
told_natural hi (octets d) = refl
told_natural hi (typed t d) = refl
told_natural hi (list es) = refl
told_natural hi (table fs) = refl

module _ (hi : ℕ) (s : List ℕ) (q : ℕ) (c : Answer ℕ) (e : c ≡ read_at word_of (Kind.wholes 0 hi) s q) where
  told_is : c ≡ given_of (natural_in hi (number_of (leaf_at s q)))
  unfolding read_at judge
  told_is =
      e ∙ told_natural hi (shallow_at s q) ∙ ap (λ (x : Found). given_of (natural_in hi x)) (number_there s q)

  pub natural_good : (x : ℕ) → c ≡ Some x → natural_in hi (number_of (leaf_at s q)) ≡ some x
  natural_good x g = go (natural_in hi (number_of (leaf_at s q))) refl
    where
      go : (o : Option ℕ) → natural_in hi (number_of (leaf_at s q)) ≡ o → natural_in hi (number_of (leaf_at s q)) ≡ some x
      go none h = absurd (let z : ◌≡◌ {A = ℕ} 0 1 = cc (g, told_is, ap given_of h) in omega arith)
      go (some y) h = let z : y ≡ x = cc (g, told_is, ap given_of h) in h ∙ ap some z

  pub natural_bad : c ≡ None → natural_in hi (number_of (leaf_at s q)) ≡ none
  natural_bad g = go (natural_in hi (number_of (leaf_at s q))) refl
    where
      go : (o : Option ℕ) → natural_in hi (number_of (leaf_at s q)) ≡ o → natural_in hi (number_of (leaf_at s q)) ≡ none
      go none h = h
      go (some y) h = absurd (let z : ◌≡◌ {A = ℕ} 0 1 = cc (g, told_is, ap given_of h) in omega arith)

-- one part more in front
abbrev pub more : Option ℕ → Option (List ℕ) → Option (List ℕ)
more o m = on_some o (λ n. on_some m (λ ns. some (n ∷ ns)))

pub naturals_more : (hi : ℕ) (s : List ℕ) (k q : ℕ) → 0 < k → naturals_from hi s k q ≡ more (natural_in hi (number_of (leaf_at s q))) (naturals_from hi s (k - 1) (end_of q (span_of s q)))
unfolding naturals_from naturals_in leaves_from
naturals_more hi s k q p =
    let j : k ≡ suc (k - 1) = omega arith in
    ap (λ (n : ℕ). naturals_from hi s n q) j

pub naturals_zero : (hi : ℕ) (s : List ℕ) (k q : ℕ) → k ≤ 0 → naturals_from hi s k q ≡ some []
unfolding naturals_from naturals_in leaves_from
naturals_zero hi s k q h =
    let z : k ≡ 0 = omega arith in
    ap (λ (n : ℕ). naturals_from hi s n q) z

is_more : (n : ℕ) (m : Option (List ℕ)) → is_some m ≡ is_some (more (some n) m)
is_more n none = refl
is_more n (some ns) = refl

-- one part, of those that are left
module _ (hi : ℕ) (s : List ℕ) (n i q : ℕ) (t : Bool) (g : is_some (naturals_from hi s (n - i) q) ≡ t) where
  module _ (c : Answer ℕ) (p : i < n) (e : c ≡ read_at word_of (Kind.wholes 0 hi) s q) where
    front : (o : Option ℕ) → natural_in hi (number_of (leaf_at s q)) ≡ o → is_some (more o (naturals_from hi s (n - (i + 1)) (end_of q (span_of s q)))) ≡ t
    front o h =
        let z : n - i - 1 ≡ n - (i + 1) = omega arith in
        sym (ap is_some (naturals_more hi s (n - i) q (omega arith) ∙ ap₂ (λ (k : ℕ) (m : Option ℕ). more m (naturals_from hi s k (end_of q (span_of s q)))) z h)) ∙ g

    pub count_next : (x : ℕ) → c ≡ Some x → (next : ℕ) → next ≡ end_of q (span_of s q) → is_some (naturals_from hi s (n - (i + 1)) next) ≡ t
    count_next x h next f =
        ap (λ (m : ℕ). is_some (naturals_from hi s (n - (i + 1)) m)) f ∙ is_more x (naturals_from hi s (n - (i + 1)) (end_of q (span_of s q))) ∙ front (some x) (natural_good hi s q c e x h)

    count_none : c ≡ None → false ≡ t
    count_none h = front none (natural_bad hi s q c e h)

  count_done : n ≤ i → true ≡ t
  count_done h = sym (ap is_some (naturals_zero hi s (n - i) q (omega arith))) ∙ g

-- what is said of n parts
module _ (hi : ℕ) (s : List ℕ) (n from : ℕ) where
  counts_are : true ≡ is_some (naturals_from hi s n from) → Some n ≡ tell word_of (on_some (naturals_from hi s n from) (counts_sized n))
  unfolding tell
  counts_are = go (naturals_from hi s n from) refl
    where
      go : (o : Option (List ℕ)) → naturals_from hi s n from ≡ o → true ≡ is_some o → Some n ≡ tell word_of (on_some o (counts_sized n))
      go none q y = true_false y
      go (some ns) q y =
          let i = length_naturals hi s n from ns q in
          ap (λ (k : ℕ). Some k) (sym i) ∙ sym (simp (le-leb (length ns) n (omega arith)))

  counts_not : false ≡ is_some (naturals_from hi s n from) → None ≡ tell word_of (on_some (naturals_from hi s n from) (counts_sized n))
  unfolding tell
  counts_not = go (naturals_from hi s n from)
    where
      go : (o : Option (List ℕ)) → false ≡ is_some o → None ≡ tell word_of (on_some o (counts_sized n))
      go none y = refl
      go (some ns) y = true_false (sym y)

  module _ (i q : ℕ) (g : is_some (naturals_from hi s (n - i) q) ≡ is_some (naturals_from hi s n from)) where
    pub count_end : n ≤ i → Some n ≡ tell word_of (on_some (naturals_from hi s n from) (counts_sized n))
    count_end h = counts_are (count_done hi s n i q (is_some (naturals_from hi s n from)) g h)

    pub count_stop : (c : Answer ℕ) → i < n → c ≡ read_at word_of (Kind.wholes 0 hi) s q → c ≡ None → None ≡ tell word_of (on_some (naturals_from hi s n from) (counts_sized n))
    count_stop c p f h = counts_not (count_none hi s n i q (is_some (naturals_from hi s n from)) g c p f h)

pub ruleset counts = (sub-zero, count_next, count_end, count_stop, arith)

-- no more than there may be
module _ (hi : ℕ) (s : List ℕ) (n from many : ℕ) where
  counts_few : n ≤ many → on_some (naturals_from hi s n from) (counts_sized n) ≡ on_some (naturals_from hi s n from) (counts_sized many)
  counts_few h = go (naturals_from hi s n from) refl
    where
      go : (o : Option (List ℕ)) → naturals_from hi s n from ≡ o → on_some o (counts_sized n) ≡ on_some o (counts_sized many)
      go none q = refl
      go (some ns) q =
          let i = length_naturals hi s n from ns q in
          simp (le-leb (length ns) n (omega arith), le-leb (length ns) many (omega arith))

  counts_over : many < n → on_some (naturals_from hi s n from) (counts_sized many) ≡ none
  counts_over h = go (naturals_from hi s n from) refl
    where
      go : (o : Option (List ℕ)) → naturals_from hi s n from ≡ o → on_some o (counts_sized many) ≡ none
      go none q = refl
      go (some ns) q = simp (lt-leb (length ns) many (omega (arith, length_naturals hi s n from ns q)))

-- the array at a place
module _ (s : List ℕ) (at : ℕ) (a : Answer Extent) (y : Lists s at a) (many : ℕ) where
  abbrev counted : Elements → Option Value
  counted es = on_some (naturals_in 0xFFFFFFFF es) (counts_sized many)

  pub counters_not : a ≡ None → None ≡ read_at word_of (Kind.counters many) s at
  unfolding read_at judge tell
  counters_not e = ap (tell word_of) (by_parts s at a y None e counted)

  module _ (x : Extent) (e : a ≡ Some x) where
    pub counters_good : x.size ≤ many → (r : Answer ℕ) → r ≡ tell word_of (on_some (naturals_from 0xFFFFFFFF s x.size x.from) (counts_sized x.size)) → r ≡ read_at word_of (Kind.counters many) s at
    unfolding read_at judge naturals_from
    counters_good h r q =
        q ∙ ap (tell word_of) (counts_few 0xFFFFFFFF s x.size x.from many h ∙ by_parts s at a y (Some x) e counted)

    pub counters_many : many < x.size → None ≡ read_at word_of (Kind.counters many) s at
    unfolding read_at judge naturals_from tell
    counters_many h =
        ap (tell word_of) (sym (counts_over 0xFFFFFFFF s x.size x.from many h) ∙ by_parts s at a y (Some x) e counted)

pub ruleset counters = (counters_good, counters_many, counters_not, arith)
