-- What an outer map says of a key does not depend on the order of its pairs nor on widths, and a strange pair says nothing of the command's keys; a
-- whole number and the float of it look alike. A pair put in front says something of its own key alone. Assumes nothing.
use mathlib.Core.Path.{◌≡◌, refl, sym, ap, ap₂, subst, ◌∙◌}
use mathlib.Core.Bool.{Bool, true, false}
use mathlib.Core.List.{List}
use Prim.Native.Nat.{ℕ}
use Rattle.octets.specs.Choice.{either}
use Rattle.element.specs.{Tree.Pairs, Meaning.Fields.no_field, Meaning.Fields.field}
use Rattle.element.specs.Meaning.{Element, Fields, key_of, meaning_of, meaning_of_pairs}
use Rattle.octets.proofs.Ranges.{true_false}
use Rattle.names.specs.Names.{same_bytes}
use Rattle.names.proofs.Same.{same_eq}
use Rattle.field.specs.{Kind.Kind, Cell.Said}
use Rattle.message.specs.Fields.{fields_of}
use Rattle.message.specs.Reading.{again, said_from, said_of}
use Rattle.promises.specs.Steady.{Strange, OfKind, StandsFor, Rearranged}

-- one pair more, for a key K
abbrev said_with : List ℕ → List ℕ → Element → Said → Said
said_with K u e x = either (same_bytes K u) (λ _. again e x) (λ _. x)

again_swap : (e d : Element) (x : Said) → again e (again d x) ≡ again d (again e x)
again_swap e d Said.absent = refl
again_swap e d (Said.once y) = refl
again_swap e d Said.twice = refl

with_swap : (a b : Bool) (e d : Element) (x : Said)
    → either a (λ _. again e (either b (λ _. again d x) (λ _. x))) (λ _. either b (λ _. again d x) (λ _. x))
    ≡ either b (λ _. again d (either a (λ _. again e x) (λ _. x))) (λ _. either a (λ _. again e x) (λ _. x))
with_swap true true e d x = again_swap e d x
with_swap true false e d x = refl
with_swap false true e d x = refl
with_swap false false e d x = refl

-- what two messages say of a key, the same as far as `look` looks into an element
module _ {B : Type 0} (look : Element → B) where
  pub data Seen : Said → Said → Type 0 where
    equal : {x y : Said} → x ≡ y → Seen x y
    once : {e d : Element} → look e ≡ look d → Seen (Said.once e) (Said.once d)

  seen_next : {x y z : Said} → Seen x y → Seen y z → Seen x z
  seen_next (equal e) b = rw e b
  seen_next (once p) (equal e) = rw (← e) (once p)
  seen_next (once p) (once q) = once (p ∙ q)

  seen_back : {x y : Said} → Seen x y → Seen y x
  seen_back (equal e) = equal (sym e)
  seen_back (once p) = once (sym p)

  -- what is said behind it
  seen_again : (a : Bool) (e : Element) {x y : Said} → Seen x y → Seen (either a (λ _. again e x) (λ _. x)) (either a (λ _. again e y) (λ _. y))
  seen_again a e (equal p) = equal (ap (λ (x : Said). either a (λ _. again e x) (λ _. x)) p)
  seen_again true e (once p) = equal refl
  seen_again false e (once p) = once p

  seen_from : (K : List ℕ) (fs : Fields) {x y : Said} → Seen x y → Seen (said_from K x fs) (said_from K y fs)
  unfolding said_from
  seen_from K no_field s = s
  seen_from K (field u e fs) s = seen_from K fs (seen_again (same_bytes K u) e s)

  -- one element for another
  seen_for : (e d : Element) → look e ≡ look d → (x : Said) → Seen (again e x) (again d x)
  seen_for e d p Said.absent = once p
  seen_for e d p (Said.once y) = equal refl
  seen_for e d p Said.twice = equal refl

  -- a key of the command's list: every strange key is another, and what stands for its values looks alike
  pub record Ours (c : ℕ) (K : List ℕ) : Type 0 where
    pub strange : (u : List ℕ) → Strange (fields_of c) u → same_bytes K u ≡ false
    pub stands : {κ : Kind} {e d : Element} → OfKind κ (fields_of c) K → StandsFor κ e d → look e ≡ look d

  module _ (c : ℕ) (K : List ℕ) (o : Ours c K) where
    -- what is said of one of our keys looks alike, whatever was said before
    pub rearranged_said : {ps qs : Pairs} → Rearranged c ps qs → (x : Said) → Seen (said_from K x (meaning_of_pairs ps)) (said_from K x (meaning_of_pairs qs))
    unfolding said_from meaning_of
    rearranged_said Rearranged.same x = equal refl
    rearranged_said (Rearranged.behind {k = k} {v = v} r) x = rearranged_said r (said_with K (key_of k) (meaning_of v) x)
    rearranged_said (Rearranged.swapped {k = k} {v = v} {j = j} {w = w} {ps = ps}) x =
        equal (ap (λ (y : Said). said_from K y (meaning_of_pairs ps)) (with_swap (same_bytes K (key_of j)) (same_bytes K (key_of k)) (meaning_of w) (meaning_of v) x))
    rearranged_said (Rearranged.added {k = k} {v = v} {ps = ps} h) x =
        equal (ap (λ (b : Bool). said_from K (either b (λ _. again (meaning_of v) x) (λ _. x)) (meaning_of_pairs ps)) (sym (o.strange (key_of k) h)))
    rearranged_said (Rearranged.widened {ps = ps} e f) x =
        equal (ap₂ (λ (u : List ℕ) (d : Element). said_from K (said_with K u d x) (meaning_of_pairs ps)) e f)
    rearranged_said (Rearranged.counted {κ = κ} {k = k} {v = v} {w = w} {ps = ps} h s) x = seen_from K (meaning_of_pairs ps) (go (same_bytes K (key_of k)) refl)
      where
        go : (b : Bool) → same_bytes K (key_of k) ≡ b → Seen (either b (λ _. again (meaning_of v) x) (λ _. x)) (either b (λ _. again (meaning_of w) x) (λ _. x))
        go true m = seen_for (meaning_of v) (meaning_of w) (o.stands (subst (OfKind κ (fields_of c)) (sym (same_eq K (key_of k) m)) h) s) x
        go false m = equal refl
    rearranged_said (Rearranged.next r t) x = seen_next (rearranged_said r x) (rearranged_said t x)
    rearranged_said (Rearranged.back r) x = seen_back (rearranged_said r x)

-- what was said is never unsaid
abbrev is_said : Said → Bool
is_said Said.absent = false
is_said (Said.once e) = true
is_said Said.twice = true

said_again : (a : Bool) (e : Element) (x : Said) → is_said x ≡ true → is_said (either a (λ _. again e x) (λ _. x)) ≡ true
said_again false e x h = h
said_again true e Said.absent h = refl
said_again true e (Said.once d) h = refl
said_again true e Said.twice h = refl

stays_said : (K : List ℕ) (fs : Fields) (x : Said) → is_said x ≡ true → is_said (said_from K x fs) ≡ true
unfolding said_from
stays_said K no_field x h = h
stays_said K (field u e fs) x h = stays_said K fs (said_with K u e x) (said_again (same_bytes K u) e x h)

-- pairs that say nothing of a key leave what was said before
says_nothing : (K : List ℕ) (fs : Fields) → said_of K fs ≡ Said.absent → (x : Said) → said_from K x fs ≡ x
unfolding said_from
says_nothing K no_field h x = refl
says_nothing K (field u e fs) h x = go (says_nothing K fs) (same_bytes K u) h
  where
    go : (said_of K fs ≡ Said.absent → (x : Said) → said_from K x fs ≡ x) → (b : Bool)
        → said_from K (either b (λ _. again e Said.absent) (λ _. Said.absent)) fs ≡ Said.absent → said_from K (either b (λ _. again e x) (λ _. x)) fs ≡ x
    go rest true h = true_false (sym (stays_said K fs (Said.once e) refl) ∙ ap is_said h)
    go rest false h = rest h x

-- a field put in front of fields that say nothing of its key
module _ (K u : List ℕ) (e : Element) (fs : Fields) where
  pub put_own : same_bytes K u ≡ true → said_of u fs ≡ Said.absent → (said_of K (field u e fs) ≡ Said.once e) × (said_of K fs ≡ Said.absent)
  unfolding said_from
  put_own s a =
      let n : said_of K fs ≡ Said.absent = ap (λ (q : List ℕ). said_of q fs) (same_eq K u s) ∙ a in
      (rw s (says_nothing K fs n (Said.once e)), n)

  pub put_other : same_bytes K u ≡ false → said_of K (field u e fs) ≡ said_of K fs
  unfolding said_from
  put_other s = rw s
