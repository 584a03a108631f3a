-- Positions: three reals behind each other, and no fewer or more. Each law in the shape of a need of the code. Assumes nothing.
use mathlib.Core.Path.{◌≡◌, refl, sym, ap, ◌∙◌}
use mathlib.Core.{List.List, List.[], List.◌∷◌, Option.Option, Option.some, Option.none}
use Prim.Native.Nat.{ℕ, zero, suc}
use lib.Ieee.{Float}
use Rattle.element.specs.{Form.span_of, Meaning.Elements, Code.At.leaf_at}
use Rattle.number.specs.Number.{number_of}
use Rattle.std.specs.Prelude.{Option as Answer, Some, None}
use Rattle.field.specs.declared.{Extent.Extent, Position.Position, Measure.Measure}
use Rattle.field.specs.{Kind.Kind, Kind.Value, Code.At.end_of, Code.At.leaves_from, Cell.figure_of, Cell.position_of}
use Rattle.field.specs.Code.Extent.{Lists}
use Rattle.field.specs.Judge.{on_some, real_in, reals_in, three_of, judge}
use Rattle.field.specs.Code.Item.{measure_by, measure_at, reals_from}
use Rattle.field.specs.Code.Read.{tell, read_at}
use Rattle.field.proofs.{Arrays.by_parts, Reals.read_some, Reals.read_none}

-- one real
module _ (s : List ℕ) (at : ℕ) (a : Answer Float) (e : a ≡ read_at figure_of Kind.reals s at) where
  pub measure_there : (x : Float) (next : ℕ) → a ≡ Some x → next ≡ end_of at (span_of s at) → Some (record { x = x; next = next }) ≡ measure_at s at
  unfolding measure_at
  measure_there x next g p = ap (measure_by (some x)) p ∙ sym (rw (read_some s at a e x g))

  pub measure_none : a ≡ None → None ≡ measure_at s at
  unfolding measure_at
  measure_none g = sym (rw (read_none s at a e g))

pub ruleset measures = (measure_there, measure_none)

-- three of them: each is looked for behind the one before, if that is there
abbrev after : Answer Measure → (Measure → Option (List Float)) → Option (List Float)
after None f = none
after (Some m) f = f m

abbrev front : Float → Option (List Float) → Option (List Float)
front x o = on_some o (λ xs. some (x ∷ xs))

module _ (s : List ℕ) where
  more_reals : (n at : ℕ) → reals_from s (suc n) at ≡ after (measure_at s at) (λ m. front m.x (reals_from s n m.next))
  unfolding measure_at reals_from reals_in leaves_from
  more_reals n at = go (real_in (number_of (leaf_at s at)))
    where
      go : (o : Option Float) → on_some o (λ x. front x (reals_in (leaves_from s n (end_of at (span_of s at)))))
          ≡ after (measure_by o (end_of at (span_of s at))) (λ m. front m.x (reals_in (leaves_from s n m.next)))
      go none = refl
      go (some x) = refl

  no_reals : (at : ℕ) → reals_from s 0 at ≡ some []
  unfolding reals_from reals_in leaves_from
  no_reals at = refl

  -- a real more, and none
  real_more : (n at : ℕ) (a : Answer Measure) → a ≡ measure_at s at → (m : Measure) → a ≡ Some m → reals_from s (suc n) at ≡ front m.x (reals_from s n m.next)
  real_more n at a e m y = more_reals n at ∙ ap (λ (i : Answer Measure). after i (λ m. front m.x (reals_from s n m.next))) (sym e ∙ y)

  real_stop : (n at : ℕ) (a : Answer Measure) → a ≡ measure_at s at → a ≡ None → reals_from s (suc n) at ≡ none
  real_stop n at a e y = more_reals n at ∙ ap (λ (i : Answer Measure). after i (λ m. front m.x (reals_from s n m.next))) (sym e ∙ y)

  module _ (from : ℕ) where
    abbrev said : Option (List Float) → Answer Position
    said o = tell position_of (on_some o three_of)

    module _ (a : Answer Measure) (e : a ≡ measure_at s from) where
      pub first_none : a ≡ None → None ≡ tell position_of (on_some (reals_from s 3 from) three_of)
      unfolding tell
      first_none y = sym (ap said (real_stop 2 from a e y))

      module _ (p : Measure) (f : a ≡ Some p) (b : Answer Measure) (g : b ≡ measure_at s p.next) where
        pub second_none : b ≡ None → None ≡ tell position_of (on_some (reals_from s 3 from) three_of)
        unfolding tell
        second_none y = sym (ap said (real_more 2 from a e p f ∙ ap (front p.x) (real_stop 1 p.next b g y)))

        module _ (q : Measure) (h : b ≡ Some q) (c : Answer Measure) (i : c ≡ measure_at s q.next) where
          pub third_none : c ≡ None → None ≡ tell position_of (on_some (reals_from s 3 from) three_of)
          unfolding tell
          third_none y = sym (ap said (real_more 2 from a e p f ∙ ap (front p.x) (real_more 1 p.next b g q h ∙ ap (front q.x) (real_stop 0 q.next c i y))))

          pub three_there : (r : Measure) → c ≡ Some r → Some (record { latitude = p.x; longitude = q.x; altitude = r.x }) ≡ tell position_of (on_some (reals_from s 3 from) three_of)
          unfolding tell
          three_there r y =
              sym (ap said (real_more 2 from a e p f ∙ ap (front p.x) (real_more 1 p.next b g q h ∙ ap (front q.x) (real_more 0 q.next c i r y ∙ ap (front r.x) (no_reals r.next)))))

pub ruleset threes = (first_none, second_none, third_none, three_there)

-- no other number of them is a position
one : (a : Option Float) → on_some (on_some a (λ x. some (x ∷ []))) three_of ≡ none
one none = refl
one (some x) = refl

two : (a b : Option Float) → on_some (on_some a (λ x. on_some (on_some b (λ y. some (y ∷ []))) (λ ys. some (x ∷ ys)))) three_of ≡ none
two none b = refl
two (some x) none = refl
two (some x) (some y) = refl

many : (a b c d : Option Float) (r : Option (List Float)) → on_some (on_some a (λ x. on_some (on_some b (λ y. on_some (on_some c (λ z. on_some (on_some d (λ w. on_some r (λ ws. some (w ∷ ws)))) (λ zs. some (z ∷ zs)))) (λ ys. some (y ∷ ys)))) (λ xs. some (x ∷ xs)))) three_of ≡ none
many none b c d r = refl
many (some x) none c d r = refl
many (some x) (some y) none d r = refl
many (some x) (some y) (some z) none r = refl
many (some x) (some y) (some z) (some w) none = refl
many (some x) (some y) (some z) (some w) (some ws) = refl

abbrev found : List ℕ → ℕ → Option Float
found s at = real_in (number_of (leaf_at s at))

abbrev behind : List ℕ → ℕ → ℕ
behind s at = end_of at (span_of s at)

not_three : (s : List ℕ) (n at : ℕ) → (n ≡ 3 → ⊥) → on_some (reals_from s n at) three_of ≡ none
unfolding reals_from reals_in leaves_from
not_three s zero at h = refl
not_three s (suc zero) at h = one (found s at)
not_three s (suc (suc zero)) at h = two (found s at) (found s (behind s at))
not_three s (suc (suc (suc zero))) at h = absurd (h refl)
not_three s (suc (suc (suc (suc n)))) at h =
    many (found s at) (found s (behind s at)) (found s (behind s (behind s at))) (found s (behind s (behind s (behind s at))))
    (reals_in (leaves_from s n (behind s (behind s (behind s (behind s at))))))

module _ (s : List ℕ) (at : ℕ) (a : Answer Extent) (y : Lists s at a) where
  abbrev placed : Elements → Option Value
  placed es = on_some (reals_in es) three_of

  pub located_not : a ≡ None → None ≡ read_at position_of Kind.positions s at
  unfolding read_at judge tell
  located_not e = ap (tell position_of) (by_parts s at a y None e placed)

  module _ (x : Extent) (e : a ≡ Some x) where
    pub located_three : x.size ≡ 3 → (r : Answer Position) → r ≡ tell position_of (on_some (reals_from s 3 x.from) three_of) → r ≡ read_at position_of Kind.positions s at
    unfolding read_at judge reals_from
    located_three k r q =
        q ∙ ap (λ (n : ℕ). tell position_of (on_some (reals_from s n x.from) three_of)) (sym k) ∙ ap (tell position_of) (by_parts s at a y (Some x) e placed)

    pub located_count : (x.size ≡ 3 → ⊥) → None ≡ read_at position_of Kind.positions s at
    unfolding read_at judge reals_from tell
    located_count k = ap (tell position_of) (sym (not_three s x.size x.from k) ∙ by_parts s at a y (Some x) e placed)

pub ruleset locations = (located_three, located_count, located_not)
