-- What a turn shows that finds a fault, or the end. Assumes nothing.
use mathlib.Core.{Path.◌≡◌, Path.refl, Path.ap, Path.◌∙◌, List.List, List.[], List.◌∷◌}
use mathlib.Core.Bool.{Bool, true, false, ◌&&◌, not}
use Prim.Native.Nat.{ℕ}
use lib.Dec.{eqb}
use Rattle.forms.specs.Code.Put.{put, put_parts}
use Rattle.refusal.specs.declared.Refusal.{Refusal}
use Rattle.refusal.specs.Number.{number_of}
use Rattle.lines.specs.{Turn.Shows, declared.Took.Took}
use Rattle.lines.proofs.Texts.{none_put}
use Rattle.day.specs.{Lines.refused_line, Turn.stops, Turn.refuses, Turn.refuses_between}

pub stopped_shows : (k n : ℕ) (d e : List ℕ) → put e n ≡ put_parts (refused_line k ∷ []) (put d 0) → Shows (stops k) d e (record { used = 0; length = n; ended = true })
stopped_shows k n d e p = record { used = refl; ended = refl; printed = p }

nothing_shows : (r : Took) (u : ℕ) (b : Bool) (d : List ℕ) → r ≡ record { used = u; length = 0; ended = b } → Shows (record { used = u; text = []; ended = b }) d d r
nothing_shows r u b d q = record {
  used = ap (λ (x : Took). x.used) q;
  ended = ap (λ (x : Took). x.ended) q;
  printed = ap (λ (x : Took). put d x.length) q ∙ none_put (put d 0);
}

module _ (last : Bool) (k : Refusal) (d e : List ℕ) (r : Took) where
  pub waiting_shows : (b : Bool) → b ≡ eqb (number_of k) 33 → b && not last ≡ true → r ≡ record { used = 0; length = 0; ended = false } → Shows (refuses last k) d d r
  unfolding refuses
  waiting_shows b f t q = simp (rw f at t) (nothing_shows r 0 false d q)

  pub fault_shows : (b : Bool) → b ≡ eqb (number_of k) 33 → b && not last ≡ false → Shows (stops (number_of k)) d e r → Shows (refuses last k) d e r
  unfolding refuses
  fault_shows b f t h = simp (rw f at t) h

  pub end_shows : (len : ℕ) → eqb len 0 && last ≡ true → Shows (refuses_between last len k) d d (record { used = 0; length = 0; ended = true })
  unfolding refuses_between
  end_shows len t = simp t (nothing_shows _ 0 true d refl)

  pub between_shows : (len : ℕ) → eqb len 0 && last ≡ false → Shows (refuses last k) d e r → Shows (refuses_between last len k) d e r
  unfolding refuses_between
  between_shows len t h = simp t h

pub ruleset turning = (stopped_shows, waiting_shows, fault_shows, end_shows, between_shows)
