-- What is chosen stands at its place and is suitable, for its own EUI; nothing is chosen exactly if no place has a suitable entry.
-- By induction over the places. Assumes nothing.
use mathlib.Core.{Path.◌≡◌, Path.refl, Path.sym, Logic.◌↔◌}
use Rattle.std.specs.Prelude.{Option, Some, None}
use mathlib.Core.{Bool.Bool, Bool.true, Bool.false, List.[], List.◌∷◌}
use Prim.Native.Nat.{ℕ, zero, suc, ◌<◌}
use native.Mathlib.Omega.{arith}
use lib.ListN.{length, get_or}
use borrow.Author.Tests.{eqb-true}
use Rattle.octets.specs.Choice.{either}
use Rattle.octets.proofs.Truth.{both}
use Rattle.queue.specs.Entry.{Entry, is_suitable, goes_before}
use Rattle.queue.specs.Queue.{Queue, Found, further, ahead, chosen_in, chosen}
use Rattle.queue.proofs.Cases.{none_some, some_is}

module _ (test : Entry → Bool) where
  pub record Stands (q : Queue) (f : Found) : Type 0 where
    pub inside : f.place < length q
    pub there : get_or q f.place None ≡ Some f.entry
    pub passing : test f.entry ≡ true

  abbrev Kept : Queue → Option Found → Type 0
  Kept q None = Unit {0}
  Kept q (Some f) = Stands q f

  first : (q : Queue) (e : Entry) → test e ≡ true → Stands (Some e ∷ q) (record { place = 0; entry = e })
  first q e p = record { inside = omega arith; there = refl; passing = p }

  next : (x : Option Entry) (q : Queue) (o : Option Found) → Kept q o → Kept (x ∷ q) (further o)
  next x q None k = tt
  next x q (Some f) k = record { inside = omega (arith, k.inside); there = k.there; passing = k.passing }

  best : (e : Entry) (q : Queue) (o : Option Found) → test e ≡ true → Kept q o → Kept (Some e ∷ q) (ahead e o)
  best e q None p k = first q e p
  best e q (Some f) p k = go (goes_before f.entry e)
    where
      go : (b : Bool) → Kept (Some e ∷ q) (either b (λ _. further (Some f)) (λ _. Some (record { place = 0; entry = e })))
      go true = next (Some e) q (Some f) k
      go false = first q e p

  kept : (q : Queue) → Kept q (chosen_in test q)
  unfolding chosen_in
  kept [] = tt
  kept (None ∷ q) = next None q (chosen_in test q) (kept q)
  kept (Some e ∷ q) = go (test e) refl (kept q)
    where
      go : (b : Bool) → test e ≡ b → Kept q (chosen_in test q) → Kept (Some e ∷ q) (either b (λ _. ahead e (chosen_in test q)) (λ _. further (chosen_in test q)))
      go true p k = best e q (chosen_in test q) p k
      go false p k = next (Some e) q (chosen_in test q) k

  pub stands : (q : Queue) (f : Found) → chosen_in test q ≡ Some f → Stands q f
  stands q f h = rw h at (kept q)

  -- none passes
  abbrev pub NonePasses : Queue → Type 0
  NonePasses q = (i : ℕ) (e : Entry) → get_or q i None ≡ Some e → test e ≡ false

  none_further : (o : Option Found) → further o ≡ None → o ≡ None
  none_further None h = refl
  none_further (Some f) h = none_some (sym h)

  some_ahead : {A : Type 0} (e : Entry) (o : Option Found) → ahead e o ≡ None → A
  some_ahead e None h = none_some (sym h)
  some_ahead {A} e (Some f) h = go (goes_before f.entry e) h
    where
      go : (b : Bool) → either b (λ _. further (Some f)) (λ _. Some (record { place = 0; entry = e })) ≡ None → A
      go true h = none_some (sym h)
      go false h = none_some (sym h)

  pub none_passes : (q : Queue) → chosen_in test q ≡ None → NonePasses q
  unfolding chosen_in
  none_passes [] h i e s = none_some s
  none_passes (None ∷ q) h zero e s = none_some s
  none_passes (None ∷ q) h (suc i) e s = none_passes q (none_further (chosen_in test q) h) i e s
  none_passes (Some a ∷ q) h i e s = go (test a) refl h i s (none_passes q)
    where
      go : (b : Bool) → test a ≡ b → either b (λ _. ahead a (chosen_in test q)) (λ _. further (chosen_in test q)) ≡ None → (i : ℕ) → get_or (Some a ∷ q) i None ≡ Some e
          → (chosen_in test q ≡ None → NonePasses q) → test e ≡ false
      go true p h i s rest = some_ahead a (chosen_in test q) h
      go false p h zero s rest = rw (← (some_is s)) p
      go false p h (suc i) s rest = rest (none_further (chosen_in test q) h) i e s

  pub none_chosen : (q : Queue) → NonePasses q → chosen_in test q ≡ None
  unfolding chosen_in
  none_chosen [] f = refl
  none_chosen (None ∷ q) f = rw (none_chosen q (λ i. f (suc i)))
  none_chosen (Some a ∷ q) f = rw (f 0 a refl, none_chosen q (λ i. f (suc i)))

module _ (eui k : ℕ) (expected : Bool) (q : Queue) where
  pub own_eui : (f : Found) → chosen eui k expected q ≡ Some f → f.entry.asks.ep_eui ≡ eui
  own_eui f h = eqb-true _ _ (both _ _ (stands (is_suitable eui k expected) q f h).passing).0

  pub nothing_suitable : chosen eui k expected q ≡ None ↔ ((i : ℕ) (e : Entry) → get_or q i None ≡ Some e → is_suitable eui k expected e ≡ false)
  nothing_suitable = (none_passes (is_suitable eui k expected) q, none_chosen (is_suitable eui k expected) q)
