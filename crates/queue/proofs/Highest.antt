-- What is chosen has the highest prio of all that is suitable, and of those the smallest queue ID, at every step of any run: by induction over the places, for
-- prios that are numbers, and no call brings in others. (A NaN beside them would hide what stands behind it.) Assumes nothing.
use mathlib.Core.{Path.◌≡◌, Path.refl, Path.sym, Path.◌∙◌}
use Rattle.std.specs.Prelude.{Option, Some, None}
use mathlib.Core.{Bool.Bool, Bool.true, Bool.false, Bool.◌&&◌, List.List, List.[], List.◌∷◌}
use Prim.Native.Nat.{ℕ, zero, suc, ◌≤◌}
use lib.{Dec.ltb, ListN.get_or, ListN.set, Ieee.lt, Ieee.eq}
use borrow.Author.Tests.{ltb-false}
use Rattle.octets.specs.Choice.{either}
use Rattle.octets.proofs.Ranges.{true_false}
use Rattle.octets.proofs.Truth.{both, neither}
use Rattle.queue.specs.Entry.{Entry, is_suitable, goes_before}
use Rattle.queue.specs.Queue.{Queue, Found, place_of_id, free_place, further, ahead, chosen_in, chosen}
use Rattle.queue.specs.Run.{Call, Stepped, step, after, is_real, AreReal, adds_real, add_real}
use Rattle.queue.proofs.{Cases.by_place, Choosing.stands, Choosing.none_passes}
use Rattle.queue.proofs.Order.{behind_itself, not_both, behind_all}
use Rattle.queue.proofs.Cases.{none_some, some_is}

module _ (test : Entry → Bool) where
  -- all that passes is behind
  abbrev Leads : Queue → Entry → Type 0
  Leads q a = (i : ℕ) (e : Entry) → get_or q i None ≡ Some e → test e ≡ true → goes_before e a ≡ false

  abbrev Led : Queue → Option Found → Type 0
  Led q None = Unit {0}
  Led q (Some f) = Leads q f.entry

  leads_on : (q : Queue) (x : Option Entry) (a : Entry) → ((e : Entry) → x ≡ Some e → test e ≡ true → goes_before e a ≡ false) → Leads q a → Leads (x ∷ q) a
  leads_on q x a h rest zero e s t = h e s t
  leads_on q x a h rest (suc i) e s t = rest i e s t

  passed : (q : Queue) (x : Option Entry) (o : Option Found) → ((e : Entry) → x ≡ Some e → test e ≡ false) → Led q o → Led (x ∷ q) (further o)
  passed q x None h rest = tt
  passed q x (Some f) h rest = leads_on q x f.entry (λ e s t. true_false (sym t ∙ h e s)) rest

  module _ (a : Entry) (q : Queue) (real : AreReal (Some a ∷ q)) where
    itself : (e : Entry) → Some a ≡ Some e → test e ≡ true → goes_before e a ≡ false
    itself e s t = rw (← (some_is s)) (behind_itself a (real 0 a refl))

    first : chosen_in test q ≡ None → Leads (Some a ∷ q) a
    first h = leads_on q (Some a) a itself (λ i e s t. true_false (sym t ∙ none_passes test q h i e s))

    compared : (f : Found) → chosen_in test q ≡ Some f → Leads q f.entry → Led (Some a ∷ q) (ahead a (Some f))
    compared f h rest = go (goes_before f.entry a) refl
      where
        found : is_real f.entry ≡ true
        found = real (suc f.place) f.entry (stands test q f h).there

        go : (b : Bool) → goes_before f.entry a ≡ b → Led (Some a ∷ q) (either b (λ _. further (Some f)) (λ _. Some (record { place = 0; entry = a })))
        go true g = leads_on q (Some a) f.entry (λ e s t. rw (← (some_is s)) (not_both f.entry a found (real 0 a refl) g)) rest
        go false g = leads_on q (Some a) a itself (λ i e s t. behind_all e f.entry (real (suc i) e s) found a (real 0 a refl) (rest i e s t) g)

    best : (o : Option Found) → chosen_in test q ≡ o → Led q o → Led (Some a ∷ q) (ahead a o)
    best None h rest = first h
    best (Some f) h rest = compared f h rest

  led : (q : Queue) → AreReal q → Led q (chosen_in test q)
  unfolding chosen_in
  led [] real = tt
  led (None ∷ q) real = passed q None (chosen_in test q) (λ e s. none_some s) (led q (λ i. real (suc i)))
  led (Some a ∷ q) real = go (test a) refl (led q (λ i. real (suc i)))
    where
      go : (b : Bool) → test a ≡ b → Led q (chosen_in test q) → Led (Some a ∷ q) (either b (λ _. ahead a (chosen_in test q)) (λ _. further (chosen_in test q)))
      go true p rest = best a q real (chosen_in test q) refl rest
      go false p rest = passed q (Some a) (chosen_in test q) (λ e s. rw (← (some_is s)) p) rest

  leads : (q : Queue) → AreReal q → (f : Found) → chosen_in test q ≡ Some f → Leads q f.entry
  leads q real f h = rw h at (led q real)

-- no call brings in what is no number
set_real : (q : Queue) (i : ℕ) (x : Option Entry) → AreReal q → ((e : Entry) → x ≡ Some e → is_real e ≡ true) → AreReal (set q i x)
set_real [] i x real h j e s = real j e s
set_real (y ∷ q) zero x real h zero e s = h e s
set_real (y ∷ q) zero x real h (suc j) e s = real (suc j) e s
set_real (y ∷ q) (suc i) x real h zero e s = real 0 e s
set_real (y ∷ q) (suc i) x real h (suc j) e s = set_real q i x (λ k. real (suc k)) h j e s

abbrev Real : Stepped → Type 0
Real s = AreReal s.queue

step_real : (q : Queue) (c : Call) → AreReal q → adds_real c ≡ true → AreReal (step q c).queue
unfolding step
step_real q (Call.add a) real h =
    by_place Real (place_of_id a.asks.que_id q) _ _ (λ i p. real)
    (λ p. by_place Real (free_place q) _ _ (λ i f. set_real q i (Some a) real (λ e s. rw (← (some_is s)) h)) (λ f. real))
step_real q (Call.cancel id) real h = by_place Real (place_of_id id q) _ _ (λ i p. set_real q i None real (λ e s. none_some s)) (λ p. real)
step_real q (Call.choose eui k expected) real h =
    by_place Real (chosen eui k expected q) _ _ (λ f p. set_real q f.place None real (λ e s. none_some s)) (λ p. real)

pub after_real : (q : Queue) (cs : List Call) → AreReal q → add_real cs ≡ true → AreReal (after q cs)
unfolding after add_real
after_real q [] real h = real
after_real q (c ∷ cs) real h =
    let z = both (adds_real c) (add_real cs) h in
    after_real (step q c).queue cs (step_real q c real z.0) z.1

-- after any run: no suitable entry goes before the one chosen, so none has a higher prio, and none of the same prio has a smaller ID
module _ (q : Queue) (cs : List Call) (real : AreReal q) (adds : add_real cs ≡ true) (eui k : ℕ) (expected : Bool) (f : Found) (h : chosen eui k expected (after q cs) ≡ Some f) where
  module _ (i : ℕ) (e : Entry) (there : get_or (after q cs) i None ≡ Some e) (suits : is_suitable eui k expected e ≡ true) where
    pub higher_first : goes_before e f.entry ≡ false
    higher_first = leads (is_suitable eui k expected) (after q cs) (after_real q cs real adds) f h i e there suits

    parts : (lt f.entry.asks.prio e.asks.prio ≡ false) × (eq e.asks.prio f.entry.asks.prio && ltb e.asks.que_id f.entry.asks.que_id ≡ false)
    parts = neither (lt f.entry.asks.prio e.asks.prio) _ higher_first

    pub none_higher : lt f.entry.asks.prio e.asks.prio ≡ false
    none_higher = parts.0

    pub then_smallest : eq e.asks.prio f.entry.asks.prio ≡ true → f.entry.asks.que_id ≤ e.asks.que_id
    then_smallest s = ltb-false e.asks.que_id f.entry.asks.que_id (rw s at parts.1)

    -- so one of a lower prio waits
    pub lower_waits : (b : Entry) → lt b.asks.prio e.asks.prio ≡ true → f.entry ≡ b → ⊥
    lower_waits b l g = true_false (sym l ∙ rw g at none_higher)
