-- A payload played, by what is read of it. Assumes nothing.
use mathlib.Core.{Path.◌≡◌, Path.refl, Path.sym, Path.ap, Path.◌∙◌, List.List}
use Prim.Native.Nat.{ℕ}
use mathlib.Core.Bool.{Bool, true, false}
use native.Mathlib.Omega.{arith}
use lib.Dec.{eqb}
use borrow.Author.Tests.{ne_eqb}
use Rattle.std.specs.Prelude.{Option, Result, is_ok, Ok, Err}
use Rattle.refusal.specs.{declared.Refusal.Refusal, declared.Broken.Broken, Number.number_of}
use Rattle.refusal.proofs.Numbers.{number_some}
use Rattle.steps.specs.Called.{Answer, step_refusal}
use Rattle.record.specs.declared.{Counted.Counted}
use Rattle.record.specs.Meant.{Meant}
use Rattle.meters.specs.Columns.{Columns}
use Rattle.play.specs.declared.Credited.{Credited}
use Rattle.play.specs.Play.{Played, played, no_reading, replaying, arrival, to_table, after_arrival, play_told, play_of, scratch, Plays}

-- a step is taken where its answer has no refusal's number
some_number : (r : Refusal) → eqb (number_of r) 0 ≡ false
some_number r = ne_eqb (number_of r) 0 (λ z. let s = number_some r in omega arith)

taken_is : (a : Answer) → eqb (step_refusal a) 0 ≡ is_ok a
taken_is (Ok x) = refl
taken_is (Err r) = some_number r

module _ (payload d lent : List ℕ) (c : Columns) (station : ℕ) (t : Result Counted Broken) (m : Meant payload scratch (record { told = t; lent = lent })) where
  plays_as : (r : Played) → r ≡ play_of replaying d c station (record { told = t; lent = lent }) → Plays replaying payload d c station r
  plays_as r q = record { answer = record { told = t; lent = lent }; meant = m; same = q }

  by_told : (u : Result Counted Broken) → t ≡ u → play_of replaying d c station (record { told = t; lent = lent }) ≡ play_told replaying d c station lent u
  unfolding play_of
  by_told u e = ap (play_told replaying d c station lent) e

  pub unread_plays : (b : Broken) → t ≡ Err b → (r : Option Credited) → r ≡ no_reading → Plays replaying payload d c station (played d c r)
  unread_plays b z r q = plays_as _ (ap (λ x. played d c x) q ∙ sym (by_told (Err b) z))

  module _ (n : Counted) (z : t ≡ Ok n) (k : Bool) (e : List ℕ) (s : e ≡ (arrival replaying d n.message lent).session) (a : k ≡ is_ok (arrival replaying d n.message lent).answer) where
    told : eqb (step_refusal (arrival replaying d n.message lent).answer) 0 ≡ k
    told = taken_is (arrival replaying d n.message lent).answer ∙ sym a

    pub refused_plays : k ≡ false → (r : Option Credited) → r ≡ no_reading → Plays replaying payload d c station (played e c r)
    unfolding after_arrival
    refused_plays f r q = plays_as _ (by_arrival ∙ sym (by_told (Ok n) z))
      where
        by_arrival : played e c r ≡ after_arrival c station n.message.body (arrival replaying d n.message lent)
        by_arrival = simp (told ∙ f, ← s) (ap (λ x. played e c x) q)

    pub accepted_plays : k ≡ true → (g : Columns) (r : Option Credited) → ((x : List ℕ) → played x g r ≡ to_table x c station n.message.body) → Plays replaying payload d c station (played e g r)
    unfolding after_arrival
    accepted_plays f g r q = plays_as _ (by_arrival ∙ sym (by_told (Ok n) z))
      where
        by_arrival : played e g r ≡ after_arrival c station n.message.body (arrival replaying d n.message lent)
        by_arrival = simp (told ∙ f, ← s) (q e)
