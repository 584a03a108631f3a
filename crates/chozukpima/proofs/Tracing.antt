-- A record that is taken has a time: the sum of the gaps fits. Assumes nothing.
use mathlib.Core.{Path.◌≡◌, Path.refl, Path.sym, Path.ap, Path.◌∙◌, List.List}
use mathlib.Core.Bool.{Bool, true, false}
use Prim.Native.Nat.{ℕ, ◌+◌, ◌^◌, ◌<◌}
use native.Mathlib.Omega.{arith}
use mir.Syntax.{w64}
use mir.Val.{Fits}
use borrow.Author.Tests.{ltb-true}
use Rattle.octets.specs.Choice.{either}
use Rattle.std.specs.Prelude.{Result, Ok}
use Rattle.refusal.specs.declared.Refusal.{Refusal, TheVariants.StationNumber, TheVariants.TimeSum, TheVariants.NotOneFrame}
use Rattle.groups.proofs.Goes.{ok_err}
use Rattle.trace.specs.Record.{is_one_frame, is_time, is_station}
use Rattle.trace.specs.Write.{Recorded, recorded, record_refused, placed_in, record_bytes, record_in}

module _ (time gap station : ℕ) (frame room d : List ℕ) (w : Result ℕ Refusal) (q : recorded w d ≡ record_in time gap station frame room) where
  taken_time : (n : ℕ) → w ≡ Ok n → time + gap < 2 ^ 64
  unfolding record_in
  taken_time n z = go (is_time (time + gap)) refl (ap (λ (x : Recorded). x.answer) q)
    where
      go : (t : Bool) → is_time (time + gap) ≡ t
          → w ≡ (either t (λ _. either (is_station station) (λ _. either (is_one_frame frame) (λ _. placed_in (record_bytes gap station frame) room) (λ _. record_refused NotOneFrame room)) (λ _. record_refused StationNumber room)) (λ _. record_refused TimeSum room)).answer
          → time + gap < 2 ^ 64
      go true e f = ltb-true (time + gap) (2 ^ 64) e
      go false e f = absurd (ok_err (sym z ∙ f))

  pub time_fits : (n : ℕ) → w ≡ Ok n → Fits w64 (time + gap)
  time_fits n z = record { fits = omega (arith, taken_time n z) }
