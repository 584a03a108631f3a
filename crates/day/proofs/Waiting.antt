-- A turn that waits has few bytes at hand, so a buffer of 65,536 bytes has room for more. Assumes nothing.
use mathlib.Core.{Path.◌≡◌, Path.refl, Bool.Bool, Bool.true, Bool.false, List.List}
use Prim.Native.Nat.{ℕ, ◌≤◌, ◌<◌}
use native.Mathlib.Omega.{arith}
use lib.{Dec.ltb, ListN.length}
use borrow.Author.Tests.{ltb-true, ltb-false}
use Rattle.octets.proofs.Ranges.{true_false}
use Rattle.meters.specs.Columns.{Columns}
use Rattle.trace.proofs.Goes.{enough, start_enough}
use Rattle.play.specs.Centre.{Centre}
use Rattle.turns.specs.Turns.{Turn}
use Rattle.day.specs.{Enrolments.EnrolTurn, Day.Phase, Day.TraceTurn}
use Rattle.day.proofs.EnrolWays.{EnrolWay, enrol_turn_way}
use Rattle.day.proofs.TraceWays.{TraceWay, trace_turn_way}
use Rattle.day.proofs.Steadying.{start_uses, record_uses}

below : (n k : ℕ) → (k ≤ n → ⊥) → n < k
below n k f = go (ltb n k) refl
  where
    go : (b : Bool) → ltb n k ≡ b → n < k
    go true e = ltb-true n k e
    go false e = absurd (f (ltb-false n k e))

enrol_short : (last : Bool) (c : Columns) (s : List ℕ) (t : Turn Columns) → EnrolWay last c s t → t.ended ≡ false → t.used ≡ 0 → length s < 14
enrol_short last c s t (EnrolWay.taken l d g i h e) o z = absurd (omega arith)
enrol_short last c s t (EnrolWay.refused l d g n h e) o z = true_false o
enrol_short last c s t (EnrolWay.wait d g h) o z = h
enrol_short last c s t (EnrolWay.end d) o z = true_false o
enrol_short last c s t (EnrolWay.cut d g f h) o z = true_false o

start_short : (last : Bool) (x : Centre) (s : List ℕ) (t : Turn Phase) → TraceWay last (Phase.starting x) s t → t.ended ≡ false → t.used ≡ 0 → length s < 10
start_short last x s t (TraceWay.begun l y g n z) o u = absurd (start_uses s n z u)
start_short last x s t (TraceWay.await y g e) o u = below (length s) 10 (λ h. start_enough s h e)
start_short last x s t (TraceWay.fail l y g k f c) o u = true_false o

record_short : (last : Bool) (sum : ℕ) (x : Centre) (s : List ℕ) (t : Turn Phase) → TraceWay last (Phase.playing sum x) s t → t.ended ≡ false → t.used ≡ 0 → length s < 4138
record_short last sum x s t (TraceWay.play l n y v g e r z m) o u = absurd (record_uses sum s e z u)
record_short last sum x s t (TraceWay.wait n y g e) o u = below (length s) 4138 (λ h. enough sum s h e)
record_short last sum x s t (TraceWay.end n y) o u = true_false o
record_short last sum x s t (TraceWay.fault l n y g k h f c) o u = true_false o

pub enrol_waits_short : (last : Bool) (c : Columns) (s : List ℕ) (t : Turn Columns) → EnrolTurn last c s t → t.ended ≡ false → t.used ≡ 0 → length s < 14
enrol_waits_short last c s t m = enrol_short last c s t (enrol_turn_way last c s t m)

pub start_waits_short : (last : Bool) (x : Centre) (s : List ℕ) (t : Turn Phase) → TraceTurn last (Phase.starting x) s t → t.ended ≡ false → t.used ≡ 0 → length s < 10
start_waits_short last x s t m = start_short last x s t (trace_turn_way last (Phase.starting x) s t m)

-- in either phase
pub waits_short : (last : Bool) (p : Phase) (s : List ℕ) (t : Turn Phase) → TraceTurn last p s t → t.ended ≡ false → t.used ≡ 0 → length s < 4138
waits_short last (Phase.starting x) s t m o z = let h = start_waits_short last x s t m o z in omega arith
waits_short last (Phase.playing sum x) s t m o z = record_short last sum x s t (trace_turn_way last (Phase.playing sum x) s t m) o z
