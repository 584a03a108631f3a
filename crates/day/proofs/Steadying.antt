-- The turns over enrolments and over a trace keep to what turns must (crates/turns): one that does not wait is the same however the input goes on. Assumes
-- nothing.
use mathlib.Core.Path.{◌≡◌, refl, sym, ap, ◌∙◌}
use mathlib.Core.Bool.{Bool, true, false, ◌&&◌, not, and-true}
use mathlib.Core.List.{List, [], ◌++◌}
use Prim.Native.Nat.{ℕ, ◌+◌, ◌≤◌}
use native.Mathlib.Omega.{arith}
use lib.{Dec.eqb, ListN.length, ListN.length-append, ListN.get_or-append}
use Rattle.octets.specs.Number.{big_at}
use Rattle.octets.proofs.{Ranges.true_false, Places.same_big}
use Rattle.meters.specs.Columns.{Columns, enrol_on}
use Rattle.std.specs.Prelude.{Ok}
use Rattle.refusal.specs.declared.Refusal.{Refusal, TheVariants.InputEnds}
use Rattle.refusal.specs.Number.{number_of}
use Rattle.groups.specs.declared.Number.{Number}
use Rattle.groups.proofs.Goes.{ok_err}
use Rattle.trace.specs.declared.Entry.{Entry}
use Rattle.trace.proofs.Stepping.{err_same}
use Rattle.trace.specs.Record.{entry_of, start_of}
use Rattle.trace.specs.Trace.{end_of}
use Rattle.trace.proofs.{Entries.read_frame_there, Entries.read_frame_behind, Entries.read_start_there, Entries.read_start_next}
use Rattle.trace.proofs.Goes.{entry_settled, frame_settled, start_settled}
use Rattle.turns.{specs.Turns.Turn, proofs.Steady.Steady}
use Rattle.day.specs.{Enrolments.EnrolTurn, Enrolments.enrolment_of, Day.Phase, Day.TraceTurn}
use Rattle.day.proofs.EnrolWays.{EnrolWay, some_long, enrol_way_turn, enrol_turn_way}
use Rattle.day.proofs.TraceWays.{TraceWay, trace_way_turn, trace_once, trace_way_all, trace_turn_way}

-- an enrolment whose bytes are all there
module _ (c : Columns) (h p : List ℕ) (l : 14 ≤ length h) where
  number_settled : (at n : ℕ) → at + n ≤ 14 → big_at (h ++ p) at n ≡ big_at h at n
  number_settled at n e = same_big (h ++ p) h at at n (λ k g. get_or-append h p 0 (at + k) (omega arith))

  enrolment_settled : enrolment_of (h ++ p) c ≡ enrolment_of h c
  enrolment_settled = λ i. enrol_on c (number_settled 0 8 (omega arith) i) (number_settled 8 2 (omega arith) i) (number_settled 10 4 (omega arith) i)

enrol_within : (last : Bool) (c : Columns) (h : List ℕ) (t : Turn Columns) → EnrolWay last c h t → t.used ≤ length h
enrol_within last c h t (EnrolWay.taken l d g i k e) = k
enrol_within last c h t (EnrolWay.refused l d g n k e) = omega arith
enrol_within last c h t (EnrolWay.wait d g k) = omega arith
enrol_within last c h t (EnrolWay.end d) = omega arith
enrol_within last c h t (EnrolWay.cut d g f k) = omega arith

enrol_waits : (last : Bool) (c : Columns) (h : List ℕ) (t : Turn Columns) → EnrolWay last c h t → t.ended ≡ false → t.used ≡ 0 → (last ≡ false) × ((t.text ≡ []) × (t.state ≡ c))
enrol_waits last c h t (EnrolWay.taken l d g i k e) o z = absurd (omega arith)
enrol_waits last c h t (EnrolWay.refused l d g n k e) o z = true_false o
enrol_waits last c h t (EnrolWay.wait d g k) o z = (refl, (refl, refl))
enrol_waits last c h t (EnrolWay.end d) o z = true_false o
enrol_waits last c h t (EnrolWay.cut d g f k) o z = true_false o

enrol_stays : (c : Columns) (h p : List ℕ) (l : Bool) (t : Turn Columns) → EnrolWay false c h t → (t.ended ≡ false → t.used ≡ 0 → ⊥) → EnrolWay l c (h ++ p) t
enrol_stays c h p l t (EnrolWay.taken k d g i m e) y =
    let q = enrolment_settled c h p m in
    rw (← q) (EnrolWay.taken l c (h ++ p) i (omega (arith, length-append h p)) (rw q e))
enrol_stays c h p l t (EnrolWay.refused k d g n m e) y =
    let q = enrolment_settled c h p m in
    rw (← q) (EnrolWay.refused l c (h ++ p) n (omega (arith, length-append h p)) (rw q e))
enrol_stays c h p l t (EnrolWay.wait d g m) y = absurd (y refl refl)

enrol_once : (last : Bool) (c : Columns) (h : List ℕ) (t u : Turn Columns) → EnrolTurn last c h t → EnrolTurn last c h u → t ≡ u
enrol_once last c h t u (EnrolTurn.turn l d g) (EnrolTurn.turn l' d' g') = refl

pub enrol_steady : Steady EnrolTurn
enrol_steady = record {
  told = λ last c h. (_, EnrolTurn.turn last c h);
  once = enrol_once;
  within = λ last c h t s. enrol_within last c h t (enrol_turn_way last c h t s);
  waits = λ last c h t s. enrol_waits last c h t (enrol_turn_way last c h t s);
  stays = λ c h p l t s y. enrol_way_turn l c (h ++ p) t (enrol_stays c h p l t (enrol_turn_way false c h t s) y);
}

-- a trace
trace_within : (last : Bool) (x : Phase) (h : List ℕ) (t : Turn Phase) → TraceWay last x h t → t.used ≤ length h
trace_within last x h t (TraceWay.begun l c g n z) = read_start_there h n z
trace_within last x h t (TraceWay.await c g e) = omega arith
trace_within last x h t (TraceWay.fail l c g k f o) = omega arith
trace_within last x h t (TraceWay.play l sum c d g e r z m) = read_frame_there sum h e z
trace_within last x h t (TraceWay.wait sum c g e) = omega arith
trace_within last x h t (TraceWay.end sum c) = omega arith
trace_within last x h t (TraceWay.fault l sum c g k n f o) = omega arith

-- a start and a record have bytes
pub start_uses : (h : List ℕ) (n : Number) → start_of h ≡ Ok n → n.next ≡ 0 → ⊥
start_uses h n z u = omega (arith, read_start_next h n z)

pub record_uses : (sum : ℕ) (h : List ℕ) (e : Entry) → entry_of sum h ≡ Ok e → end_of e ≡ 0 → ⊥
record_uses sum h e z u = omega (arith, read_frame_behind sum h e z)

trace_waits : (last : Bool) (x : Phase) (h : List ℕ) (t : Turn Phase) → TraceWay last x h t → t.ended ≡ false → t.used ≡ 0 → (last ≡ false) × ((t.text ≡ []) × (t.state ≡ x))
trace_waits last x h t (TraceWay.begun l c g n z) o u = absurd (start_uses h n z u)
trace_waits last x h t (TraceWay.await c g e) o u = (refl, (refl, refl))
trace_waits last x h t (TraceWay.fail l c g k f i) o u = true_false o
trace_waits last x h t (TraceWay.play l sum c d g e r z m) o u = absurd (record_uses sum h e z u)
trace_waits last x h t (TraceWay.wait sum c g e) o u = (refl, (refl, refl))
trace_waits last x h t (TraceWay.end sum c) o u = true_false o
trace_waits last x h t (TraceWay.fault l sum c g k n f i) o u = true_false o

-- a refusal other than 33 stays one, whether or not more may come
settles : (k : Refusal) → eqb (number_of k) 33 && true ≡ false → k ≡ InputEnds → ⊥
settles k c e = true_false (rw e at c)

any_last : (n : ℕ) (l : Bool) → eqb n 33 && true ≡ false → eqb n 33 && not l ≡ false
any_last n l c = simp (sym (and-true (eqb n 33)) ∙ c)

trace_stays : (x : Phase) (h p : List ℕ) (l : Bool) (t : Turn Phase) → TraceWay false x h t → (t.ended ≡ false → t.used ≡ 0 → ⊥) → TraceWay l x (h ++ p) t
trace_stays x h p l t (TraceWay.begun k c g n z) y = TraceWay.begun l c (h ++ p) n (start_settled h p (λ e. ok_err (sym z ∙ e)) ∙ z)
trace_stays x h p l t (TraceWay.await c g e) y = absurd (y refl refl)
trace_stays x h p l t (TraceWay.fail i c g k f o) y =
    TraceWay.fail l c (h ++ p) k (start_settled h p (λ e. settles k o (err_same (sym f ∙ e))) ∙ f) (any_last (number_of k) l o)
trace_stays x h p l t (TraceWay.play k sum c d g e r z m) y =
    let q = entry_settled sum h p (λ i. ok_err (sym z ∙ i)) in
    TraceWay.play l sum c d (h ++ p) e r (q ∙ z) (rw (frame_settled sum h p e z) m)
trace_stays x h p l t (TraceWay.wait sum c g e) y = absurd (y refl refl)
trace_stays x h p l t (TraceWay.fault i sum c g k n f o) y =
    let q = entry_settled sum h p (λ e. settles k o (err_same (sym f ∙ e))) in
    TraceWay.fault l sum c (h ++ p) k (λ e. some_long h n (omega (arith, length-append h p, ap length e))) (q ∙ f) (any_last (number_of k) l o)

pub trace_steady : Steady TraceTurn
trace_steady = record {
  told = λ last x h. let w = trace_way_all last x h in (w.0, trace_way_turn last x h w.0 w.1);
  once = trace_once;
  within = λ last x h t s. trace_within last x h t (trace_turn_way last x h t s);
  waits = λ last x h t s. trace_waits last x h t (trace_turn_way last x h t s);
  stays = λ x h p l t s y. trace_way_turn l x (h ++ p) t (trace_stays x h p l t (trace_turn_way false x h t s) y);
}
