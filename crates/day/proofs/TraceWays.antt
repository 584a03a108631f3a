-- The ways of a turn over a trace: its first number, a record that is played, a fault, more that is waited for, or the end. Assumes nothing.
use mathlib.Core.Path.{◌≡◌, refl, sym, ap, subst, ◌∙◌}
use mathlib.Core.Bool.{Bool, true, false, ◌&&◌, not, and-false}
use mathlib.Core.List.{List, [], ◌∷◌}
use Rattle.std.specs.Prelude.{Option}
use Prim.Native.Nat.{ℕ, ◌+◌}
use lib.{Dec.eqb, ListN.length}
use borrow.Author.Tests.{ne_eqb, eqb-true}
use Rattle.std.specs.Prelude.{Result, Ok, Err}
use Rattle.refusal.specs.declared.Refusal.{Refusal, TheVariants.InputEnds}
use Rattle.refusal.specs.Number.{number_of}
use Rattle.groups.specs.declared.Number.{Number}
use Rattle.groups.proofs.Goes.{ok_err}
use Rattle.trace.specs.declared.Entry.{Entry}
use Rattle.trace.specs.Record.{entry_of, frame_of, start_of}
use Rattle.trace.specs.Trace.{end_of}
use Rattle.trace.proofs.{Stepping.ok_same, Stepping.err_same, Goes.empty_entry}
use Rattle.play.specs.declared.Credited.{Credited}
use Rattle.play.specs.{Play.replaying, Centre.Centre, Centre.PlaysFrame}
use Rattle.play.proofs.Settled.{frame_told, centre_once, reading_once}
use Rattle.turns.specs.Turns.{Turn}
use Rattle.day.specs.{Lines.line_of, Turn.passes, Turn.stops, Turn.finishes, Turn.refuses, Turn.refuses_between, Turn.leaving}
use Rattle.day.specs.Day.{Phase, started_by, start_turn, record_turn, fault_turn, TraceTurn}
use Rattle.day.proofs.{Ends.ends, EnrolWays.some_long, EnrolWays.some_bytes}

pub data TraceWay : Bool → Phase → List ℕ → Turn Phase → Type 0 where
  begun : (last : Bool) (x : Centre) (s : List ℕ) (n : Number) → start_of s ≡ Ok n → TraceWay last (Phase.starting x) s (leaving (Phase.playing 0 x) (passes n.next []))
  await : (x : Centre) (s : List ℕ) → start_of s ≡ Err InputEnds → TraceWay false (Phase.starting x) s (leaving (Phase.starting x) (passes 0 []))
  fail : (last : Bool) (x : Centre) (s : List ℕ) (k : Refusal) → start_of s ≡ Err k → eqb (number_of k) 33 && not last ≡ false
      → TraceWay last (Phase.starting x) s (leaving (Phase.starting x) (stops (number_of k)))
  play : (last : Bool) (sum : ℕ) (x y : Centre) (s : List ℕ) (e : Entry) (r : Option Credited) → entry_of sum s ≡ Ok e → PlaysFrame replaying x e.station (frame_of s e) y r
      → TraceWay last (Phase.playing sum x) s (leaving (Phase.playing (sum + e.gap) y) (passes (end_of e) (line_of e.station r)))
  wait : (sum : ℕ) (x : Centre) (s : List ℕ) → entry_of sum s ≡ Err InputEnds → TraceWay false (Phase.playing sum x) s (leaving (Phase.playing sum x) (passes 0 []))
  end : (sum : ℕ) (x : Centre) → TraceWay true (Phase.playing sum x) [] (leaving (Phase.playing sum x) finishes)
  fault : (last : Bool) (sum : ℕ) (x : Centre) (s : List ℕ) (k : Refusal) → (s ≡ [] → ⊥) → entry_of sum s ≡ Err k → eqb (number_of k) 33 && not last ≡ false
      → TraceWay last (Phase.playing sum x) s (leaving (Phase.playing sum x) (stops (number_of k)))

-- each way is a turn
module _ (last : Bool) (x : Centre) (s : List ℕ) where
  begun_is : (n : Number) → start_of s ≡ Ok n → start_turn last x s ≡ leaving (Phase.playing 0 x) (passes n.next [])
  unfolding start_turn
  begun_is n z = ap (started_by last x) z

  fail_is : (k : Refusal) → start_of s ≡ Err k → start_turn last x s ≡ leaving (Phase.starting x) (refuses last k)
  unfolding start_turn
  fail_is k f = ap (started_by last x) f

waits_is : refuses false InputEnds ≡ passes 0 []
unfolding refuses
waits_is = refl

stops_is : (last : Bool) (k : Refusal) → eqb (number_of k) 33 && not last ≡ false → refuses last k ≡ stops (number_of k)
unfolding refuses
stops_is last k c = simp c

between_is : (last : Bool) (s : List ℕ) (k : Refusal) → eqb (length s) 0 && last ≡ false → refuses_between last (length s) k ≡ refuses last k
unfolding refuses_between
between_is last s k c = simp c

pub trace_way_turn : (last : Bool) (p : Phase) (s : List ℕ) (t : Turn Phase) → TraceWay last p s t → TraceTurn last p s t
unfolding record_turn fault_turn refuses_between
trace_way_turn last p s t (TraceWay.begun l x g n z) = subst (λ (u : Turn Phase). TraceTurn last p s u) (begun_is last x s n z) (TraceTurn.starts last x s)
trace_way_turn last p s t (TraceWay.await x g e) =
    subst (λ (u : Turn Phase). TraceTurn last p s u)
    (fail_is false x s InputEnds e ∙ ap (leaving (Phase.starting x)) waits_is)
    (TraceTurn.starts last x s)
trace_way_turn last p s t (TraceWay.fail l x g k f c) =
    subst (λ (u : Turn Phase). TraceTurn last p s u)
    (fail_is last x s k f ∙ ap (leaving (Phase.starting x)) (stops_is last k c))
    (TraceTurn.starts last x s)
trace_way_turn last p s t (TraceWay.play l sum x y g e r z m) = TraceTurn.plays last sum x y s e r z m
trace_way_turn last p s t (TraceWay.wait sum x g e) =
    subst (λ (u : Turn Phase). TraceTurn last p s u)
    (ap (leaving (Phase.playing sum x)) (between_is false s InputEnds (and-false (eqb (length s) 0)) ∙ waits_is))
    (TraceTurn.faults last sum x s InputEnds e)
trace_way_turn last p s t (TraceWay.end sum x) = TraceTurn.faults last sum x s InputEnds (empty_entry sum)
trace_way_turn last p s t (TraceWay.fault l sum x g k h f c) =
    subst (λ (u : Turn Phase). TraceTurn last p s u)
    (ap (leaving (Phase.playing sum x)) (between_is last s k (simp (ne_eqb (length s) 0 (some_long s h))) ∙ stops_is last k c))
    (TraceTurn.faults last sum x s k f)

-- there is no second
pub trace_once : (last : Bool) (p : Phase) (s : List ℕ) (t u : Turn Phase) → TraceTurn last p s t → TraceTurn last p s u → t ≡ u
trace_once last p s t u (TraceTurn.starts l x g) (TraceTurn.starts l' x' g') = refl
trace_once last p s t u (TraceTurn.plays l sum x y g e r z m) (TraceTurn.plays l' sum' x' y' g' e' r' z' m') =
    let same : e' ≡ e = ok_same (sym z' ∙ z) in
    let n = subst (λ (d : Entry). PlaysFrame replaying x d.station (frame_of s d) y' r') same m' in
    let k = e.station in
    let f = frame_of s e in
    λ i. record_turn sum (sym same i) (centre_once replaying x k f y y' r r' m n i) (reading_once replaying x k f y y' r r' m n i)
trace_once last p s t u (TraceTurn.plays l sum x y g e r z m) (TraceTurn.faults l' sum' x' g' k f) = absurd (ok_err (sym z ∙ f))
trace_once last p s t u (TraceTurn.faults l sum x g k f) (TraceTurn.plays l' sum' x' y g' e r z m) = absurd (ok_err (sym z ∙ f))
trace_once last p s t u (TraceTurn.faults l sum x g k f) (TraceTurn.faults l' sum' x' g' k' f') = ap (λ (j : Refusal). fault_turn last sum s j x) (err_same (sym f ∙ f'))

-- and each turn goes one of them
pub trace_way_all : (last : Bool) (p : Phase) (s : List ℕ) → (t : Turn Phase) × TraceWay last p s t
trace_way_all last (Phase.starting x) s = go (start_of s) refl
  where
    refused : (l : Bool) (k : Refusal) → start_of s ≡ Err k → (b : Bool) → eqb (number_of k) 33 ≡ b → (t : Turn Phase) × TraceWay l (Phase.starting x) s t
    refused true k z b f = (_, TraceWay.fail true x s k z (and-false (eqb (number_of k) 33)))
    refused false k z false f = (_, TraceWay.fail false x s k z (simp f))
    refused false k z true f = (_, TraceWay.await x s (z ∙ ap (λ (j : Refusal). Err j) (ends k (eqb-true (number_of k) 33 f))))

    go : (r : Result Number Refusal) → start_of s ≡ r → (t : Turn Phase) × TraceWay last (Phase.starting x) s t
    go (Ok n) z = (_, TraceWay.begun last x s n z)
    go (Err k) z = refused last k z (eqb (number_of k) 33) refl
trace_way_all true (Phase.playing sum x) [] = (_, TraceWay.end sum x)
trace_way_all false (Phase.playing sum x) [] = (_, TraceWay.wait sum x [] (empty_entry sum))
trace_way_all last (Phase.playing sum x) (b ∷ s) = go (entry_of sum h) refl
  where
    h : List ℕ
    h = b ∷ s

    refused : (l : Bool) (k : Refusal) → entry_of sum h ≡ Err k → (c : Bool) → eqb (number_of k) 33 ≡ c → (t : Turn Phase) × TraceWay l (Phase.playing sum x) h t
    refused true k z c f = (_, TraceWay.fault true sum x h k (some_bytes b s) z (and-false (eqb (number_of k) 33)))
    refused false k z false f = (_, TraceWay.fault false sum x h k (some_bytes b s) z (simp f))
    refused false k z true f = (_, TraceWay.wait sum x h (z ∙ ap (λ (j : Refusal). Err j) (ends k (eqb-true (number_of k) 33 f))))

    go : (r : Result Entry Refusal) → entry_of sum h ≡ r → (t : Turn Phase) × TraceWay last (Phase.playing sum x) h t
    go (Ok e) z =
        let m = frame_told replaying x e.station (frame_of h e) in
        (_, TraceWay.play last sum x m.0 h e m.1.0 z m.1.1)
    go (Err k) z = refused last k z (eqb (number_of k) 33) refl

pub trace_turn_way : (last : Bool) (p : Phase) (s : List ℕ) (t : Turn Phase) → TraceTurn last p s t → TraceWay last p s t
trace_turn_way last p s t o =
    let w = trace_way_all last p s in
    subst (λ (u : Turn Phase). TraceWay last p s u) (trace_once last p s w.0 t (trace_way_turn last p s w.0 w.1) o) w.1
