-- What is printed and left of a whole file, of enrolments or a trace, is what the turns print and leave with all of it at hand. So every file has one text and
-- leaves one state, and no second, and however it is cut into pieces, the turns come to an end with these. Assumes nothing.
use mathlib.Core.Path.{◌≡◌, refl, sym, ap, ◌∙◌}
use mathlib.Core.Bool.{true, false, and-false}
use mathlib.Core.List.{List, [], ◌++◌}
use Prim.Native.Nat.{ℕ, ◌+◌}
use native.Mathlib.Omega.{arith}
use lib.{Dec.eqb, ListN.drop}
use Rattle.octets.proofs.Ranges.{true_false}
use Rattle.meters.specs.Columns.{Columns}
use Rattle.refusal.specs.Number.{number_of}
use Rattle.trace.specs.Trace.{end_of}
use Rattle.play.specs.Centre.{Centre}
use Rattle.turns.specs.Turns.{Turn, Runs, whole}
use Rattle.turns.proofs.Pieces as turns
use Rattle.day.specs.{Enrolments.enrolment_size, Enrolments.enrolment_of, Enrolments.EnrolTurn, Day.Phase, Day.centre_in, Day.TraceTurn}
use Rattle.day.specs.Replay.{Enrols, Replays, ReplaysTrace}
use Rattle.day.proofs.EnrolWays.{EnrolWay, enrol_way_turn, enrol_turn_way}
use Rattle.day.proofs.TraceWays.{TraceWay, trace_way_turn, trace_turn_way}
use Rattle.day.proofs.Steadying.{enrol_steady, start_uses, record_uses, trace_steady}

-- enrolments: what the turns print is printed
ended_enrols : (c : Columns) (s : List ℕ) (t : Turn Columns) → EnrolWay true c s t → t.ended ≡ true → Enrols c s t.text t.state
ended_enrols c s t (EnrolWay.taken l d g i h e) o = true_false (sym o)
ended_enrols c s t (EnrolWay.refused l d g n h e) o = Enrols.refused c s n h e
ended_enrols c s t (EnrolWay.end d) o = Enrols.finished c
ended_enrols c s t (EnrolWay.cut d g f h) o = Enrols.cut c s f h

passed_enrols : (c e : Columns) (s out : List ℕ) (t : Turn Columns) → EnrolWay true c s t → t.ended ≡ false → Enrols t.state (drop t.used s) out e → Enrols c s (t.text ++ out) e
passed_enrols c e s out t (EnrolWay.taken l d g i h q) o r = Enrols.enrolled c e s out i h q r
passed_enrols c e s out t (EnrolWay.refused l d g n h q) o r = true_false o
passed_enrols c e s out t (EnrolWay.end d) o r = true_false o
passed_enrols c e s out t (EnrolWay.cut d g f h) o r = true_false o

pub enrols_run : (c e : Columns) (s out : List ℕ) → Runs EnrolTurn true c s [] out e → Enrols c s out e
enrols_run c e s out (Runs.ends l x g qs t m o) = ended_enrols c s t (enrol_turn_way true c s t m) o
enrols_run c e s out (Runs.passes l x y g qs rest t m o z r) =
    passed_enrols c e s rest t (enrol_turn_way true c s t m) o (enrols_run t.state e (drop t.used s) rest r)
enrols_run c e s out (Runs.closes l x y g rest t m o z r) = true_false (enrol_steady.waits true c s t m o z).0

-- and what is printed they print
pub run_enrols : (c e : Columns) (s out : List ℕ) → Enrols c s out e → Runs EnrolTurn true c s [] out e
run_enrols c e s out (Enrols.finished d) = Runs.ends true c [] [] _ (enrol_way_turn true c [] _ (EnrolWay.end c)) refl
run_enrols c e s out (Enrols.cut d g f h) = Runs.ends true c s [] _ (enrol_way_turn true c s _ (EnrolWay.cut c s f h)) refl
run_enrols c e s out (Enrols.enrolled d k g rest i h q r) =
    Runs.passes true c e s [] out _ (enrol_way_turn true c s _ (EnrolWay.taken true c s i h q)) refl (λ z. omega arith)
    (run_enrols (enrolment_of s c).columns e (drop enrolment_size s) out r)
run_enrols c e s out (Enrols.refused d g n h q) = Runs.ends true c s [] _ (enrol_way_turn true c s _ (EnrolWay.refused true c s n h q)) refl

pub enrols_once : (c e f : Columns) (s a b : List ℕ) → Enrols c s a e → Enrols c s b f → (a ≡ b) × (e ≡ f)
enrols_once c e f s a b m n = turns.whole_once EnrolTurn enrol_steady c e f s a b (run_enrols c e s a m) (run_enrols c f s b n)

pub enrols_all : (c : Columns) (s : List ℕ) → (out : List ℕ) × ((e : Columns) × Enrols c s out e)
enrols_all c s = let r = turns.runs_last EnrolTurn enrol_steady c s in (r.0, (r.1.0, enrols_run c r.1.0 s r.0 r.1.1))

-- from the start: no bytes at hand
pub pieces_enrol : (ps : List (List ℕ)) (c e : Columns) (out : List ℕ) → Runs EnrolTurn false c [] ps out e → Enrols c (whole ps) out e
pieces_enrol ps c e out r = enrols_run c e (whole ps) out (turns.run_whole EnrolTurn enrol_steady false c e [] ps out r (λ f. true_false (sym f)))

pub pieces_enrol_run : (ps : List (List ℕ)) (c : Columns) → (out : List ℕ) × ((e : Columns) × Runs EnrolTurn false c [] ps out e)
pieces_enrol_run ps c = turns.runs_open EnrolTurn enrol_steady ps c []

-- and two cuttings of one file print the same and leave the same table
pub pieces_enrol_once : (ps qs : List (List ℕ)) → whole ps ≡ whole qs → (c e f : Columns) (a b : List ℕ) → Runs EnrolTurn false c [] ps a e → Runs EnrolTurn false c [] qs b f → (a ≡ b) × (e ≡ f)
pieces_enrol_once ps qs q c e f a b m n = turns.pieces_once EnrolTurn enrol_steady ps qs q c e f a b m n

-- a trace, from either phase on
abbrev ReplaysIn : Phase → List ℕ → List ℕ → Centre → Type 0
ReplaysIn (Phase.starting x) s out y = ReplaysTrace x s out y
ReplaysIn (Phase.playing sum x) s out y = Replays sum x s out y

-- what the turns print is printed
ended_replays : (p : Phase) (s : List ℕ) (t : Turn Phase) → TraceWay true p s t → t.ended ≡ true → ReplaysIn p s t.text (centre_in t.state)
ended_replays p s t (TraceWay.begun l x g n z) o = true_false (sym o)
ended_replays p s t (TraceWay.fail l x g k f c) o = ReplaysTrace.fails x s k f
ended_replays p s t (TraceWay.play l sum x y g e r z m) o = true_false (sym o)
ended_replays p s t (TraceWay.end sum x) o = Replays.finished sum x
ended_replays p s t (TraceWay.fault l sum x g k n f c) o = Replays.faults sum x s k n f

passed_replays : (p : Phase) (y : Centre) (s out : List ℕ) (t : Turn Phase) → TraceWay true p s t → t.ended ≡ false → ReplaysIn t.state (drop t.used s) out y → ReplaysIn p s (t.text ++ out) y
passed_replays p y s out t (TraceWay.begun l x g n z) o r = ReplaysTrace.starts x y s out n z r
passed_replays p y s out t (TraceWay.fail l x g k f c) o r = true_false o
passed_replays p y s out t (TraceWay.play l sum x v g e q z m) o r = Replays.plays sum x v y s out e q z m r
passed_replays p y s out t (TraceWay.end sum x) o r = true_false o
passed_replays p y s out t (TraceWay.fault l sum x g k n f c) o r = true_false o

phase_run : (p q : Phase) (s out : List ℕ) → Runs TraceTurn true p s [] out q → ReplaysIn p s out (centre_in q)
phase_run p q s out (Runs.ends l x g qs t m o) = ended_replays p s t (trace_turn_way true p s t m) o
phase_run p q s out (Runs.passes l x y g qs rest t m o z r) =
    passed_replays p (centre_in q) s rest t (trace_turn_way true p s t m) o (phase_run t.state q (drop t.used s) rest r)
phase_run p q s out (Runs.closes l x y g rest t m o z r) = true_false (trace_steady.waits true p s t m o z).0

pub replays_run : (x : Centre) (p : Phase) (s out : List ℕ) → Runs TraceTurn true (Phase.starting x) s [] out p → ReplaysTrace x s out (centre_in p)
replays_run x p s out r = phase_run (Phase.starting x) p s out r

-- and what is printed they print
pub record Ran (from : Phase) (s out : List ℕ) (y : Centre) : Type 0 where
  pub last : Phase
  pub run : Runs TraceTurn true from s [] out last
  pub left : centre_in last ≡ y

run_records : (sum : ℕ) (x y : Centre) (s out : List ℕ) → Replays sum x s out y → Ran (Phase.playing sum x) s out y
run_records sum x y s out (Replays.finished n v) = record {
  last = Phase.playing sum x;
  run = Runs.ends true (Phase.playing sum x) [] [] _ (trace_way_turn true (Phase.playing sum x) [] _ (TraceWay.end sum x)) refl;
  left = refl;
}
run_records sum x y s out (Replays.plays n v w u g rest e q z m r) =
    let o = run_records (sum + e.gap) w y (drop (end_of e) s) rest r in
    record {
      last = o.last;
      run = Runs.passes true (Phase.playing sum x) o.last s [] rest _ (trace_way_turn true (Phase.playing sum x) s _ (TraceWay.play true sum x w s e q z m)) refl (record_uses sum s e z) o.run;
      left = o.left;
    }
run_records sum x y s out (Replays.faults n v g k h f) = record {
  last = Phase.playing sum x;
  run = Runs.ends true (Phase.playing sum x) s [] _ (trace_way_turn true (Phase.playing sum x) s _ (TraceWay.fault true sum x s k h f (and-false (eqb (number_of k) 33)))) refl;
  left = refl;
}

pub run_replays : (x y : Centre) (s out : List ℕ) → ReplaysTrace x s out y → Ran (Phase.starting x) s out y
run_replays x y s out (ReplaysTrace.starts v w g rest n z r) =
    let o = run_records 0 x y (drop n.next s) out r in
    record {
      last = o.last;
      run = Runs.passes true (Phase.starting x) o.last s [] out _ (trace_way_turn true (Phase.starting x) s _ (TraceWay.begun true x s n z)) refl (start_uses s n z) o.run;
      left = o.left;
    }
run_replays x y s out (ReplaysTrace.fails v g k f) = record {
  last = Phase.starting x;
  run = Runs.ends true (Phase.starting x) s [] _ (trace_way_turn true (Phase.starting x) s _ (TraceWay.fail true x s k f (and-false (eqb (number_of k) 33)))) refl;
  left = refl;
}

ran_once : (p : Phase) (s a b : List ℕ) (y z : Centre) → Ran p s a y → Ran p s b z → (a ≡ b) × (y ≡ z)
ran_once p s a b y z m n =
    let q = turns.whole_once TraceTurn trace_steady p m.last n.last s a b m.run n.run in
    (q.0, sym m.left ∙ ap centre_in q.1 ∙ n.left)

pub replays_once : (x y z : Centre) (s a b : List ℕ) → ReplaysTrace x s a y → ReplaysTrace x s b z → (a ≡ b) × (y ≡ z)
replays_once x y z s a b m n = ran_once (Phase.starting x) s a b y z (run_replays x y s a m) (run_replays x z s b n)

pub replays_all : (x : Centre) (s : List ℕ) → (out : List ℕ) × ((y : Centre) × ReplaysTrace x s out y)
replays_all x s =
    let r = turns.runs_last TraceTurn trace_steady (Phase.starting x) s in
    (r.0, (centre_in r.1.0, replays_run x r.1.0 s r.0 r.1.1))

-- from the start: no bytes at hand
pub pieces_replay : (ps : List (List ℕ)) (x : Centre) (p : Phase) (out : List ℕ) → Runs TraceTurn false (Phase.starting x) [] ps out p → ReplaysTrace x (whole ps) out (centre_in p)
pieces_replay ps x p out r = replays_run x p (whole ps) out (turns.run_whole TraceTurn trace_steady false (Phase.starting x) p [] ps out r (λ f. true_false (sym f)))

pub pieces_replay_run : (ps : List (List ℕ)) (x : Centre) → (out : List ℕ) × ((p : Phase) × Runs TraceTurn false (Phase.starting x) [] ps out p)
pieces_replay_run ps x = turns.runs_open TraceTurn trace_steady ps (Phase.starting x) []

-- and two cuttings of one trace print the same and leave the same
pub pieces_replay_once : (ps qs : List (List ℕ)) → whole ps ≡ whole qs → (x : Centre) (p q : Phase) (a b : List ℕ)
    → Runs TraceTurn false (Phase.starting x) [] ps a p → Runs TraceTurn false (Phase.starting x) [] qs b q → (a ≡ b) × (p ≡ q)
pieces_replay_once ps qs e x p q a b m n = turns.pieces_once TraceTurn trace_steady ps qs e (Phase.starting x) p q a b m n
