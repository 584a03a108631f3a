-- No second answer, room, table or centre meets the statements of the three calls; and where the room has 80 bytes, the bytes to be printed are the whole text
-- of the turn. Assumes nothing.
use mathlib.Core.Path.{◌≡◌, refl, sym, ap, subst, ◌∙◌}
use mathlib.Core.{Bool.Bool, List.List, List.[]}
use Prim.Native.Nat.{ℕ, ◌+◌, ◌≤◌}
use native.Mathlib.Omega.{arith}
use lib.{Dec.eqb, ListN.length, ListN.take}
use borrow.Author.Tests.{ne_eqb}
use Rattle.octets.{specs.Choice.either, specs.Bytes.put_at, proofs.Writing.put_upto}
use Rattle.forms.specs.Code.Put.{Put, put}
use Rattle.forms.proofs.Putting.{one_in}
use Rattle.refusal.specs.Number.{number_of}
use Rattle.meters.specs.Columns.{Columns, columns}
use Rattle.refusal.specs.Number.{number_of}
use Rattle.play.specs.Centre.{Centre, centre}
use Rattle.lines.specs.{Turn.Printed, Turn.Shows, declared.Took.Took}
use Rattle.turns.specs.Turns.{Turn}
use Rattle.day.specs.{Turn.shown_by, Enrolments.enrol_turn, Enrolments.EnrolTurn, Day.Phase, Day.centre_in, Day.start_turn, Day.TraceTurn, Day.Turned}
use Rattle.day.proofs.{Texts.few_line, Texts.few_refused, EnrolWays.EnrolWay, EnrolWays.enrol_turn_way, Steadying.start_uses, Steadying.trace_steady}
use Rattle.day.proofs.TraceWays.{TraceWay, trace_turn_way}

-- one text in one room
module _ (x : Printed) (d e f : List ℕ) (r q : Took) (a : Shows x d e r) (b : Shows x d f q) where
  puts_same : put e r.length ≡ put f q.length
  puts_same = a.printed ∙ sym b.printed

  shows_once : (e ≡ f) × (r ≡ q)
  shows_once = (
    ap (λ (o : Put). o.room) puts_same,
    λ i. record { used = (a.used ∙ sym b.used) i; length = ap (λ (o : Put). o.next) puts_same i; ended = (a.ended ∙ sym b.ended) i },
  )

pub enrol_settled : (last : Bool) (c g k : Columns) (s d e f : List ℕ) (r q : Took)
    → Shows (shown_by (enrol_turn last c s)) d e r → g ≡ (enrol_turn last c s).state → Shows (shown_by (enrol_turn last c s)) d f q → k ≡ (enrol_turn last c s).state
    → (g ≡ k) × ((e ≡ f) × (r ≡ q))
enrol_settled last c g k s d e f r q a m b n = (m ∙ sym n, shows_once (shown_by (enrol_turn last c s)) d e f r q a b)

pub start_settled : (last : Bool) (s d e f : List ℕ) (r q : Took)
    → ((x : Centre) → Shows (shown_by (start_turn last x s)) d e r) → ((x : Centre) → Shows (shown_by (start_turn last x s)) d f q) → (e ≡ f) × (r ≡ q)
start_settled last s d e f r q a b =
    let x = centre [] (columns [] [] [] [] []) in
    shows_once (shown_by (start_turn last x s)) d e f r q (a x) (b x)

-- the sum of the gaps so far
abbrev sum_in : Phase → ℕ
sum_in (Phase.starting x) = 0
sum_in (Phase.playing sum x) = sum

pub turn_settled : (x y z : Centre) (last : Bool) (sum n m : ℕ) (s d e f : List ℕ) (r q : Took)
    → Turned x last sum s d y n e r → Turned x last sum s d z m f q → (y ≡ z) × ((n ≡ m) × ((e ≡ f) × (r ≡ q)))
turn_settled x y z last sum n m s d e f r q a b =
    let t = trace_steady.once last (Phase.playing sum x) s a.turn b.turn a.told b.told in
    let p = sym a.state ∙ ap (λ (u : Turn Phase). u.state) t ∙ b.state in
    (ap centre_in p, (ap sum_in p, shows_once (shown_by b.turn) d e f r q (subst (λ (u : Turn Phase). Shows (shown_by u) d e r) t a.shows) b.shows))

-- every text is short
few_enrol : (last : Bool) (c : Columns) (s : List ℕ) (t : Turn Columns) → EnrolWay last c s t → length t.text ≤ 80
few_enrol last c s t (EnrolWay.taken l d g i h e) = omega arith
few_enrol last c s t (EnrolWay.refused l d g n h e) = few_refused (number_of n)
few_enrol last c s t (EnrolWay.wait d g h) = omega arith
few_enrol last c s t (EnrolWay.end d) = omega arith
few_enrol last c s t (EnrolWay.cut d g f h) = few_refused 33

few_trace : (last : Bool) (p : Phase) (s : List ℕ) (t : Turn Phase) → TraceWay last p s t → length t.text ≤ 80
few_trace last p s t (TraceWay.begun l x g n z) = omega arith
few_trace last p s t (TraceWay.await x g e) = omega arith
few_trace last p s t (TraceWay.fail l x g k f c) = few_refused (number_of k)
few_trace last p s t (TraceWay.play l sum x y g e r z m) = few_line e.station r
few_trace last p s t (TraceWay.wait sum x g e) = omega arith
few_trace last p s t (TraceWay.end sum x) = omega arith
few_trace last p s t (TraceWay.fault l sum x g k n f c) = few_refused (number_of k)

shown : (x : Printed) (d e : List ℕ) (r : Took) → Shows x d e r → length x.text ≤ 80 → 80 ≤ length d → take r.length e ≡ x.text
shown x d e r a l h =
    ap (λ (o : Put). take o.next o.room) (a.printed ∙ sym (one_in (put d 0) x.text (omega arith) (put (put_at d 0 x.text) (0 + length x.text)) refl refl))
    ∙ put_upto d 0 x.text (omega arith)

-- the turn that an answer, its room and what is left tell
abbrev pub tells_turn : {S : Type 0} → Took → List ℕ → S → Turn S
tells_turn r e x = record { used = r.used; text = take r.length e; ended = r.ended; state = x }

module _ {S : Type 0} (t : Turn S) (d e : List ℕ) (r : Took) (a : Shows (shown_by t) d e r) (l : length t.text ≤ 80) (h : 80 ≤ length d) where
  turn_shown : (x : S) → x ≡ t.state → t ≡ tells_turn r e x
  turn_shown x q = λ i. record { used = sym a.used i; text = sym (shown (shown_by t) d e r a l h) i; ended = sym a.ended i; state = sym q i }

pub one_enrolment : (last : Bool) (c g : Columns) (s d e : List ℕ) (r : Took) → Shows (shown_by (enrol_turn last c s)) d e r → g ≡ (enrol_turn last c s).state → 80 ≤ length d
    → EnrolTurn last c s (tells_turn r e g)
one_enrolment last c g s d e r a m h =
    let t = EnrolTurn.turn last c s in
    subst (λ (u : Turn Columns). EnrolTurn last c s u)
    (turn_shown (enrol_turn last c s) d e r a (few_enrol last c s (enrol_turn last c s) (enrol_turn_way last c s (enrol_turn last c s) t)) h g m) t

-- a trace is begun where bytes are used
abbrev pub begun_by : Centre → Took → Phase
begun_by x r = either (eqb r.used 0) (λ _. Phase.starting x) (λ _. Phase.playing 0 x)

begun_by_lem : (last : Bool) (x : Centre) (s : List ℕ) (t : Turn Phase) → TraceWay last (Phase.starting x) s t → either (eqb t.used 0) (λ _. Phase.starting x) (λ _. Phase.playing 0 x) ≡ t.state
begun_by_lem last x s t (TraceWay.begun l y g n z) = simp (ne_eqb n.next 0 (start_uses s n z))
begun_by_lem last x s t (TraceWay.await y g e) = refl
begun_by_lem last x s t (TraceWay.fail l y g k f c) = refl

pub one_start : (last : Bool) (x : Centre) (s d e : List ℕ) (r : Took) → ((y : Centre) → Shows (shown_by (start_turn last y s)) d e r) → 80 ≤ length d
    → TraceTurn last (Phase.starting x) s (tells_turn r e (begun_by x r))
one_start last x s d e r a h =
    let t = TraceTurn.starts last x s in
    let w = trace_turn_way last (Phase.starting x) s (start_turn last x s) t in
    let b : begun_by x r ≡ (start_turn last x s).state = rw (a x).used (begun_by_lem last x s (start_turn last x s) w) in
    subst (λ (u : Turn Phase). TraceTurn last (Phase.starting x) s u) (turn_shown (start_turn last x s) d e r (a x) (few_trace last (Phase.starting x) s (start_turn last x s) w) h (begun_by x r) b) t

pub one_turn : (x y : Centre) (last : Bool) (sum n : ℕ) (s d e : List ℕ) (r : Took) → Turned x last sum s d y n e r → 80 ≤ length d
    → TraceTurn last (Phase.playing sum x) s (tells_turn r e (Phase.playing n y))
one_turn x y last sum n s d e r a h =
    subst (λ (u : Turn Phase). TraceTurn last (Phase.playing sum x) s u)
    (turn_shown a.turn d e r a.shows (few_trace last (Phase.playing sum x) s a.turn (trace_turn_way last (Phase.playing sum x) s a.turn a.told)) h (Phase.playing n y) (sym a.state))
    a.told
