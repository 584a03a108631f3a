-- Document 02, Q-3: the trace that a host recorded of its day, replayed from the same enrolments, prints the readings that the host credited, in their order,
-- and leaves the host's table. By induction over the records, and by the law of a day's credits. Assumes nothing.
use mathlib.Core.Path.{◌≡◌, refl, sym, ap, subst, subst₂, ◌∙◌}
use mathlib.Core.Bool.{true, false, ◌&&◌}
use mathlib.Core.List.{List, [], ◌∷◌, ◌++◌}
use Prim.Native.Nat.{ℕ, ◌+◌}
use Rattle.octets.specs.Choice.{either}
use Rattle.octets.proofs.Truth.{both}
use Rattle.groups.specs.Groups.{groups_of}
use Rattle.meters.specs.Columns.{Columns}
use Rattle.trace.specs.Record.{is_one_frame, is_time, is_station}
use Rattle.trace.specs.Write.{record_bytes}
use Rattle.trace.specs.Trace.{Arrival, records_bytes, trace_bytes, are_records}
use Rattle.trace.proofs.Whole.{start_reads}
use Rattle.trace.proofs.Records.{entry_for, record_reads, record_frame, record_rest}
use Rattle.std.specs.Prelude.{Option, Some, None}
use Rattle.play.specs.declared.Credited.{Credited}
use Rattle.play.specs.Play.{replaying}
use Rattle.play.specs.Centre.{Centre, PlaysFrame}
use Rattle.day.specs.Lines.{line_of}
use Rattle.day.specs.{Enrolments.empty_table, Replay.Enrols, Replay.Replays, Replay.ReplaysTrace, Replay.daybreak, Replay.Prints}
use Rattle.live.specs.Live.{Event, Bill, billed, Lives, Frame, heard, PlaysAll}
use Rattle.live.specs.Recorded.{frames_of, lines_of}
use Rattle.live.proofs.{Zeros.new_fresh, Settled.plays_all, Settled.first, Settled.none_left, Replayed.replay_credits}

-- a reading that is new has a line in front of the others
lines_of_lem : (k : ℕ) (r : Option Credited) (bs : List Bill) → lines_of (billed k r bs) ≡ line_of k r ++ lines_of bs
unfolding lines_of line_of
lines_of_lem k (Some r) bs = refl
lines_of_lem k None bs = refl

-- one record in front of others
module _ (sum : ℕ) (a : Arrival) (time : is_time (sum + a.gap) ≡ true) (known : is_station a.station ≡ true) (whole : is_one_frame a.frame ≡ true) (t : List ℕ) where
  abbrev s : List ℕ
  s = record_bytes a.gap a.station a.frame ++ t

  one_plays : (x y z : Centre) (r : Option Credited) (out : List ℕ) → PlaysFrame replaying x a.station a.frame y r → Replays (sum + a.gap) y t out z
      → Replays sum x s (line_of a.station r ++ out) z
  one_plays x y z r out p q =
      Replays.plays sum x y z s out (entry_for a.gap a.station a.frame) r (record_reads sum a.gap a.station a.frame time known whole t)
      (subst (λ (f : List ℕ). PlaysFrame replaying x a.station f y r) (sym (record_frame sum a.gap a.station a.frame time known whole t)) p)
      (subst (λ (u : List ℕ). Replays (sum + a.gap) y u out z) (sym (record_rest sum a.gap a.station a.frame time known whole t)) q)

-- records behind gaps of any sum
pub records_play : (sum : ℕ) (x : Centre) (l : List Arrival) → are_records sum l ≡ true → (bs : List Bill) (y : Centre) → PlaysAll x (frames_of l) bs y
    → Replays sum x (records_bytes l) (lines_of bs) y
unfolding are_records records_bytes frames_of lines_of
records_play sum x [] h bs y p =
    let n = none_left x bs y p in
    subst₂ (λ (cs : List Bill) (z : Centre). Replays sum x [] (lines_of cs) z) (sym n.0) (sym n.1) (Replays.finished sum x)
records_play sum x (a ∷ l) h bs y p =
    let i = both (is_time (sum + a.gap)) (is_station a.station && (is_one_frame a.frame && are_records (sum + a.gap) l)) h in
    let j = both (is_station a.station) (is_one_frame a.frame && are_records (sum + a.gap) l) i.1 in
    let k = both (is_one_frame a.frame) (are_records (sum + a.gap) l) j.1 in
    let f = first x (record { station = a.station; frame = a.frame }) (frames_of l) bs y p in
    subst (λ (out : List ℕ). Replays sum x (records_bytes (a ∷ l)) out y) (sym (ap lines_of f.bills ∙ lines_of_lem a.station f.reading f.others))
    (one_plays sum a i.0 j.0 k.0 (records_bytes l) x f.after y f.reading (lines_of f.others) f.plays
    (records_play (sum + a.gap) f.after l k.1 f.others y f.all))

-- a whole trace
pub trace_plays : (x : Centre) (l : List Arrival) → are_records 0 l ≡ true → (bs : List Bill) (y : Centre) → PlaysAll x (frames_of l) bs y
    → ReplaysTrace x (trace_bytes l) (lines_of bs) y
unfolding trace_bytes groups_of
trace_plays x l h bs y p =
    ReplaysTrace.starts x y (trace_bytes l) (lines_of bs) (record { value = 1; next = 1 }) (start_reads (records_bytes l)) (records_play 0 x l h bs y p)

-- what a live host recorded of its day, at whatever times
pub replay_prints : (c : Columns) (y : Centre) (es : List Event) (bs : List Bill) → Lives (λ _. false) (daybreak c) es bs y
    → (l : List Arrival) → frames_of l ≡ heard es → are_records 0 l ≡ true
    → (z : Centre) × (ReplaysTrace (daybreak c) (trace_bytes l) (lines_of bs) z × (y.table ≡ z.table))
replay_prints c y es bs lives l e h =
    let p = plays_all (daybreak c) (frames_of l) in
    let z = p.1.0 in
    let q = replay_credits (daybreak c) y z es bs p.0 (new_fresh c) lives (subst (λ (fs : List Frame). PlaysAll (daybreak c) fs p.0 z) e p.1.1) in (
      z,
      (
        subst (λ (cs : List Bill). ReplaysTrace (daybreak c) (trace_bytes l) (lines_of cs) z) (sym q.0) (trace_plays (daybreak c) l h p.0 z p.1.1),
        q.1,
      ),
    )

-- and so the program prints them, from the enrolments that the host's table began with
pub program_prints : (enrolments : List ℕ) (c : Columns) (y : Centre) (es : List Event) (bs : List Bill) → Enrols empty_table enrolments [] c → Lives (λ _. false) (daybreak c) es bs y
    → (l : List Arrival) → frames_of l ≡ heard es → are_records 0 l ≡ true → Prints enrolments (trace_bytes l) (lines_of bs)
program_prints enrolments c y es bs m lives l f a =
    let r = replay_prints c y es bs lives l f a in Prints.replayed enrolments (trace_bytes l) (lines_of bs) c r.0 m r.1.0
