-- What one call leaves, the next one takes: a message of its length that fits its data, as `read` leaves it where it refuses nothing, is refused with 15
-- by no writer, nor by `arrive` or `begin` with a session's bytes. By the tests of the definitions. Assumes nothing.
use mathlib.Core.Path.{◌≡◌, sym, ap, subst, ◌∙◌}
use mathlib.Core.Bool.{Bool, true, false, ◌&&◌, not}
use mathlib.Core.{List.List, List.[], List.◌∷◌, Logic.◌⊎◌, Logic.inl, Logic.inr, Option.Option, Option.some, Option.none}
use Prim.Native.Nat.{ℕ, suc, ◌-◌, ◌^◌, ◌<◌}
use native.Mathlib.Omega.{arith}
use lib.Dec.{T, eqb, leb, ltb, ltb→lt, lit<}
use lib.{IntN.ℤ, IntN.pos, IntN.negsuc, ListN.length, ListN.drop, Signed.mag}
use borrow.Author.Tests.{eq-eqb, le-leb, eqb-false}
use Rattle.octets.specs.{Choice.either, Bytes.put_at}
use Rattle.octets.proofs.Ranges.{both_left, both_right, is_false, true_is}
use Rattle.names.specs.Names.{bytes, same_bytes, commands, name_at, command_of}
use Rattle.message.specs.Fields.{Field, headed, lists, fields_of}
use Rattle.message.proofs.KeyKinds.{passes}
use Rattle.field.specs.Judge.{in_range}
use Rattle.saying.specs.Says.{Part, Saying, says, part_in, id, string}
use Rattle.saying.specs.Fits.{within, field_fits}
use Rattle.saying.proofs.Shown.{AllFit}
use Rattle.record.specs.declared.Message.{Message}
use Rattle.record.specs.{Record.command_in, Fits.fits, Written.frame_for}
use Rattle.record.specs.Says.{tested, is_named, body_sayings, sayings_of}
use Rattle.record.proofs.{Commands.command, Commands.begins as begins-so, Faultless.each_fits, Faultless.all_fit}
use Rattle.std.specs.Prelude.{Ok, Err}
use Rattle.writer.specs.Write.{sent, framed, written, write_refusal}
use Rattle.session.specs.{Session.State, Session.Session, Session.Host, Session.State.Waiting, Session.State.Connecting, Session.State.Open}
use Rattle.session.specs.{Place.same_id, Place.free_place, Place.entry_place}
use Rattle.session.specs.Kinds.{Operation, station_starts, centre_starts, operation_by}
use Rattle.session.specs.Arrive.{Outcome, is_below, highest_of, lowest_of, resumes, in_waiting, in_connecting, start_at, starts, complete_at, respond_at, in_open, in_state, arrives}
use Rattle.session.specs.Centre.{one_below, last_id, under_id, begin_at, begins, kind_begins, if_open, centre_begins}
use Rattle.session.specs.Image.{lowest_place, word_at, session_at, is_session}
use Rattle.session.proofs.Cases.{by_test, by_result, by_choice, by_con}
use Rattle.refusal.specs.declared.Refusal.TheVariants.{Invalid, RoomTooShort}
use Rattle.steps.specs.Called.{step_refusal, Called, called_by, host_of, arrive_on, begin_on}
use Rattle.steps.proofs.Kept.{own_refusal, own_or_20}
use Rattle.layout.specs.{Image.message_size, Taken.message_at}
use Rattle.layout.proofs.Holds.{signed_small}
use Rattle.chozukpima.specs.{Packed.packed, Packed.answer_refusal, Messages.Filled, Messages.put_by, Messages.write_returns}
use Rattle.chozukpima.specs.Sessions.{Returned, returned, step_answer, arrive_returns, begin_returns}
use Rattle.chozukpima.proofs.Kept.{refusal_back}

-- a byte other than 15, and an answer that has it for its refusal
abbrev pub is_other : ℕ → Bool
is_other n = ltb n 256 && not (eqb n 15)

never : (n happened v : ℕ) → T (is_other n) → answer_refusal (packed n happened v) ≡ 15 → ⊥
never n happened v t e =
    let l = ltb→lt n 256 (both_left (ltb n 256) (not (eqb n 15)) t) in
    let o = eqb-false n 15 (sym (is_false (eqb n 15) (both_right (ltb n 256) (not (eqb n 15)) t))) in
    o (sym (refusal_back n happened v l) ∙ e)

-- writing
framed_other : (f room : List ℕ) → T (is_other (write_refusal (framed f room).answer))
unfolding framed
framed_other f room = go (leb (length f) (length room))
  where
    go : (b : Bool) → T (is_other (write_refusal (either b (λ _. sent (Ok (length f)) (put_at room 0 f)) (λ _. sent (Err RoomTooShort) room)).answer))
    go true = tt
    go false = tt

written_other : (m : Message) (d room : List ℕ) → fits m d ≡ true → T (is_other (write_refusal (written m d room).answer))
unfolding written
written_other m d room e =
    subst (λ (b : Bool). T (is_other (write_refusal (either b (λ _. framed (frame_for m d) room) (λ _. sent (Err Invalid) room)).answer))) (sym e)
    (framed_other (frame_for m d) room)

-- a step's own refusal
abbrev pub Other : Outcome → Type 0
Other o = T (is_other (own_refusal o))

called_other : (d room : List ℕ) (o : Outcome) → Other o → T (is_other (step_refusal (called_by d room o).answer))
called_other d room o t = go (own_or_20 d room o)
  where
    go : ((step_refusal (called_by d room o).answer) ≡ own_refusal o) ⊎ ((step_refusal (called_by d room o).answer) ≡ 20) → T (is_other (step_refusal (called_by d room o).answer))
    go (inl e) = subst (λ (n : ℕ). T (is_other n)) (sym e) t
    go (inr e) = subst (λ (n : ℕ). T (is_other n)) (sym e) tt

-- what arrives, behind the judgement of the record
module _ (s : Session) (m : Message) (h : Host) where
  waiting : Other (in_waiting s m h)
  unfolding in_waiting
  waiting =
      by_con Other m.body _ _
      (λ x e. by_test Other (same_id m.op_id (pos 0)) _ _
      (by_test Other (eqb x.version.value.major 1 && eqb x.version.value.minor 0) _ _ (by_test Other (resumes s x) _ _ tt tt) tt) tt) tt

  connecting : (c : ℕ) (z : ℤ) → Other (in_connecting s c z)
  unfolding in_connecting
  connecting c z = by_test Other (eqb c (command_of (bytes "conCmp")) && same_id z (pos 0)) _ _ tt tt

  module _ (sign : ℕ) (z : ℤ) where
    at_start : (o : Operation) (p : Option ℕ) → Other (start_at s sign o z p)
    at_start o none = tt
    at_start o (some i) = tt

    at_cmp : (p : Option ℕ) → Other (complete_at s p)
    at_cmp none = tt
    at_cmp (some i) = tt

    at_rsp : (o : Operation) (p : Option ℕ) → Other (respond_at s o z p)
    at_rsp o none = tt
    at_rsp o (some i) = tt

    started : (o : Operation) → Other (starts s sign o z)
    started o = by_test Other (is_below (highest_of s) z) _ _ (at_start o (free_place s.station)) tt

    operating : (c : ℕ) → Other (in_open s sign c z)
    unfolding in_open
    operating c =
        by_choice Other (operation_by (λ o. o.start) station_starts c) _ _ started
        (by_choice Other (operation_by (λ o. o.cmp) station_starts c) _ _ (λ o. at_cmp (entry_place z o.start s.station))
        (by_choice Other (operation_by (λ o. o.rsp) centre_starts c) _ _ (λ o. at_rsp o (entry_place z o.start s.centre)) tt))

  pub in_state_lem : (x : State) → Other (in_state x s m h)
  in_state_lem Waiting = waiting
  in_state_lem Connecting = connecting (command_in m.body) m.op_id
  in_state_lem Open = operating _ m.op_id (command_in m.body)

  arrives_other : (d : List ℕ) → fits m d ≡ true → Other (arrives s m d h)
  unfolding arrives
  arrives_other d e = subst (λ (b : Bool). Other (either b (λ _. in_state s.state s m h) (λ _. Outcome.refused Invalid))) (sym e) (in_state_lem s.state)

-- a record that fits does so under another ID: no key behind opId is opId
abbrev is_apart : List Field → Bool
is_apart [] = true
is_apart (f ∷ l) = not (same_bytes (bytes "opId") f.key) && is_apart l

apart : (c : ℕ) → T (is_apart (drop 2 (fields_of c)))
unfolding lists
apart c = passes (λ l. is_apart (drop 2 l)) tt c

-- the part of another key
same_part : (a : Saying) (p q : Part) (rs : List Saying) (k : List ℕ) → same_bytes (bytes "opId") k ≡ false → part_in (a ∷ says "opId" p ∷ rs) k ≡ part_in (a ∷ says "opId" q ∷ rs) k
unfolding part_in
same_part a p q rs k e = rw e

other_id : (a : Saying) (p q : Part) (rs : List Saying) (l : List Field) → T (is_apart l) → AllFit (a ∷ says "opId" p ∷ rs) l → AllFit (a ∷ says "opId" q ∷ rs) l
other_id a p q rs [] t f = tt
other_id a p q rs (g ∷ l) t f =
    let here = not (same_bytes (bytes "opId") g.key) in
    let away : same_bytes (bytes "opId") g.key ≡ false = sym (is_false (same_bytes (bytes "opId") g.key) (both_left here (is_apart l) t)) in
    (subst (λ (x : Part). T (field_fits g x)) (same_part a p q rs g.key away) f.0, other_id a p q rs l (both_right here (is_apart l) t) f.1)

in_64 : (z : ℤ) → mag z < 2 ^ 63 → in_range 0x8000000000000000 0x7FFFFFFFFFFFFFFF z ≡ true
in_64 (pos n) h = le-leb n 0x7FFFFFFFFFFFFFFF (omega arith)
in_64 (negsuc k) h = le-leb (suc k) 0x8000000000000000 h

under_fits : (m : Message) (d : List ℕ) (z : ℤ) → mag z < 2 ^ 63 → fits m d ≡ true → fits (under_id z m) d ≡ true
unfolding sayings_of part_in within
under_fits m d z h e =
    let c = command_in m.body in
    let first = begins-so (command c) in
    let l = drop 2 (fields_of c) in
    let name = says "command" (tested (is_named m.body) (string (name_at commands c))) in
    let all : AllFit (sayings_of m d) (headed l) = subst (AllFit (sayings_of m d)) first (each_fits m d e) in
    all_fit (under_id z m) d
    (subst (AllFit (sayings_of (under_id z m) d)) (sym first)
    (all.0, (true_is _ (sym (in_64 z h)), other_id name (id m.op_id) (id z) (body_sayings m.body d) l (apart c) all.1.1)))

-- what the centre begins: the ID issued has 64 bits, as the lowest in the session's bytes has
below_small : (z : ℤ) → mag z < 2 ^ 63 → same_id z last_id ≡ false → mag (one_below z) < 2 ^ 63
below_small (pos n) h e = lit< tt
below_small (negsuc k) h e = let n = eqb-false k (2 ^ 63 - 1) e in omega arith

module _ (s : Session) (low : mag s.lowest < 2 ^ 63) (m : Message) (d : List ℕ) (e : fits m d ≡ true) where
  lowest_small : mag (lowest_of s) < 2 ^ 63
  lowest_small = go (is_below (pos 0) s.lowest)
    where
      go : (b : Bool) → mag (either b (λ _. pos 0) (λ _. s.lowest)) < 2 ^ 63
      go true = lit< tt
      go false = low

  at_begin : (o : Operation) (z : ℤ) → mag z < 2 ^ 63 → (p : Option ℕ) → Other (begin_at s o z (under_id z m) d p)
  at_begin o z h none = tt
  at_begin o z h (some i) = by_result Other (fits (under_id z m) d) _ _ (λ _. tt) (λ f. absurd (subst T (sym (under_fits m d z h e) ∙ f) tt))

  begun : (o : Operation) → Other (begins s o m d)
  begun o =
      by_result Other (same_id (lowest_of s) last_id) _ _ (λ _. tt)
      (λ f. at_begin o (one_below (lowest_of s)) (below_small (lowest_of s) lowest_small f) (free_place s.centre))

  by_state : (x : State) → Other (if_open x (λ _. kind_begins s (command_in m.body) m d))
  by_state Waiting = tt
  by_state Connecting = tt
  by_state Open = by_choice Other (operation_by (λ o. o.start) centre_starts (command_in m.body)) _ _ begun tt

  begins_other : Other (centre_begins s m d)
  unfolding centre_begins
  begins_other = by_state s.state

lowest_64 : (s : List ℕ) → mag (session_at s).lowest < 2 ^ 63
unfolding session_at
lowest_64 s = signed_small 64 (word_at s lowest_place)

-- the calls
module _ (m d : List ℕ) (long : length m ≡ message_size) (fit : fits (message_at m) d ≡ true) (room : List ℕ) where
  writes : write_returns m d room ≡ put_by (written (message_at m) d room)
  unfolding write_returns
  writes = simp (eq-eqb (length m) message_size long)

  pub write_takes : answer_refusal (write_returns m d room).answer ≡ 15 → ⊥
  write_takes e = never _ _ _ (written_other (message_at m) d room fit) (sym (ap (λ (x : Filled). answer_refusal x.answer) writes) ∙ e)

  module _ (s : List ℕ) (session : is_session s ≡ true) where
    abbrev by : Called → Returned
    by c = returned (step_answer c.answer) c.session c.room

    takes : (o : Outcome) → Other o → (r : Returned) → r ≡ by (called_by s room o) → answer_refusal r.answer ≡ 15 → ⊥
    takes o t r q e = never _ _ _ (called_other s room o t) (sym (ap (λ (x : Returned). answer_refusal x.answer) q) ∙ e)

    module _ (eui : ℕ) (u g : List ℕ) (sixteen : length u ≡ 16) (four : length g ≡ 4) where
      arrival : arrive_returns s m d eui u g room ≡ by (called_by s room (arrives (session_at s) (message_at m) d (host_of eui u g)))
      unfolding arrive_returns arrive_on
      arrival = simp (eq-eqb (length m) message_size long, session, eq-eqb (length u) 16 sixteen, eq-eqb (length g) 4 four)

      pub arrive_takes : answer_refusal (arrive_returns s m d eui u g room).answer ≡ 15 → ⊥
      arrive_takes = takes (arrives (session_at s) (message_at m) d (host_of eui u g)) (arrives_other (session_at s) (message_at m) (host_of eui u g) d fit) _ arrival

    beginning : begin_returns s m d room ≡ by (called_by s room (centre_begins (session_at s) (message_at m) d))
    unfolding begin_returns begin_on
    beginning = simp (eq-eqb (length m) message_size long, session)

    pub begin_takes : answer_refusal (begin_returns s m d room).answer ≡ 15 → ⊥
    begin_takes = takes (centre_begins (session_at s) (message_at m) d) (begins_other (session_at s) (lowest_64 s) (message_at m) d fit) _ beginning
