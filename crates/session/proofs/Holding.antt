-- Every step of a session that a program can hold leaves one that it can hold, and so is the session in any 368 bytes: IDs fit 64 bits and lists keep
-- their lengths. Of each step by its cases; what a record brings was judged before. Assumes nothing.
use mathlib.Core.{Path.◌≡◌, Path.refl, Path.◌∙◌, List.List, List.[], List.◌∷◌, Option.Option, Option.some, Option.none}
use mathlib.Core.Bool.{Bool, true, false, ◌&&◌}
use Prim.Native.Nat.{ℕ, zero, suc, ◌+◌, ◌-◌, ◌^◌, ◌<◌}
use native.Mathlib.Omega.{arith}
use lib.{Dec.eqb, Dec.ltb, IntN.ℤ, IntN.pos, IntN.negsuc}
use lib.ListN.{length, set, replicate, length-set}
use mir.Syntax.{w64}
use mir.Val.{SFits}
use borrow.Author.Tests.{eqb-false, ltb-true, ltb-false}
use Rattle.octets.specs.{Bytes.IsBytes, Choice.either, Signed.signed_of}
use Rattle.octets.proofs.Widths.{little_below}
use Rattle.names.specs.Names.{bytes, command_of}
use Rattle.record.specs.declared.{Con.Con, Message.Message}
use Rattle.record.specs.{Record.four_of, Record.command_in, Says.sixteen_bytes, Fits.fits}
use Rattle.session.specs.Session.{State, Entry, Session, Host}
use Rattle.session.specs.{Session.State.Waiting, Session.State.Connecting, Session.State.Open, Image.word_at, Image.entries_at, Image.session_at}
use Rattle.session.specs.Place.{same_id, free_place, entry_place, no_entry, entry}
use Rattle.session.specs.Kinds.{Operation, station_starts, centre_starts, operation_by}
use Rattle.session.specs.Arrive.{Outcome, is_below, highest_of, lowest_of, resumes, moved, begun, begun_with, with_station, with_centre, start_at, complete_at, respond_at, in_waiting, in_connecting, in_open, in_state, arrives}
use Rattle.session.specs.Centre.{one_below, last_id, under_id, begin_at, kind_begins, if_open, centre_begins, lost_in, lost}
use Rattle.session.proofs.{Image.sized, Back.AllFit, Back.Held, Judged.id_fits, Judged.eui_fits, Judged.sixteen_long}
use Rattle.session.proofs.Cases.{by_test, by_result, by_choice, by_con}

-- numbers: from 64 bits, 0, and one below another that is not the last
word_fits : (x : ℕ) → x < 2 ^ 64 → SFits w64 (signed_of 64 x)
word_fits x h = go (ltb x (2 ^ 63)) refl
  where
    go : (b : Bool) → ltb x (2 ^ 63) ≡ b → SFits w64 (either b (λ _. pos x) (λ _. negsuc (2 ^ 64 - suc x)))
    go true e = record { sfits = ltb-true x (2 ^ 63) e }
    go false e = record { sfits = omega (arith, ltb-false x (2 ^ 63) e) }

zero_fits : SFits w64 (pos 0)
zero_fits = record { sfits = omega arith }

lowest_fits : (s : Session) → SFits w64 s.lowest → SFits w64 (lowest_of s)
lowest_fits s f = go (is_below (pos 0) s.lowest)
  where
    go : (b : Bool) → SFits w64 (either b (λ _. pos 0) (λ _. s.lowest))
    go true = zero_fits
    go false = f

below_fits : (z : ℤ) → SFits w64 z → same_id z last_id ≡ false → SFits w64 (one_below z)
below_fits (pos n) f e = record { sfits = omega arith }
below_fits (negsuc k) f e =
    let l : k < 2 ^ 63 = f.sfits in
    let n : k ≡ 2 ^ 63 - 1 → ⊥ = eqb-false k (2 ^ 63 - 1) e in
    record { sfits = omega arith }

-- entries: in bytes, all free, and one set
entries_fit : (d : List ℕ) → IsBytes d → (ids kinds n : ℕ) → AllFit (entries_at d ids kinds n)
unfolding entries_at
entries_fit d b ids kinds zero = tt
entries_fit d b ids kinds (suc n) = (word_fits (word_at d ids) (little_below d b ids 8), entries_fit d b (ids + 8) (kinds + 1) n)

free_fit : (n : ℕ) → AllFit (replicate n no_entry)
free_fit zero = tt
free_fit (suc n) = (zero_fits, free_fit n)

set_fits : (t : List Entry) (i : ℕ) (e : Entry) → AllFit t → SFits w64 e.id → AllFit (set t i e)
set_fits [] i e a f = tt
set_fits (x ∷ t) zero e a f = (f, a.1)
set_fits (x ∷ t) (suc i) e a f = (a.0, set_fits t i e a.1 f)

-- the session in bytes
pub held_in : (d : List ℕ) → IsBytes d → length d ≡ 368 → Held (session_at d)
unfolding session_at
held_in d b l = record {
  lists = sized d l;
  eui = little_below d b 0 8;
  highest = word_fits (word_at d 8) (little_below d b 8 8);
  lowest = word_fits (word_at d 16) (little_below d b 16 8);
  station = entries_fit d b 24 280 16;
  centre = entries_fit d b 152 296 16;
}

-- an outcome whose session, if it has one, can be held
abbrev pub Holds : Outcome → Type 0
Holds (Outcome.refused n) = Unit {0}
Holds (Outcome.silent w t) = Held t
Holds (Outcome.replies w t m d) = Held t

anew_held : (eui : ℕ) (bs sc : List ℕ) → eui < 2 ^ 64 → length bs ≡ 16 → length sc ≡ 16 → Held (begun_with eui bs sc)
anew_held eui bs sc h p q = record {
  lists = record { station = refl; centre = refl; bs_uuid = p; sc_uuid = q };
  eui = h;
  highest = zero_fits;
  lowest = zero_fits;
  station = free_fit 16;
  centre = free_fit 16;
}

module _ (s : Session) (g : Held s) where
  moved_held : (x : State) (b : Bool) → Held (moved x b s)
  moved_held x b = record {
    lists = record { station = g.lists.station; centre = g.lists.centre; bs_uuid = g.lists.bs_uuid; sc_uuid = g.lists.sc_uuid };
    eui = g.eui;
    highest = g.highest;
    lowest = g.lowest;
    station = g.station;
    centre = g.centre;
  }

  -- an entry of a side is set, with its number
  station_held : (z : ℤ) (i : ℕ) (e : Entry) → SFits w64 z → SFits w64 e.id → Held (with_station s z (set s.station i e))
  station_held z i e f h = record {
    lists = record { station = length-set s.station i e ∙ g.lists.station; centre = g.lists.centre; bs_uuid = g.lists.bs_uuid; sc_uuid = g.lists.sc_uuid };
    eui = g.eui;
    highest = f;
    lowest = g.lowest;
    station = set_fits s.station i e g.station h;
    centre = g.centre;
  }

  centre_held : (z : ℤ) (i : ℕ) (e : Entry) → SFits w64 z → SFits w64 e.id → Held (with_centre s z (set s.centre i e))
  centre_held z i e f h = record {
    lists = record { station = g.lists.station; centre = length-set s.centre i e ∙ g.lists.centre; bs_uuid = g.lists.bs_uuid; sc_uuid = g.lists.sc_uuid };
    eui = g.eui;
    highest = g.highest;
    lowest = f;
    station = g.station;
    centre = set_fits s.centre i e g.centre h;
  }

  held_start : (k : ℕ) (o : Operation) (z : ℤ) (p : Option ℕ) → SFits w64 z → Holds (start_at s k o z p)
  held_start k o z none f = tt
  held_start k o z (some i) f = station_held z i (entry z o.start) f f

  held_complete : (p : Option ℕ) → Holds (complete_at s p)
  held_complete none = tt
  held_complete (some i) = station_held s.highest i no_entry g.highest zero_fits

  held_respond : (o : Operation) (z : ℤ) (p : Option ℕ) → Holds (respond_at s o z p)
  held_respond o z none = tt
  held_respond o z (some i) = centre_held s.lowest i no_entry g.lowest zero_fits

  held_open : (k c : ℕ) (z : ℤ) → SFits w64 z → Holds (in_open s k c z)
  unfolding in_open
  held_open k c z f =
      by_choice Holds (operation_by (λ o. o.start) station_starts c) _ _ (λ o. by_test Holds (is_below (highest_of s) z) _ _ (held_start k o z (free_place s.station) f) tt)
      (by_choice Holds (operation_by (λ o. o.cmp) station_starts c) _ _ (λ o. held_complete (entry_place z o.start s.station))
      (by_choice Holds (operation_by (λ o. o.rsp) centre_starts c) _ _ (λ o. held_respond o z (entry_place z o.start s.centre)) tt))

  held_connecting : (c : ℕ) (z : ℤ) → Holds (in_connecting s c z)
  unfolding in_connecting
  held_connecting c z = by_test Holds (eqb c (command_of (bytes "conCmp")) && same_id z (pos 0)) _ _ (moved_held Open s.stored) tt

  module _ (m : Message) (d : List ℕ) where
    module _ (h : Host) (l : length h.uuid ≡ 16) where
      held_con : (x : Con) → x.bs_eui < 2 ^ 64 → Held (begun h x)
      held_con x e = anew_held x.bs_eui (sixteen_bytes x.sn_bs_uuid) h.uuid e (sixteen_long x.sn_bs_uuid) l

      held_waiting : fits m d ≡ true → Holds (in_waiting s m h)
      unfolding in_waiting
      held_waiting t =
          by_con Holds m.body _ _
          (λ x e. by_test Holds (same_id m.op_id (pos 0)) _ _
          (by_test Holds (eqb x.version.value.major 1 && eqb x.version.value.minor 0) _ _
          (by_test Holds (resumes s x) _ _ (moved_held Connecting s.stored) (held_con x (eui_fits m d t x e))) tt) tt) tt

      held_state : (x : State) → fits m d ≡ true → Holds (in_state x s m h)
      held_state Waiting t = held_waiting t
      held_state Connecting t = held_connecting (command_in m.body) m.op_id
      held_state Open t = held_open (four_of h.sign) (command_in m.body) m.op_id (id_fits m d t)

      pub arrival_held : Holds (arrives s m d h)
      unfolding arrives
      arrival_held = by_result Holds (fits m d) _ _ (held_state s.state) (λ e. tt)

    held_issue : (o : Operation) (z : ℤ) (u : Message) (p : Option ℕ) → SFits w64 z → Holds (begin_at s o z u d p)
    held_issue o z u none f = tt
    held_issue o z u (some i) f = by_test Holds (fits u d) _ _ (centre_held z i (entry z o.start) f f) tt

    pub begin_held : Holds (centre_begins s m d)
    unfolding centre_begins
    begin_held = go s.state
      where
        go : (x : State) → Holds (if_open x (λ _. kind_begins s (command_in m.body) m d))
        go Waiting = tt
        go Connecting = tt
        go Open =
            by_choice Holds (operation_by (λ o. o.start) centre_starts (command_in m.body)) _ _
            (λ o. by_result Holds (same_id (lowest_of s) last_id) _ _ (λ e. tt)
            (λ e. held_issue o (one_below (lowest_of s)) (under_id (one_below (lowest_of s)) m) (free_place s.centre) (below_fits (lowest_of s) (lowest_fits s g.lowest) e))) tt

  held_lost : (x : State) → Held (lost_in x s)
  held_lost Waiting = g
  held_lost Connecting = moved_held Waiting true
  held_lost Open = moved_held Waiting true

  pub loss_held : Held (lost s)
  unfolding lost
  loss_held = held_lost s.state
