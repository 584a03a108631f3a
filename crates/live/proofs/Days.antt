-- There are such days: a host may hear any frames of its stations, whatever it lends, so every trace that can be written is what some host recorded of
-- its day. No connection is lost in it, and the centre starts nothing. Assumes nothing.
use mathlib.Core.Path.{◌≡◌, refl, sym, ap, ◌∙◌}
use mathlib.Core.Bool.{Bool, true, false, not, ◌&&◌}
use mathlib.Core.List.{List, [], ◌∷◌}
use Prim.Native.Nat.{ℕ, ◌+◌, ◌<◌}
use native.Mathlib.Omega.{arith}
use lib.Dec.{eqb}
use borrow.Author.Tests.{leb-true}
use Rattle.octets.specs.Choice.{either}
use Rattle.octets.proofs.{Ranges.true_false, Truth.both}
use Rattle.trace.specs.Record.{is_one_frame, is_time, is_station}
use Rattle.trace.specs.Trace.{Arrival, are_records}
use Rattle.play.specs.{Play.Lends, Play.replaying, Centre.Centre, Centre.session_of}
use Rattle.play.proofs.Settled.{frame_told}
use Rattle.live.specs.Live.{Event, Lawful, Bill, billed, is_read, is_con, is_naming, has_started, for, Lives, Frame, heard, Fresh}
use Rattle.live.specs.Recorded.{frames_of}
use Rattle.live.proofs.{Zeros.replaying_lawful, Abreast.Abreast, Abreast.frame_abreast, Replayed.fresh_abreast}

-- frames of stations below 64
unfoldable pub are_known : List Frame → Bool
are_known [] = true
are_known (f ∷ l) = is_station f.station && are_known l

-- they arrive one after another, with what the host lends for each
unfoldable pub events_of : Lends → List Frame → List Event
events_of h [] = []
events_of h (f ∷ l) = Event.hears f.station f.frame h ∷ events_of h l

pub heard_again : (h : Lends) (l : List Frame) → heard (events_of h l) ≡ l
unfolding heard events_of
heard_again h [] = refl
heard_again h (f ∷ l) = ap (λ (k : List Frame). f ∷ k) (heard_again h l)

-- no connection is lost by a frame
still_up : (down : ℕ → Bool) → ((j : ℕ) → down j ≡ false) → (k : ℕ) (b : Bool) (j : ℕ) → for down k (down k && b) j ≡ false
still_up down up k b j = go (eqb j k)
  where
    go : (t : Bool) → either t (λ _. down k && b) (λ _. down j) ≡ false
    go true = ap (λ (a : Bool). a && b) (up k)
    go false = up j

lives_up : (h : Lends) → Lawful h → (down : ℕ → Bool) → ((j : ℕ) → down j ≡ false) → (x : Centre) → Abreast down x x → (l : List Frame) → are_known l ≡ true
    → (bs : List Bill) × ((y : Centre) × Lives down x (events_of h l) bs y)
unfolding are_known events_of
lives_up h lawful down up x a [] e = ([], (x, Lives.done down x))
lives_up h lawful down up x a (f ∷ l) e =
    let k = f.station in
    let i = both (is_station k) (are_known l) e in
    let below : k < 64 = omega (arith, leb-true k 63 i.0) in
    let p = frame_told h x k f.frame in
    let c = p.1.1.plays.answer in
    let b = not (is_con c) in
    let only : down k ≡ true → is_read c ≡ true → is_con c ≡ true = λ t. true_false (sym t ∙ up k) in
    let unnamed : is_naming c ≡ true → has_started (session_of x.sessions k) ≡ false = λ t. (a.each k below).again.quiet in
    let n = frame_abreast down x x a k below h h lawful lawful f.frame p.0 p.0 p.1.0 p.1.0 p.1.1 p.1.1 only unnamed in
    let q = lives_up h lawful (for down k (down k && b)) (still_up down up k b) p.0 n l i.1 in (
      billed k p.1.0 q.0,
      (
        q.1.0,
        Lives.hears down x p.0 q.1.0 k f.frame h (events_of h l) q.0 p.1.0 below lawful p.1.1 only unnamed q.1.1,
      ),
    )

pub lives_all : (h : Lends) → Lawful h → (x : Centre) → Fresh x → (l : List Frame) → are_known l ≡ true
    → (bs : List Bill) × ((y : Centre) × Lives (λ _. false) x (events_of h l) bs y)
lives_all h lawful x f l e = lives_up h lawful (λ _. false) (λ j. refl) x (fresh_abreast x f) l e

-- the stations of a trace
records_known : (sum : ℕ) (l : List Arrival) → are_records sum l ≡ true → are_known (frames_of l) ≡ true
unfolding are_records frames_of are_known
records_known sum [] h = refl
records_known sum (a ∷ l) h =
    let i = both (is_time (sum + a.gap)) (is_station a.station && (is_one_frame a.frame && are_records (sum + a.gap) l)) h in
    let j = both (is_station a.station) (is_one_frame a.frame && are_records (sum + a.gap) l) i.1 in
    let k = both (is_one_frame a.frame) (are_records (sum + a.gap) l) j.1 in
    simp j.0 (records_known (sum + a.gap) l k.1)

-- a day of which a host recorded this trace
pub record Day (x : Centre) (l : List Arrival) : Type 0 where
  pub events : List Event
  pub bills : List Bill
  pub after : Centre
  pub lives : Lives (λ _. false) x events bills after
  pub recorded : frames_of l ≡ heard events

pub some_day : (x : Centre) → Fresh x → (l : List Arrival) → are_records 0 l ≡ true → Day x l
some_day x f l h =
    let p = lives_all replaying replaying_lawful x f (frames_of l) (records_known 0 l h) in
    record {
      events = events_of replaying (frames_of l);
      bills = p.0;
      after = p.1.0;
      lives = p.1.1;
      recorded = sym (heard_again replaying (frames_of l));
    }
