-- A live host's sessions and table beside those of its frames played again: each station's sessions stand beside each other, and the tables are the same. A
-- frame that is heard, a connection that is lost and an operation that the centre starts keep this, and the frame's reading is the same on both sides.
-- Assumes nothing.
use mathlib.Core.Path.{◌≡◌, refl, sym, ap, ap₂, subst, subst₂, ◌∙◌}
use mathlib.Core.Bool.{Bool, true, false, not, ◌&&◌}
use mathlib.Core.List.{List}
use Prim.Native.Nat.{ℕ, ◌<◌}
use lib.{Dec.eqb, ListN.length}
use borrow.Author.Tests.{eqb-true, eqb-false}
use Rattle.octets.specs.Choice.{either}
use Rattle.frame.specs.Frame.{payload_of}
use Rattle.record.specs.declared.Message.{Message}
use Rattle.record.specs.Meant.{Answered}
use Rattle.record.proofs.Answers.{one_answer, read_writes}
use Rattle.session.proofs.Image.{tested}
use Rattle.meters.specs.Columns.{Columns}
use Rattle.steps.specs.Called.{begin_on, lost_session}
use Rattle.std.specs.Prelude.{Option}
use Rattle.play.specs.declared.Credited.{Credited}
use Rattle.play.specs.Play.{Lends, play_of, scratch}
use Rattle.play.specs.Centre.{Centre, centre, session_of, with_session, PlaysFrame}
use Rattle.live.specs.Live.{Lawful, is_read, is_con, is_naming, has_started, for}
use Rattle.live.proofs.{Taken.Ready, Beside.Beside, Beside.loss_beside, Beside.begin_beside, Played.Agree, Played.play_agree}
use Rattle.live.proofs.{Places.Put, Places.as_it_was, Places.put_back}

-- x at the live host, w played again
pub record Abreast (down : ℕ → Bool) (x w : Centre) : Type 0 where
  pub live : length x.sessions ≡ 23552
  pub again : length w.sessions ≡ 23552
  pub each : (k : ℕ) → k < 64 → Beside (down k) (session_of x.sessions k) (session_of w.sessions k)
  pub table : x.table ≡ w.table

-- other sessions of station k on both sides
changed : (down : ℕ → Bool) (xs ws : List ℕ) (k : ℕ) (b : Bool) (d e xs' ws' : List ℕ) → Put xs k d xs' → Put ws k e ws' → Beside b d e
    → ((j : ℕ) → j < 64 → Beside (down j) (session_of xs j) (session_of ws j)) → (j : ℕ) → j < 64 → Beside (for down k b j) (session_of xs' j) (session_of ws' j)
changed down xs ws k b d e xs' ws' p q s each j h = go (eqb j k) refl
  where
    own : Beside b (session_of xs' k) (session_of ws' k)
    own = subst₂ (Beside b) (sym p.own) (sym q.own) s

    go : (t : Bool) → eqb j k ≡ t → Beside (either t (λ _. b) (λ _. down j)) (session_of xs' j) (session_of ws' j)
    go true f = subst (λ (i : ℕ). Beside b (session_of xs' i) (session_of ws' i)) (sym (eqb-true j k f)) own
    go false f = subst₂ (Beside (down j)) (sym (p.other j h (eqb-false j k f))) (sym (q.other j h (eqb-false j k f))) (each j h)

session_long : (d : List ℕ) → Ready d → length d ≡ 368
session_long d r = (tested d r.is).long

module _ (down : ℕ → Bool) (x w : Centre) (a : Abreast down x w) (k : ℕ) (h : k < 64) where
  -- station k's sessions
  abbrev live : List ℕ
  live = session_of x.sessions k

  abbrev again : List ℕ
  again = session_of w.sessions k

  -- a connection is lost
  pub loss_abreast : Abreast (for down k true) (centre (with_session x.sessions k (lost_session live)) x.table) w
  loss_abreast =
      let d = lost_session live in
      let lost = loss_beside (down k) live again (a.each k h) in
      let left = put_back x.sessions a.live k h d (session_long d lost.live) (with_session x.sessions k d) refl in
      let right = as_it_was w.sessions a.again k in
      record {
        live = left.long;
        again = right.long;
        each = changed down x.sessions w.sessions k true d again _ _ left right lost a.each;
        table = a.table;
      }

  -- the centre starts an operation
  pub begin_abreast : (m : Message) (lent room : List ℕ) → Abreast down (centre (with_session x.sessions k (begin_on live m lent room).session) x.table) w
  begin_abreast m lent room =
      let d = (begin_on live m lent room).session in
      let begun = begin_beside (down k) live again (a.each k h) m lent room in
      let xs = with_session x.sessions k d in
      let left = put_back x.sessions a.live k h d (session_long d begun.live) xs refl in
      let right = as_it_was w.sessions a.again k in
      record {
        live = left.long;
        again = right.long;
        each = λ j g. subst (λ (b : Bool). Beside b (session_of xs j) (session_of w.sessions j)) (as_before j)
            (changed down x.sessions w.sessions k (down k) d again xs w.sessions left right begun a.each j g);
        table = a.table;
      }
    where
      as_before : (j : ℕ) → for down k (down k) j ≡ down j
      as_before j = go (eqb j k) refl
        where
          go : (t : Bool) → eqb j k ≡ t → either t (λ _. down k) (λ _. down j) ≡ down j
          go true f = ap down (sym (eqb-true j k f))
          go false f = refl

  -- a frame is heard, whatever is lent at both
  module _ (lends others : Lends) (lawful : Lawful lends) (also : Lawful others) (frame : List ℕ) (y v : Centre) (r t : Option Credited)
      (p : PlaysFrame lends x k frame y r) (q : PlaysFrame others w k frame v t)
      (only : down k ≡ true → is_read p.plays.answer ≡ true → is_con p.plays.answer ≡ true)
      (unnamed : is_naming p.plays.answer ≡ true → has_started live ≡ false) where
    abbrev payload : List ℕ
    payload = payload_of (length frame) frame

    abbrev answer : Answered
    answer = p.plays.answer

    abbrev after : Bool
    after = down k && not (is_con answer)

    same_answer : q.plays.answer ≡ answer
    same_answer = one_answer payload scratch q.plays.answer answer q.plays.meant p.plays.meant

    second : q.played ≡ play_of others again x.table k answer
    second = q.plays.same ∙ ap₂ (λ (c : Columns) (u : Answered). play_of others again c k u) (sym a.table) same_answer

    agree : Agree after p.played q.played
    agree =
        subst₂ (Agree after) (sym p.plays.same) (sym second)
        (play_agree x.table k lends others lawful also (down k) live again (a.each k h)
        answer (read_writes payload scratch answer p.plays.meant) only unnamed)

    pub same_reading : r ≡ t
    same_reading = p.reading ∙ agree.reading ∙ sym q.reading

    pub frame_abreast : Abreast (for down k after) y v
    frame_abreast =
        let d = p.played.session in
        let e = q.played.session in
        let left = put_back x.sessions a.live k h d (session_long d agree.sessions.live) y.sessions p.sessions in
        let right = put_back w.sessions a.again k h e (session_long e agree.sessions.again.ready) v.sessions q.sessions in
        record {
          live = left.long;
          again = right.long;
          each = changed down x.sessions w.sessions k after d e y.sessions v.sessions left right agree.sessions a.each;
          table = p.table ∙ agree.table ∙ sym q.table;
        }
