-- There is one result of playing a payload or a frame, and no second. Assumes nothing.
use mathlib.Core.{Path.◌≡◌, Path.refl, Path.sym, Path.ap, Path.◌∙◌, List.List}
use Rattle.std.specs.Prelude.{Option}
use Prim.Native.Nat.{ℕ}
use lib.ListN.{length}
use Rattle.frame.specs.Frame.{payload_of}
use Rattle.record.specs.{Meant.Answered, Code.Places.answer_at}
use Rattle.record.proofs.{Answered.answer_meant, Answers.one_answer}
use Rattle.meters.specs.Columns.{Columns}
use Rattle.play.specs.declared.Credited.{Credited}
use Rattle.play.specs.{Play.Lends, Play.Played, Play.play_of, Play.scratch, Play.Plays, Centre.Centre, Centre.centre, Centre.session_of, Centre.with_session, Centre.PlaysFrame}

module _ (h : Lends) where
  pub plays_told : (payload d : List ℕ) (c : Columns) (k : ℕ) → (p : Played) × Plays h payload d c k p
  plays_told payload d c k = let a = answer_at payload scratch in (play_of h d c k a, record { answer = a; meant = answer_meant payload scratch; same = refl })

  pub answers_once : (payload d e : List ℕ) (c g : Columns) (k : ℕ) (p q : Played) (m : Plays h payload d c k p) (n : Plays h payload e g k q) → m.answer ≡ n.answer
  answers_once payload d e c g k p q m n = one_answer payload scratch m.answer n.answer m.meant n.meant

  pub plays_once : (payload d : List ℕ) (c : Columns) (k : ℕ) (p q : Played) → Plays h payload d c k p → Plays h payload d c k q → p ≡ q
  plays_once payload d c k p q m n =
      m.same ∙ ap (λ (a : Answered). play_of h d c k a) (answers_once payload d d c c k p q m n) ∙ sym n.same

  module _ (x : Centre) (k : ℕ) (frame : List ℕ) where
    pub frame_told : (y : Centre) × ((r : Option Credited) × PlaysFrame h x k frame y r)
    frame_told =
        let p = plays_told (payload_of (length frame) frame) (session_of x.sessions k) x.table k in (
          centre (with_session x.sessions k p.0.session) p.0.table,
          (
            p.0.reading,
            record { played = p.0; plays = p.1; sessions = refl; table = refl; reading = refl },
          ),
        )

    module _ (y z : Centre) (r q : Option Credited) (m : PlaysFrame h x k frame y r) (n : PlaysFrame h x k frame z q) where
      same_played : m.played ≡ n.played
      same_played = plays_once (payload_of (length frame) frame) (session_of x.sessions k) x.table k m.played n.played m.plays n.plays

      pub centre_once : y ≡ z
      centre_once = λ i. record {
        sessions = (m.sessions ∙ ap (λ (p : Played). with_session x.sessions k p.session) same_played ∙ sym n.sessions) i;
        table = (m.table ∙ ap (λ (p : Played). p.table) same_played ∙ sym n.table) i;
      }

      pub reading_once : r ≡ q
      reading_once = m.reading ∙ ap (λ (p : Played). p.reading) same_played ∙ sym n.reading
