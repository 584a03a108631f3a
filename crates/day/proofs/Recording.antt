-- A turn over a trace: its start, a record that is played, a fault or the end. Assumes nothing.
use mathlib.Core.{Path.◌≡◌, Path.refl, Path.sym, Path.ap, Path.subst, Path.◌∙◌, List.List, List.[], List.◌∷◌}
use mathlib.Core.Bool.{Bool, false}
use Prim.Native.Nat.{ℕ, ◌+◌, ◌-◌}
use lib.{ListN.length, ListN.take, ListN.drop}
use Rattle.forms.specs.Code.Put.{put, put_parts}
use Rattle.std.specs.Prelude.{Option, Result, Ok, Err}
use Rattle.refusal.specs.declared.Refusal.{Refusal}
use Rattle.groups.specs.declared.Number.{Number}
use Rattle.trace.specs.declared.Entry.{Entry}
use Rattle.trace.specs.Record.{entry_of, start_of}
use Rattle.trace.proofs.Entries.{frame_cut}
use Rattle.play.specs.declared.Credited.{Credited}
use Rattle.play.specs.{Play.replaying, Centre.Centre, Centre.PlaysFrame}
use Rattle.lines.specs.{Turn.Shows, declared.Took.Took}
use Rattle.lines.proofs.Texts.{none_put}
use Rattle.day.specs.{Lines.line_of, Turn.refuses, Turn.refuses_between, Turn.shown_by, Day.started_by, Day.start_turn, Day.record_turn, Day.fault_turn, Day.TraceTurn, Day.Turned}

module _ (last : Bool) (s d : List ℕ) (a : Result Number Refusal) (q : a ≡ start_of s) where
  pub start_fails : (k : Refusal) → a ≡ Err k → (e : List ℕ) (r : Took) → Shows (refuses last k) d e r → (x : Centre) → Shows (shown_by (start_turn last x s)) d e r
  unfolding start_turn
  start_fails k z e r h x = subst (λ (b : Result Number Refusal). Shows (shown_by (started_by last x b)) d e r) (sym z ∙ q) h

  pub start_passes : (n : Number) → a ≡ Ok n → (r : Took) → r ≡ record { used = n.next; length = 0; ended = false } → (x : Centre) → Shows (shown_by (start_turn last x s)) d d r
  unfolding start_turn
  start_passes n z r o x =
      subst (λ (b : Result Number Refusal). Shows (shown_by (started_by last x b)) d d r) (sym z ∙ q)
      (record { used = ap (λ (y : Took). y.used) o; ended = ap (λ (y : Took). y.ended) o; printed = ap (λ (y : Took). put d y.length) o ∙ none_put (put d 0) })

pub ruleset starting = (start_fails, start_passes)

module _ (last : Bool) (sum : ℕ) (s d e : List ℕ) (x : Centre) (a : Result Entry Refusal) (q : a ≡ entry_of sum s) where
  pub fault_turned : (k : Refusal) → a ≡ Err k → (r : Took) → Shows (refuses_between last (length s) k) d e r → Turned x last sum s d x sum e r
  unfolding fault_turn
  fault_turned k z r h = record {
    turn = fault_turn last sum s k x;
    told = TraceTurn.faults last sum x s k (sym q ∙ z);
    state = refl;
    shows = h;
  }

  pub record_turned : (t : Entry) → a ≡ Ok t → (y : Centre) (c : Option Credited) → PlaysFrame replaying x t.station (take (t.from + t.size - t.from) (drop t.from s)) y c → (n : ℕ)
      → put e n ≡ put_parts (line_of t.station c ∷ []) (put d 0) → (r : Took) → r ≡ record { used = t.from + t.size; length = n; ended = false }
      → Turned x last sum s d y (sum + t.gap) e r
  unfolding record_turn
  record_turned t z y c p n l r o = record {
    turn = record_turn sum t y c;
    told = TraceTurn.plays last sum x y s t c (sym q ∙ z) (rw (frame_cut sum s a t q z) at p);
    state = refl;
    shows = record {
      used = ap (λ (u : Took). u.used) o;
      ended = ap (λ (u : Took). u.ended) o;
      printed = ap (λ (u : Took). put e u.length) o ∙ l;
    };
  }

pub ruleset recording = (fault_turned, record_turned)
