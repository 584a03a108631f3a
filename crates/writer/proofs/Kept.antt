-- A refused call leaves the room, and a frame changes the bytes that it takes and no other. By the two tests of the definition. Assumes nothing.
use mathlib.Core.Path.{◌≡◌, refl, sym, ap}
use mathlib.Core.{Bool.Bool, Bool.true, Bool.false, List.List}
use Prim.Native.Nat.{ℕ, ◌+◌, ◌≤◌}
use native.Mathlib.Omega.{arith}
use lib.{Dec.leb, ListN.length, ListN.take, ListN.drop}
use borrow.Author.Tests.{leb-true}
use Rattle.octets.specs.{Choice.either, Bytes.put_at}
use Rattle.octets.proofs.Writing.{put_upto, put_behind, length_put}
use Rattle.record.specs.{Fits.fits, Written.frame_for}
use Rattle.record.specs.declared.Message.{Message}
use Rattle.writer.specs.Write.{Sent, sent, framed, written}
use Rattle.std.specs.Prelude.{Result, Ok, Err}
use Rattle.refusal.specs.declared.Refusal.{Refusal, TheVariants.Invalid, TheVariants.RoomTooShort}

whole_refused : {A : Type 0} (n : ℕ) (k : Refusal) (a b : List ℕ) → sent (Ok n) a ≡ sent (Err k) b → A
whole_refused n k a b e =
    let w : Ok n ≡ Err k = ap (λ (x : Sent). x.answer) e in
    let z : ◌≡◌ {A = ℕ} 0 1 = cc in
    absurd (omega arith)

module _ (f room after : List ℕ) where
  -- n bytes of the room are the frame, and the others are as they were
  abbrev Stays : ℕ → Type 0
  Stays n = (take n after ≡ f) × (drop n after ≡ drop n room) × (length after ≡ length room)

  frame_keeps : (k : Refusal) → sent (Err k) after ≡ framed f room → after ≡ room
  unfolding framed
  frame_keeps k e = go (leb (length f) (length room)) e
    where
      go : (b : Bool) → sent (Err k) after ≡ either b (λ _. sent (Ok (length f)) (put_at room 0 f)) (λ _. sent (Err RoomTooShort) room) → after ≡ room
      go true e = whole_refused (length f) k (put_at room 0 f) after (sym e)
      go false e = ap (λ (x : Sent). x.room) e

  frame_stays : (n : ℕ) → sent (Ok n) after ≡ framed f room → Stays n
  unfolding framed
  frame_stays n e = go (leb (length f) (length room)) refl e
    where
      go : (b : Bool) → leb (length f) (length room) ≡ b → sent (Ok n) after ≡ either b (λ _. sent (Ok (length f)) (put_at room 0 f)) (λ _. sent (Err RoomTooShort) room) → Stays n
      go true h e =
          let i : 0 + length f ≤ length room = omega (arith, leb-true (length f) (length room) h) in
          let s : n ≡ 0 + length f = let w : Ok n ≡ Ok (length f) = ap (λ (x : Sent). x.answer) e in let y : n ≡ length f = cc in omega arith in
          let a : after ≡ put_at room 0 f = ap (λ (x : Sent). x.room) e in
          rw (s, a) (put_upto room 0 f i, put_behind room 0 f i, length_put room 0 f)
      go false h e = whole_refused n RoomTooShort after room e

module _ (m : Message) (d room after : List ℕ) where
  pub refused_keeps : (k : Refusal) → sent (Err k) after ≡ written m d room → after ≡ room
  unfolding written
  refused_keeps k e = go (fits m d) e
    where
      go : (b : Bool) → sent (Err k) after ≡ either b (λ _. framed (frame_for m d) room) (λ _. sent (Err Invalid) room) → after ≡ room
      go true e = frame_keeps (frame_for m d) room after k e
      go false e = ap (λ (x : Sent). x.room) e

  pub rest_stays : (n : ℕ) → sent (Ok n) after ≡ written m d room → (take n after ≡ frame_for m d) × (drop n after ≡ drop n room) × (length after ≡ length room)
  unfolding written
  rest_stays n e = go (fits m d) e
    where
      go : (b : Bool) → sent (Ok n) after ≡ either b (λ _. framed (frame_for m d) room) (λ _. sent (Err Invalid) room) → Stays (frame_for m d) room after n
      go true e = frame_stays (frame_for m d) room after n e
      go false e = whole_refused n Invalid after room e

pub ruleset kept = (refused_keeps, rest_stays)
