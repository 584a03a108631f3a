-- No second result meets what is said of a write: one answer, and one room afterwards. A refused write leaves the room as it was. Assumes nothing.
use mathlib.Core.{Path.◌≡◌, Path.refl, Path.sym, Path.ap, Path.◌∙◌, Bool.Bool, Bool.true, Bool.false, List.List}
use Prim.Native.Nat.{ℕ, ◌+◌}
use lib.{Dec.leb, ListN.length}
use Rattle.octets.specs.{Choice.either, Bytes.put_at}
use Rattle.octets.proofs.Settled.{one_part}
use Rattle.std.specs.Prelude.{Result, Ok, Err}
use Rattle.refusal.specs.declared.Refusal.{Refusal, TheVariants.RoomTooShort, TheVariants.StationNumber, TheVariants.TimeSum, TheVariants.NotOneFrame}
use Rattle.trace.specs.Record.{is_one_frame, is_time, is_station}
use Rattle.groups.proofs.Goes.{ok_err}
use Rattle.trace.specs.Write.{Recorded, recorded, record_refused, placed_in, record_bytes, record_in, start_in}

once : (r q : Result ℕ Refusal) (d e : List ℕ) (meant : Recorded) → recorded r d ≡ meant → recorded q e ≡ meant → (r ≡ q) × (d ≡ e)
once r q d e meant f g =
    (one_part meant (recorded r d) (recorded q e) f g (λ (x : Recorded). x.answer), one_part meant (recorded r d) (recorded q e) f g (λ (x : Recorded). x.room))

module _ (room : List ℕ) (r q : Result ℕ Refusal) (d e : List ℕ) where
  pub start_once : recorded r d ≡ start_in room → recorded q e ≡ start_in room → (r ≡ q) × (d ≡ e)
  start_once = once r q d e (start_in room)

  pub write_once : (sum gap station : ℕ) (frame : List ℕ) → recorded r d ≡ record_in sum gap station frame room → recorded q e ≡ record_in sum gap station frame room → (r ≡ q) × (d ≡ e)
  write_once sum gap station frame = once r q d e (record_in sum gap station frame room)

-- a refused write
abbrev Keeps : List ℕ → Recorded → Type 0
Keeps room x = (k : Refusal) → x.answer ≡ Err k → x.room ≡ room

placed_keeps : (vs room : List ℕ) → Keeps room (placed_in vs room)
unfolding placed_in
placed_keeps vs room = go (leb (length vs) (length room))
  where
    go : (t : Bool) → Keeps room (either t (λ _. recorded (Ok (length vs)) (put_at room 0 vs)) (λ _. record_refused RoomTooShort room))
    go true k e = absurd (ok_err e)
    go false k e = refl

record_keeps : (sum gap station : ℕ) (frame room : List ℕ) → Keeps room (record_in sum gap station frame room)
unfolding record_in
record_keeps sum gap station frame room = go (is_time (sum + gap)) (is_station station) (is_one_frame frame)
  where
    go : (t u w : Bool) → Keeps room (either t (λ _. either u (λ _. either w (λ _. placed_in (record_bytes gap station frame) room) (λ _. record_refused NotOneFrame room)) (λ _. record_refused StationNumber room)) (λ _. record_refused TimeSum room))
    go false u w k e = refl
    go true false w k e = refl
    go true true false k e = refl
    go true true true k e = placed_keeps (record_bytes gap station frame) room k e

kept : (k : Refusal) (d room : List ℕ) (meant : Recorded) → Keeps room meant → recorded (Err k) d ≡ meant → d ≡ room
kept k d room meant h e = ap (λ (x : Recorded). x.room) e ∙ h k (sym (ap (λ (x : Recorded). x.answer) e))

module _ (room : List ℕ) (k : Refusal) (d : List ℕ) where
  pub refused_start_keeps : recorded (Err k) d ≡ start_in room → d ≡ room
  unfolding start_in
  refused_start_keeps = kept k d room (start_in room) (placed_keeps _ room)

  pub refused_keeps : (sum gap station : ℕ) (frame : List ℕ) → recorded (Err k) d ≡ record_in sum gap station frame room → d ≡ room
  refused_keeps sum gap station frame = kept k d room (record_in sum gap station frame room) (record_keeps sum gap station frame room)
