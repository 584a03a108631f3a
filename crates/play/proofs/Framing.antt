-- One station's session among all: what playing leaves of it, said of the whole. Assumes nothing.
use mathlib.Core.{Path.◌≡◌, Path.refl, Path.ap, List.List, List.◌++◌}
use Rattle.std.specs.Prelude.{Option}
use Prim.Native.Nat.{ℕ, ◌+◌, ◌-◌, ◌*◌}
use native.Mathlib.Omega.{arith}
use lib.ListN.{length, take, drop}
use Rattle.frame.specs.Frame.{payload_of}
use Rattle.meters.specs.Columns.{Columns}
use Rattle.play.specs.declared.Credited.{Credited}
use Rattle.play.specs.{Play.played, Play.replaying, Play.Plays, Centre.centre, Centre.PlaysFrame}

pub frame_plays : (d frame y payload : List ℕ) (k : ℕ) (c g : Columns) (r : Option Credited) → payload ≡ payload_of (length frame) frame
    → Plays replaying payload (take (368 * k + 368 - 368 * k) (drop (368 * k) d)) c k (played y g r)
    → PlaysFrame replaying (centre d c) k frame (centre (take (368 * k) d ++ (y ++ drop (368 * k + 368 - 368 * k) (drop (368 * k) d))) g) r
frame_plays d frame y payload k c g r f p = record {
  played = played y g r;
  plays = rw (f, q) at p;
  sessions = ap (λ n. take (368 * k) d ++ (y ++ drop n (drop (368 * k) d))) q;
  table = refl;
  reading = refl;
}
  where
    q : 368 * k + 368 - 368 * k ≡ 368
    q = omega arith
