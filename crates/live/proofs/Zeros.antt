-- Zeros will do: what the replay lends is lawful, and a day may begin with zeros for the sessions, each of which is a new one. Assumes nothing.
use mathlib.Core.Path.{◌≡◌, refl, sym, ap, ◌∙◌}
use Prim.Native.Nat.{ℕ, zero, suc, ◌+◌, ◌*◌, ◌<◌}
use native.Mathlib.Omega.{arith}
use lib.{Dec.lit<, IntN.pos}
use lib.ListN.{length, replicate, length-replicate, get_or-replicate}
use lib.Seq.{ext_get_or}
use Rattle.octets.specs.Bytes.{IsBytes}
use Rattle.session.specs.{Session.Session, Arrive.is_below, Arrive.lowest_of, Image.is_session}
use Rattle.session.proofs.Back.{new_session, new_is_session}
use Rattle.meters.specs.Columns.{Columns}
use Rattle.play.specs.{Play.zeros, Play.replaying, Centre.centre, Centre.session_of}
use Rattle.live.specs.Live.{Lawful, has_started, Fresh}
use Rattle.live.proofs.Places.{part_long, part_byte}

zeros_bytes : (n : ℕ) → IsBytes (zeros n)
zeros_bytes zero k = lit< tt
zeros_bytes (suc n) zero = lit< tt
zeros_bytes (suc n) (suc k) = zeros_bytes n k

zeros_long : (n : ℕ) → length (zeros n) ≡ n
zeros_long n = length-replicate n 0

pub replaying_lawful : Lawful replaying
replaying_lawful = record { sc_eui = lit< tt; uuid = zeros_long 16; octets = zeros_bytes 16; sign = zeros_long 4; room = omega (arith, zeros_long 1909) }

-- a station's part of zeros
zeros_part : (n k : ℕ) → n ≡ 23552 → k < 64 → session_of (zeros n) k ≡ zeros 368
zeros_part n k e h =
    let long = part_long (zeros n) (zeros_long n ∙ e) k h in
    ext_get_or 0 (session_of (zeros n) k) (zeros 368) (long ∙ sym (zeros_long 368))
    (λ i l. let m : i < 368 = omega arith in
    part_byte (zeros n) k i m ∙ get_or-replicate n (368 * k + i) 0 0 (omega arith) ∙ sym (get_or-replicate 368 i 0 0 m))

pub new_fresh : (c : Columns) → Fresh (centre (replicate 23552 0) c)
new_fresh c = record {
  long = zeros_long 23552;
  octets = zeros_bytes 23552;
  sessions = λ k h. ap is_session (zeros_part 23552 k refl h) ∙ new_is_session;
  idle = λ k h. ap has_started (zeros_part 23552 k refl h) ∙ ap (λ (s : Session). is_below (lowest_of s) (pos 0)) new_session;
}
