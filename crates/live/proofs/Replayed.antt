-- Document 02, Q-3: the recorded frames of a host that called in this order, played again, give the readings that it credited, in the same order, and the same
-- table, whatever the centre started at the live host; and the sessions are alike. By induction over the host's calls. Assumes nothing.
use mathlib.Core.Path.{◌≡◌, refl, sym, ap₂, subst, ◌∙◌}
use mathlib.Core.Bool.{Bool, true, false, not, ◌&&◌}
use mathlib.Core.List.{List}
use Prim.Native.Nat.{ℕ, ◌<◌}
use Rattle.octets.specs.Choice.{either}
use Rattle.session.specs.{Centre.lost, Image.session_at}
use Rattle.std.specs.Prelude.{Option}
use Rattle.play.specs.declared.Credited.{Credited}
use Rattle.play.specs.{Play.replaying, Centre.Centre, Centre.session_of}
use Rattle.live.specs.Live.{Event, Bill, billed, is_con, for, Lives, heard, PlaysAll, Fresh}
use Rattle.live.proofs.{Alike.Alike, Taken.ready_in, Beside.Beside, Places.part_bytes, Settled.first, Settled.none_left}
use Rattle.live.proofs.Zeros.{replaying_lawful}
use Rattle.live.proofs.Abreast.{Abreast, loss_abreast, begin_abreast, same_reading, frame_abreast}

-- which stations' connections are lost at the end
unfoldable pub lost_at_end : (down : ℕ → Bool) (x y : Centre) (es : List Event) (bs : List Bill) → Lives down x es bs y → ℕ → Bool
lost_at_end down x y es bs (Lives.done down' x') = down
lost_at_end down x y es bs (Lives.hears down' x' next z k frame h fs cs r lt lawful p only unnamed rest) =
    lost_at_end (for down k (down k && not (is_con p.plays.answer))) next y fs cs rest
lost_at_end down x y es bs (Lives.loses down' x' z k fs cs lt rest) = lost_at_end (for down k true) _ y fs cs rest
lost_at_end down x y es bs (Lives.begins down' x' z k m lent room fs cs lt rest) = lost_at_end down _ y fs cs rest

-- a start is beside itself
pub fresh_abreast : (x : Centre) → Fresh x → Abreast (λ _. false) x x
fresh_abreast x f = record { live = f.long; again = f.long; each = beside; table = refl }
  where
    beside : (k : ℕ) → k < 64 → Beside false (session_of x.sessions k) (session_of x.sessions k)
    beside k h =
        let r = ready_in (session_of x.sessions k) (part_bytes x.sessions f.octets k) (f.sessions k h) in
        record { live = r; again = record { ready = r; quiet = f.idle k h }; alike = refl }

-- from any two that stand abreast
pub stays_alike : (down : ℕ → Bool) (x w y z : Centre) (es : List Event) (bs cs : List Bill) → Abreast down x w → (l : Lives down x es bs y)
    → PlaysAll w (heard es) cs z → (bs ≡ cs) × Abreast (lost_at_end down x y es bs l) y z
unfolding heard lost_at_end
stays_alike down x w y z es bs cs a (Lives.done down' x') q =
    let e = none_left w cs z q in
    (sym e.0, subst (Abreast down x) (sym e.1) a)
stays_alike down x w y z es bs cs a (Lives.hears down' x' next z' k frame h fs ds r lt lawful p only unnamed rest) q =
    let f = first w (record { station = k; frame = frame }) (heard fs) cs z q in
    let b = frame_abreast down x w a k lt h replaying lawful replaying_lawful frame next f.after r f.reading p f.plays only unnamed in
    let s = same_reading down x w a k lt h replaying lawful replaying_lawful frame next f.after r f.reading p f.plays only unnamed in
    let o = stays_alike (for down k (down k && not (is_con p.plays.answer))) next f.after y z fs ds f.others b rest f.all in
    (ap₂ (λ (t : Option Credited) (l : List Bill). billed k t l) s o.0 ∙ sym f.bills, o.1)
stays_alike down x w y z es bs cs a (Lives.loses down' x' z' k fs ds lt rest) q =
    stays_alike (for down k true) _ w y z fs bs cs (loss_abreast down x w a k lt) rest q
stays_alike down x w y z es bs cs a (Lives.begins down' x' z' k m lent room fs ds lt rest) q =
    stays_alike down _ w y z fs bs cs (begin_abreast down x w a k lt m lent room) rest q

-- the readings in their order, and the table
pub replay_credits : (x y z : Centre) (es : List Event) (bs cs : List Bill) → Fresh x → Lives (λ _. false) x es bs y → PlaysAll x (heard es) cs z
    → (bs ≡ cs) × (y.table ≡ z.table)
replay_credits x y z es bs cs f l p =
    let a = stays_alike (λ _. false) x x y z es bs cs (fresh_abreast x f) l p in
    (a.0, a.1.table)

-- the session of a station whose connection is not lost at the end
pub replay_sessions : (x y z : Centre) (es : List Event) (bs cs : List Bill) → Fresh x → (l : Lives (λ _. false) x es bs y) → PlaysAll x (heard es) cs z
    → (k : ℕ) → k < 64 → lost_at_end (λ _. false) x y es bs l k ≡ false → Alike (session_at (session_of y.sessions k)) (session_at (session_of z.sessions k))
replay_sessions x y z es bs cs f l p k h e =
    let s = session_at (session_of z.sessions k) in
    subst (λ (b : Bool). Alike (session_at (session_of y.sessions k)) (either b (λ _. lost s) (λ _. s))) e
    ((stays_alike (λ _. false) x x y z es bs cs (fresh_abreast x f) l p).1.each k h).alike
