-- A payload played at two sessions beside each other, with the same table: the table and the reading are the same, and the sessions stay beside each other.
-- By whether it is read, whether it is a con, and whether it is an uplink: no other message has a part in the table, accepted or refused. Assumes nothing.
use mathlib.Core.Path.{◌≡◌, refl, sym, subst}
use mathlib.Core.Bool.{Bool, true, false, not, ◌&&◌}
use mathlib.Core.List.{List}
use Prim.Native.Nat.{ℕ}
use lib.Dec.{eqb}
use Rattle.octets.specs.Choice.{either}
use Rattle.octets.proofs.Ranges.{true_false}
use Rattle.names.specs.Names.{bytes, command_of}
use Rattle.std.specs.Prelude.{Result, Ok, Err}
use Rattle.refusal.specs.declared.Broken.{Broken}
use Rattle.record.specs.declared.{UlData.UlData, Body.Body, Message.Message, Counted.Counted}
use Rattle.record.specs.{Record.command_in, Fits.fits, Meant.Answered}
use Rattle.session.specs.{Arrive.con_in, Image.session_at}
use Rattle.meters.specs.Columns.{Columns}
use Rattle.steps.specs.Called.{step_refusal, Called}
use Rattle.play.specs.Play.{Played, played, no_reading, Lends, before_arrival, arrival, credited, to_table, after_arrival, play_of}
use Rattle.live.specs.Live.{Lawful, is_read, is_con, con_names, is_naming, has_started}
use Rattle.live.proofs.{Alike.Quiet, Beside.Beside, Beside.before_beside, Beside.before_quiet, Beside.arrive_refusal, Beside.arrive_beside}

pub record Agree (down : Bool) (p q : Played) : Type 0 where
  pub sessions : Beside down p.session q.session
  pub table : p.table ≡ q.table
  pub reading : p.reading ≡ q.reading

agree_as : {a b : Bool} {p q : Played} → a ≡ b → Agree b p q → Agree a p q
agree_as {p} {q} e x = subst (λ (b : Bool). Agree b p q) (sym e) x

module _ (c : Columns) (k : ℕ) where
  -- the table takes no look at the session
  uplink_agree : (u : UlData) (x y : Called) → step_refusal x.answer ≡ step_refusal y.answer → Beside false x.session y.session
      → Agree false (after_arrival c k (Body.UlData u) x) (after_arrival c k (Body.UlData u) y)
  unfolding after_arrival to_table credited
  uplink_agree u x y e s = subst (λ (n : ℕ). Agree false (by (eqb n 0) x) (by (eqb (step_refusal y.answer) 0) y)) (sym e) (go (eqb (step_refusal y.answer) 0))
    where
      by : Bool → Called → Played
      by t a = either t (λ _. to_table a.session c k (Body.UlData u)) (λ _. played a.session c no_reading)

      go : (t : Bool) → Agree false (by t x) (by t y)
      go true = record { sessions = s; table = refl; reading = refl }
      go false = record { sessions = s; table = refl; reading = refl }

  -- what is no uplink leaves the table, accepted or refused
  others_agree : (t u : Bool) (d e : List ℕ) → Beside false d e
      → Agree false (either t (λ _. played d c no_reading) (λ _. played d c no_reading)) (either u (λ _. played e c no_reading) (λ _. played e c no_reading))
  others_agree true true d e s = record { sessions = s; table = refl; reading = refl }
  others_agree true false d e s = record { sessions = s; table = refl; reading = refl }
  others_agree false true d e s = record { sessions = s; table = refl; reading = refl }
  others_agree false false d e s = record { sessions = s; table = refl; reading = refl }

  after_agree : (b : Body) (x y : Called) → ((u : UlData) → b ≡ Body.UlData u → step_refusal x.answer ≡ step_refusal y.answer) → Beside false x.session y.session
      → Agree false (after_arrival c k b x) (after_arrival c k b y)
  unfolding after_arrival to_table
  after_agree (Body.UlData u) x y e s = uplink_agree u x y (e u refl) s
  after_agree (Body.Con u) x y e s = others_agree (eqb (step_refusal x.answer) 0) (eqb (step_refusal y.answer) 0) x.session y.session s
  after_agree (Body.ConRsp u) x y e s = others_agree (eqb (step_refusal x.answer) 0) (eqb (step_refusal y.answer) 0) x.session y.session s
  after_agree (Body.StatusRsp u) x y e s = others_agree (eqb (step_refusal x.answer) 0) (eqb (step_refusal y.answer) 0) x.session y.session s
  after_agree (Body.Det u) x y e s = others_agree (eqb (step_refusal x.answer) 0) (eqb (step_refusal y.answer) 0) x.session y.session s
  after_agree (Body.DetRsp u) x y e s = others_agree (eqb (step_refusal x.answer) 0) (eqb (step_refusal y.answer) 0) x.session y.session s
  after_agree (Body.AttPrp u) x y e s = others_agree (eqb (step_refusal x.answer) 0) (eqb (step_refusal y.answer) 0) x.session y.session s
  after_agree (Body.DetPrp u) x y e s = others_agree (eqb (step_refusal x.answer) 0) (eqb (step_refusal y.answer) 0) x.session y.session s
  after_agree (Body.DlDataQue u) x y e s = others_agree (eqb (step_refusal x.answer) 0) (eqb (step_refusal y.answer) 0) x.session y.session s
  after_agree (Body.Bare u) x y e s = others_agree (eqb (step_refusal x.answer) 0) (eqb (step_refusal y.answer) 0) x.session y.session s

  module _ (h g : Lends) (lawful : Lawful h) (other : Lawful g) (down : Bool) (d e : List ℕ) (s : Beside down d e) where
    abbrev con : Body → Bool
    con b = eqb (command_in b) (command_of (bytes "con"))

    -- a message that is read
    read_agree : (m : Message) (lent : List ℕ) → fits m lent ≡ true → (down ≡ true → con m.body ≡ true) → (con_names (con_in m.body) ≡ true → Quiet (session_at d))
        → Agree false (after_arrival c k m.body (arrival h d m lent)) (after_arrival c k m.body (arrival g e m lent))
    unfolding arrival before_arrival
    read_agree m lent f n q =
        let b = before_beside down (con m.body) d e n s in
        after_agree m.body (arrival h d m lent) (arrival g e m lent) (arrive_refusal _ _ b h g lawful other m lent f)
        (arrive_beside _ _ b h g lawful other m lent f (λ t. before_quiet (con m.body) d s.live (q t)))

    -- whether the connection is lost afterwards
    now_up : (a b : Bool) → (a ≡ true → b ≡ true) → a && not b ≡ false
    now_up true true n = refl
    now_up true false n = true_false (sym (n refl))
    now_up false b n = refl

    as_before : (a : Bool) → a && true ≡ a
    as_before true = refl
    as_before false = refl

    abbrev answered : Result Counted Broken → List ℕ → Answered
    answered t lent = record { told = t; lent = lent }

    by_told : (t : Result Counted Broken) (lent : List ℕ) → ((x : Counted) → t ≡ Ok x → fits x.message lent ≡ true)
        → (down ≡ true → is_read (answered t lent) ≡ true → is_con (answered t lent) ≡ true) → (is_naming (answered t lent) ≡ true → has_started d ≡ false)
        → Agree (down && not (is_con (answered t lent))) (play_of h d c k (answered t lent)) (play_of g e c k (answered t lent))
    unfolding play_of
    by_told (Ok x) lent f n q =
        let only : down ≡ true → con x.message.body ≡ true = λ u. n u refl in
        agree_as (now_up down (con x.message.body) only) (read_agree x.message lent (f x refl) only q)
    by_told (Err b) lent f n q = agree_as (as_before down) (record { sessions = s; table = refl; reading = refl })

    pub play_agree : (a : Answered) → ((x : Counted) → a.told ≡ Ok x → fits x.message a.lent ≡ true) → (down ≡ true → is_read a ≡ true → is_con a ≡ true)
        → (is_naming a ≡ true → has_started d ≡ false) → Agree (down && not (is_con a)) (play_of h d c k a) (play_of g e c k a)
    play_agree a f n q = by_told a.told a.lent f n q
