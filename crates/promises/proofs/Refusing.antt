-- Each refusal is a byte: of a walk, of a message that arrives, of an uplink. So what is taken from an answer's low byte is the refusal. By the tests of the
-- definitions. Assumes nothing.
use mathlib.Core.Path.{◌≡◌, refl, sym, subst}
use mathlib.Core.Bool.{Bool, true, false, cond, ◌&&◌, not}
use mathlib.Core.{List.List, Logic.◌⊎◌, Logic.inl, Logic.inr}
use Prim.Native.Nat.{ℕ, zero, suc, ◌+◌, ◌<◌}
use lib.{Dec.eqb, Dec.leb, Dec.ltb, Dec.ltb→lt, Dec.lit<, ListN.length, ListN.get_or}
use Rattle.octets.specs.{Choice.either, Size.is_size}
use Rattle.octets.proofs.Ranges.{both_left}
use Rattle.std.specs.Prelude.{Ok, Err}
use Rattle.refusal.proofs.Numbers.{number_byte}
use Rattle.element.specs.Form.{Walked, walk_of, walk_refusal}
use Rattle.record.specs.declared.Message.{Message}
use Rattle.record.specs.Fits.{fits}
use Rattle.session.specs.{Session.Session, Session.Host, Image.session_at, Image.is_session}
use Rattle.session.specs.Arrive.{Outcome, in_state, arrives}
use Rattle.session.proofs.Cases.{by_test}
use Rattle.refusal.specs.declared.Refusal.TheVariants.{Invalid}
use Rattle.steps.specs.Called.{step_refusal, called_by, step_refuses, host_of, arrive_on}
use Rattle.steps.proofs.Kept.{own_refusal, own_or_20}
use Rattle.meters.specs.declared.{Row.Row, Heard.Heard}
use Rattle.meters.specs.Answers.{Uplinked, credit_refusal_of}
use Rattle.meters.specs.Stations.{nobody}
use Rattle.meters.specs.Rows.{hear_of}
use Rattle.meters.specs.Table.{Left, meter_at, no_row, uplink_in}
use Rattle.meters.specs.Columns.{Columns, Done, even, table_rows, uplink_on}
use Rattle.promises.proofs.Left.{Other, in_state_lem}

-- a walk
pub walk_small : (s : List ℕ) → walk_refusal (walk_of s) < 256
walk_small s = go (walk_of s)
  where
    go : (x : Walked) → walk_refusal x < 256
    go (Ok c) = lit< tt
    go (Err b) = number_byte b.refusal

-- a message that arrives
abbrev Own : Outcome → Type 0
Own o = own_refusal o < 256

-- the rules' own refusals are bytes: `Left` goes through them
own : (o : Outcome) → Other o → Own o
own o t = ltb→lt (own_refusal o) 256 (both_left (ltb (own_refusal o) 256) (not (eqb (own_refusal o) 15)) t)

arrives_small : (s : Session) (m : Message) (h : Host) (d : List ℕ) → Own (arrives s m d h)
unfolding arrives
arrives_small s m h d = by_test Own (fits m d) _ _ (own (in_state s.state s m h) (in_state_lem s m h s.state)) (lit< tt)

called_small : (d room : List ℕ) (o : Outcome) → Own o → (step_refusal (called_by d room o).answer) < 256
called_small d room o t = go (own_or_20 d room o)
  where
    go : ((step_refusal (called_by d room o).answer) ≡ own_refusal o) ⊎ ((step_refusal (called_by d room o).answer) ≡ 20) → (step_refusal (called_by d room o).answer) < 256
    go (inl e) = subst (λ (n : ℕ). n < 256) (sym e) t
    go (inr e) = subst (λ (n : ℕ). n < 256) (sym e) (lit< tt)

pub arrival_small : (d : List ℕ) (m : Message) (lent : List ℕ) (e : ℕ) (u g room : List ℕ) → step_refusal (arrive_on d m lent e u g room).answer < 256
unfolding arrive_on
arrival_small d m lent e u g room = go (is_session d)
  where
    o : Outcome
    o = either (eqb (length u) 16 && eqb (length g) 4) (λ _. arrives (session_at d) m lent (host_of e u g)) (λ _. Outcome.refused Invalid)

    small : Own o
    small = by_test Own (eqb (length u) 16 && eqb (length g) 4) _ _ (arrives_small (session_at d) m (host_of e u g) lent) (lit< tt)

    go : (b : Bool) → step_refusal (either b (λ _. called_by d room o) (λ _. step_refuses Invalid d room)).answer < 256
    go true = called_small d room o small
    go false = lit< tt

-- an uplink
by_cond : {A : Type 0} (P : A → Type 0) (b : Bool) (x y : A) → P x → P y → P (cond b x y)
by_cond P true x y p q = p
by_cond P false x y p q = q

heard_small : (i : ℕ) (r : Row) (counter station : ℕ) → credit_refusal_of (hear_of i r counter station).answer < 256
unfolding hear_of
heard_small i r counter station =
    let P : Heard → Type 0 = λ x. credit_refusal_of x.answer < 256 in
    by_cond P (ltb r.last counter) _ _ (lit< tt) (by_cond P (eqb counter r.last && not (eqb r.heard nobody)) _ _ (lit< tt) (lit< tt))

in_small : (rows : List Row) (eui counter station : ℕ) → credit_refusal_of (uplink_in rows eui counter station).answer < 256
unfolding uplink_in
in_small rows eui counter station =
    let P : Left Uplinked → Type 0 = λ x. credit_refusal_of x.answer < 256 in
    by_cond P (ltb 63 station) _ _ (lit< tt)
    (by_cond P (ltb (meter_at rows eui) (length rows)) _ _ (heard_small (meter_at rows eui) (get_or rows (meter_at rows eui) no_row) counter station) (lit< tt))

-- the number of the answer, which is a byte
pub record Told (d : Done Uplinked) : Type 0 where
  pub number : d.refusal ≡ credit_refusal_of d.answer
  pub small : credit_refusal_of d.answer < 256

pub uplink_told : (c : Columns) (eui counter station : ℕ) → Told (uplink_on c eui counter station)
unfolding uplink_on
uplink_told c eui counter station =
    by_cond Told (even c) _ _ (record { number = refl; small = in_small (table_rows c) eui counter station }) (record { number = refl; small = lit< tt })
