-- Document 02, Q-3: the calls of the header, made one after another with a payload of bytes, leave what the definition that replay follows says, and always leave
-- something. What the calls have between them is a message's bytes and lent bytes; the record is found again in them. Assumes nothing.
use mathlib.Core.Path.{◌≡◌, refl, sym, ap, subst, ◌∙◌}
use mathlib.Core.{Bool.Bool, Bool.true, Bool.false, Bool.not, List.List, Logic.◌⊎◌, Logic.inl, Logic.inr}
use Prim.Native.Nat.{ℕ, ◌≤◌, ◌<◌}
use native.Mathlib.Omega.{arith}
use lib.{Dec.T, Dec.eqb, Dec.lit<, ListN.length, ListN.length-replicate}
use borrow.Author.Tests.{eq-eqb, ne_eqb, eqb-true, eqb-false}
use Rattle.octets.specs.{Choice.either, Bytes.IsBytes}
use Rattle.octets.proofs.Ranges.{is_false}
use Rattle.refusal.specs.{declared.Broken.Broken, Number.number_of}
use Rattle.refusal.proofs.Numbers.{number_some, number_byte}
use Rattle.element.specs.{Form.Walked, Form.walk_of, Tree.count_of, Meaning.meaning_of}
use Rattle.element.proofs.Whole.{whole_tree}
use Rattle.names.specs.Names.{bytes, commands, command_of, place_in, downlink}
use Rattle.message.specs.Reading.{outer_of}
use Rattle.record.specs.declared.{Body.Body, Message.Message, Counted.Counted, UlData.UlData}
use Rattle.record.specs.{Record.command_in, Says.is_bare, Says.is_named, Fits.fits, Reading.Reading, Reading.reading_of, Code.Places.answer_at}
use Rattle.record.specs.Meant.{Answered, refusal_told, answer_of, lent_size, Meant}
use Rattle.record.proofs.{Typed.Typed, Answered.answer_meant, Answers.one_answer, Answers.read_writes}
use Rattle.session.specs.{Arrive.arrives}
use Rattle.steps.specs.Called.{step_refusal, Called, arrive_on}
use Rattle.std.specs.Prelude.{Option, Result, Ok, Err}
use Rattle.meters.specs.declared.Kind.{Kind, TheVariants.New, TheVariants.Copy}
use Rattle.meters.specs.Answers.{Uplinked, credit_refusal_of}
use Rattle.meters.specs.Columns.{Columns, Done, uplink_on}
use Rattle.writer.proofs.Payloads.{fits_named}
use Rattle.layout.specs.{Image.message_size, Image.message_image, Taken.message_at}
use Rattle.layout.proofs.Back.{image_size, message_back}
use Rattle.chozukpima.specs.Packed.{packed, answer_refusal, answer_happened, kind_number, credit_kind}
use Rattle.chozukpima.specs.{Messages.filled, Messages.Filled, Messages.told_into, Messages.Got, Messages.got, Messages.ReadInto}
use Rattle.chozukpima.specs.Sessions.{Returned, returned, step_answer, arrive_returns}
use Rattle.chozukpima.proofs.Kept.{refusal_back}
use Rattle.play.specs.declared.Credited.{Credited}
use Rattle.play.specs.Play.{Lends, Played, played, no_reading, new_reading, before_arrival, arrival, reading_of as creditedAs, reading_as, credited, to_table, after_arrival, play_told, play_of, scratch, Plays}
use Rattle.play.proofs.Settled.{plays_once}
use Rattle.promises.specs.Played.{before_call, arrive_call, uplink_call, Calls}
use Rattle.promises.proofs.{Lettered.Proper, Lettered.reading_proper, Roomy.fitting_held, Refusing.arrival_small, Refusing.uplink_told}

-- what is told of a payload does not turn on the bytes that are lent, and its record has the widths of its type
abbrev Known : Answered → Type 0
Known r = (x : Counted) → r.told ≡ Ok x → Typed x.message

told_of : (c : ℕ) (d e : List ℕ) (x : Reading) → (answer_of c d x).told ≡ (answer_of c e x).told
told_of c d e (Reading.refused n) = refl
told_of c d e (Reading.reads m f) = refl

known_of : (c : ℕ) (d : List ℕ) (x : Reading) → Proper x → Known (answer_of c d x)
known_of c d (Reading.refused n) p x e = absurd (cc e)
known_of c d (Reading.reads m f) p x e =
    let same : record { count = c; message = m } ≡ x = cc e in
    subst (λ (y : Counted). Typed y.message) same p

abbrev Told : Type 0
Told = Result Counted Broken

abbrev told : Answered → Told
told a = a.told

told_same : (s d e : List ℕ) → lent_size ≤ length d → lent_size ≤ length e → (r q : Answered) → Meant s d r → Meant s e q → r.told ≡ q.told
told_same s d e h l r q m n = go (walk_of s) refl
  where
    go : (x : Walked) → walk_of s ≡ x → r.told ≡ q.told
    go (Err b) w = ap told (m.broken h b w) ∙ sym (ap told (n.broken l b w))
    go (Ok c) w =
        let t = whole_tree s c w in
        ap told (m.whole h t.0 t.1) ∙ told_of (count_of t.0) d e (reading_of (outer_of (meaning_of t.0))) ∙ sym (ap told (n.whole l t.0 t.1))

known : (s d : List ℕ) → IsBytes s → lent_size ≤ length d → (r : Answered) → Meant s d r → Known r
known s d f h r m = go (walk_of s) refl
  where
    go : (x : Walked) → walk_of s ≡ x → Known r
    go (Err b) w = λ x e. absurd (cc (sym (ap told (m.broken h b w)) ∙ e))
    go (Ok c) w =
        let t = whole_tree s c w in
        subst Known (sym (m.whole h t.0 t.1))
        (known_of (count_of t.0) d (reading_of (outer_of (meaning_of t.0))) (reading_proper t.0 (subst IsBytes (sym t.1.bytes) f)))

-- what is taken from an answer
happened_back : (n w v : ℕ) → n < 256 → w < 256 → answer_happened (packed n w v) ≡ w
unfolding packed
happened_back n w v h l = omega arith

told_refusal : (t : Told) (m : List ℕ) → answer_refusal (told_into t m).answer ≡ refusal_told t
unfolding told_into
told_refusal (Ok x) m = refusal_back 0 0 x.count (lit< tt)
told_refusal (Err b) m = refusal_back (number_of b.refusal) 0 b.place (number_byte b.refusal)

-- no refusal's number is 0
told_ok : (t : Told) → refusal_told t ≡ 0 → (x : Counted) × (t ≡ Ok x)
told_ok (Ok x) z = (x, refl)
told_ok (Err b) z = let n = number_some b.refusal in absurd (omega arith)

told_err : (t : Told) → (refusal_told t ≡ 0 → ⊥) → (b : Broken) × (t ≡ Err b)
told_err (Ok x) n = absurd (n refl)
told_err (Err b) n = (b, refl)

told_whole : (t : Told) (m : List ℕ) (x : Counted) → t ≡ Ok x → told_into t m ≡ filled (packed 0 0 x.count) (message_image x.message)
unfolding told_into
told_whole t m x z = ap (λ (u : Told). told_into u m) z

-- an uplink's answer says that a reading is new exactly if it is
module _ (eui counter : ℕ) where
  is_new : (a : Uplinked) (r v : ℕ) → r ≡ credit_refusal_of a → credit_refusal_of a < 256 → answer_happened (packed r (credit_kind a) v) ≡ 17 → creditedAs a eui counter ≡ new_reading eui counter
  unfolding creditedAs
  is_new (Ok c) r v e h q = by c.kind q
    where
      by : (k : Kind) → answer_happened (packed r (kind_number k) v) ≡ 17 → reading_as k eui counter ≡ new_reading eui counter
      by New f = refl
      by Copy f = let b = happened_back r 18 v (omega arith) (lit< tt) in absurd (omega arith)
  is_new (Err n) r v e h q = let b = happened_back r 0 v (omega arith) (lit< tt) in absurd (omega arith)

  not_new : (a : Uplinked) (r v : ℕ) → r ≡ credit_refusal_of a → credit_refusal_of a < 256 → (answer_happened (packed r (credit_kind a) v) ≡ 17 → ⊥) → creditedAs a eui counter ≡ no_reading
  unfolding creditedAs
  not_new (Ok c) r v e h q = by c.kind q
    where
      by : (k : Kind) → (answer_happened (packed r (kind_number k) v) ≡ 17 → ⊥) → reading_as k eui counter ≡ no_reading
      by New f = absurd (f (happened_back r 17 v (omega arith) (lit< tt)))
      by Copy f = refl
  not_new (Err n) r v e h q = refl

-- the body of a message: that of a ulData, or another
ul_data_number : command_of (bytes "ulData") ≡ 7
unfolding command_of commands place_in
ul_data_number = refl

abbrev Sort : Body → Type 0
Sort b = ((x : UlData) × (b ≡ Body.UlData x)) ⊎ (command_in b ≡ command_of (bytes "ulData") → ⊥)

other : (i : ℕ) → T (not (eqb i 7)) → i ≡ command_of (bytes "ulData") → ⊥
other i t e = eqb-false i 7 (sym (is_false (eqb i 7) t)) (e ∙ ul_data_number)

bare_other : (i : ℕ) → T (is_bare i) → i ≡ command_of (bytes "ulData") → ⊥
bare_other i t e = subst (λ (j : ℕ). T (is_bare j)) (e ∙ ul_data_number) t

sort : (b : Body) → T (is_named b) → Sort b
sort (Body.UlData x) t = inl (x, refl)
sort (Body.Con x) t = inr (other 0 tt)
sort (Body.ConRsp x) t = inr (other 1 tt)
sort (Body.StatusRsp x) t = inr (other 2 tt)
sort (Body.Det x) t = inr (other 3 tt)
sort (Body.DetRsp sign) t = inr (other 4 tt)
sort (Body.AttPrp x) t = inr (other 5 tt)
sort (Body.DetPrp eui) t = inr (other 6 tt)
sort (Body.DlDataQue x) t = inr (other downlink tt)
sort (Body.Bare i) t = inr (bare_other i t)

-- the definition, by its tests
module _ (c : Columns) (k : ℕ) where
  module _ (d : List ℕ) (x : UlData) where
    abbrev credit : Done Uplinked
    credit = uplink_on c x.packet.ep_eui x.packet.packet_cnt k

    abbrev Counts : Option Credited → Type 0
    Counts r = played d (uplink_call c x k).columns r ≡ to_table d c k (Body.UlData x)

    counts_new : answer_happened (uplink_call c x k).answer ≡ 17 → Counts (new_reading x.packet.ep_eui x.packet.packet_cnt)
    unfolding to_table credited
    counts_new q =
        let t = uplink_told c x.packet.ep_eui x.packet.packet_cnt k in
        ap (played d credit.columns) (sym (is_new x.packet.ep_eui x.packet.packet_cnt credit.answer credit.refusal _ t.number t.small q))

    counts_none : (answer_happened (uplink_call c x k).answer ≡ 17 → ⊥) → Counts no_reading
    unfolding to_table credited
    counts_none q =
        let t = uplink_told c x.packet.ep_eui x.packet.packet_cnt k in
        ap (played d credit.columns) (sym (not_new x.packet.ep_eui x.packet.packet_cnt credit.answer credit.refusal _ t.number t.small q))

  passes : (d : List ℕ) (b : Body) → (command_in b ≡ command_of (bytes "ulData") → ⊥) → played d c no_reading ≡ to_table d c k b
  unfolding to_table
  passes d (Body.UlData x) n = absurd (n (sym ul_data_number))
  passes d (Body.Con x) n = refl
  passes d (Body.ConRsp x) n = refl
  passes d (Body.StatusRsp x) n = refl
  passes d (Body.Det x) n = refl
  passes d (Body.DetRsp sign) n = refl
  passes d (Body.AttPrp x) n = refl
  passes d (Body.DetPrp eui) n = refl
  passes d (Body.DlDataQue x) n = refl
  passes d (Body.Bare i) n = refl

  after_refused : (b : Body) (a : Called) → (step_refusal a.answer ≡ 0 → ⊥) → played a.session c no_reading ≡ after_arrival c k b a
  unfolding after_arrival
  after_refused b a n = simp (ne_eqb (step_refusal a.answer) 0 n) refl

  after_accepted : (b : Body) (a : Called) → step_refusal a.answer ≡ 0 → to_table a.session c k b ≡ after_arrival c k b a
  unfolding after_arrival
  after_accepted b a z = simp (eq-eqb (step_refusal a.answer) 0 z) refl

  module _ (h : Lends) (d : List ℕ) (a : Answered) where
    play_unread : (b : Broken) → a.told ≡ Err b → played d c no_reading ≡ play_of h d c k a
    unfolding play_of
    play_unread b e = sym (ap (play_told h d c k a.lent) e)

    play_read : (x : Counted) → a.told ≡ Ok x → after_arrival c k x.message.body (arrival h d x.message a.lent) ≡ play_of h d c k a
    unfolding play_of
    play_read x e = sym (ap (play_told h d c k a.lent) e)

-- a message that arrives with bytes that it fits
module _ (h : Lends) (d : List ℕ) where
  arrival_same : (m : Message) (x y : List ℕ) → fits m x ≡ true → fits m y ≡ true → arrival h d m x ≡ arrival h d m y
  unfolding arrival arrive_on arrives
  arrival_same m x y e f = rw (e, f) refl

  abbrev by : Called → Returned
  by a = returned (step_answer a.answer) a.session a.room

  arrives_by : (m x : List ℕ) → length m ≡ message_size
      → arrive_returns (before_call m d) m x h.sc_eui h.uuid h.sign h.room ≡ by (arrival h d (message_at m) x)
  unfolding arrive_returns arrival before_arrival
  arrives_by m x l = simp (eq-eqb (length m) message_size l) refl

  arrival_refusal : (m : Message) (x : List ℕ) → answer_refusal (by (arrival h d m x)).answer ≡ step_refusal (arrival h d m x).answer
  unfolding arrival
  arrival_refusal m x = refusal_back _ _ _ (arrival_small (before_arrival m.body d) m x h.sc_eui h.uuid h.sign h.room)

enough : lent_size ≤ length scratch
enough = let l = length-replicate {A = ℕ} lent_size 0 in omega arith

module _ (h : Lends) (payload m e d : List ℕ) (c : Columns) (k : ℕ) (are : IsBytes payload) (long : length m ≡ message_size) (room : lent_size ≤ length e) where
  -- what the payload means with the lent bytes of the caller, and with replay's
  abbrev here : Answered
  here = answer_at payload e

  abbrev there : Answered
  there = answer_at payload scratch

  same : here.told ≡ there.told
  same = told_same payload e scratch room enough here there (answer_meant payload e) (answer_meant payload scratch)

  knows : Known there
  knows = known payload scratch are enough there (answer_meant payload scratch)

  plays : (p : Played) → p ≡ play_of h d c k there → Plays h payload d c k p
  plays p q = record { answer = there; meant = answer_meant payload scratch; same = q }

  module _ (g : Got) (r : ReadInto payload m e g) where
    got_is : g ≡ got (told_into there.told m) here.lent
    got_is = r.meant long here (answer_meant payload e) ∙ ap (λ (t : Told). got (told_into t m) here.lent) same

    refusal_is : answer_refusal g.answer ≡ refusal_told there.told
    refusal_is = ap (λ (x : Got). answer_refusal x.answer) got_is ∙ told_refusal there.told m

    -- where nothing was refused
    module _ (q : answer_refusal g.answer ≡ 0) where
      whole_there : (x : Counted) × (there.told ≡ Ok x)
      whole_there = told_ok there.told (sym refusal_is ∙ q)

      abbrev own : Message
      own = whole_there.0.message

      fits_there : fits own there.lent ≡ true
      fits_there = read_writes payload scratch there (answer_meant payload scratch) whole_there.0 whole_there.1

      fits_here : fits own here.lent ≡ true
      fits_here = read_writes payload e here (answer_meant payload e) whole_there.0 (same ∙ whole_there.1)

      image_is : g.message ≡ message_image own
      image_is = ap (λ (x : Got). x.message) got_is ∙ ap (λ (x : Filled). x.bytes) (told_whole there.told m whole_there.0 whole_there.1)

      message_is : message_at g.message ≡ own
      message_is = ap message_at image_is ∙ message_back own (fitting_held own there.lent fits_there (knows whole_there.0 whole_there.1))

      abbrev came : Called
      came = arrival h d own there.lent

      call_is : arrive_call h d g ≡ by h d came
      call_is =
          arrives_by h d g.message g.lent (ap length image_is ∙ image_size own)
          ∙ ap (λ (x : Message). by h d (arrival h d x g.lent)) message_is
          ∙ ap (λ (x : Got). by h d (arrival h d own x.lent)) got_is
          ∙ ap (by h d) (arrival_same h d own here.lent there.lent fits_here fits_there)

      sort_is : Sort (message_at g.message).body
      sort_is = subst (λ (x : Message). Sort x.body) (sym message_is) (sort own.body (fits_named own there.lent fits_there))

      session_is : (arrive_call h d g).session ≡ came.session
      session_is = ap (λ (x : Returned). x.session) call_is

      arrival_is : answer_refusal (arrive_call h d g).answer ≡ step_refusal came.answer
      arrival_is = ap (λ (x : Returned). answer_refusal x.answer) call_is ∙ arrival_refusal h d own there.lent

      refused_plays : (answer_refusal (arrive_call h d g).answer ≡ 0 → ⊥) → Plays h payload d c k (played (arrive_call h d g).session c no_reading)
      refused_plays n =
          plays _
          (ap (λ (s : List ℕ). played s c no_reading) session_is ∙ after_refused c k own.body came (λ z. n (arrival_is ∙ z)) ∙ play_read c k h d there whole_there.0 whole_there.1)

      accepted_plays : answer_refusal (arrive_call h d g).answer ≡ 0 → (t : Columns) (x : Option Credited) → ((s : List ℕ) → played s t x ≡ to_table s c k (message_at g.message).body)
          → Plays h payload d c k (played (arrive_call h d g).session t x)
      accepted_plays z t x f =
          plays _
          (ap (λ (s : List ℕ). played s t x) session_is ∙ f came.session ∙ ap (λ (y : Message). to_table came.session c k y.body) message_is
          ∙ after_accepted c k own.body came (sym arrival_is ∙ z) ∙ play_read c k h d there whole_there.0 whole_there.1)

  -- what the calls leave is what is played
  pub calls_play : (p : Played) → Calls h payload m e d c k p → Plays h payload d c k p
  calls_play p (Calls.unread g r n) =
      let w = told_err there.told (λ z. n (refusal_is g r ∙ z)) in
      plays _ (play_unread c k h d there w.0 w.1)
  calls_play p (Calls.refused g r q n) = refused_plays g r q n
  calls_play p (Calls.passed g r q z n) = accepted_plays g r q z c no_reading (λ s. passes c k s (message_at g.message).body n)
  calls_play p (Calls.credited g x r q z b n) =
      accepted_plays g r q z (uplink_call c x k).columns (new_reading x.packet.ep_eui x.packet.packet_cnt)
      (λ s. counts_new c k s x n ∙ ap (to_table s c k) (sym b))
  calls_play p (Calls.uncredited g x r q z b n) =
      accepted_plays g r q z (uplink_call c x k).columns no_reading (λ s. counts_none c k s x n ∙ ap (to_table s c k) (sym b))

  -- the calls always leave something
  reads_into : ReadInto payload m e (got (told_into here.told m) here.lent)
  reads_into = record {
    long = λ n. absurd (n long);
    meant = λ _ a n. ap (λ (x : Answered). got (told_into x.told m) x.lent) (one_answer payload e here a (answer_meant payload e) n);
  }

  abbrev Left : Type 0
  Left = (p : Played) × Calls h payload m e d c k p

  pub calls_all : (p : Played) × Calls h payload m e d c k p
  calls_all = by_read (eqb (answer_refusal g.answer) 0) refl
    where
      g : Got
      g = got (told_into here.told m) here.lent

      by_credit : answer_refusal g.answer ≡ 0 → answer_refusal (arrive_call h d g).answer ≡ 0 → (x : UlData) → (message_at g.message).body ≡ Body.UlData x
          → (b : Bool) → eqb (answer_happened (uplink_call c x k).answer) 17 ≡ b → Left
      by_credit q z x w true f = (_, Calls.credited g x reads_into q z w (eqb-true _ 17 f))
      by_credit q z x w false f = (_, Calls.uncredited g x reads_into q z w (eqb-false _ 17 f))

      by_body : answer_refusal g.answer ≡ 0 → answer_refusal (arrive_call h d g).answer ≡ 0 → Sort (message_at g.message).body → Left
      by_body q z (inl (x, w)) = by_credit q z x w (eqb (answer_happened (uplink_call c x k).answer) 17) refl
      by_body q z (inr n) = (_, Calls.passed g reads_into q z n)

      by_arrival : answer_refusal g.answer ≡ 0 → (b : Bool) → eqb (answer_refusal (arrive_call h d g).answer) 0 ≡ b → Left
      by_arrival q true f = by_body q (eqb-true _ 0 f) (sort_is g reads_into q)
      by_arrival q false f = (_, Calls.refused g reads_into q (eqb-false _ 0 f))

      by_read : (b : Bool) → eqb (answer_refusal g.answer) 0 ≡ b → Left
      by_read true f = by_arrival (eqb-true _ 0 f) (eqb (answer_refusal (arrive_call h d g).answer) 0) refl
      by_read false f = (_, Calls.unread g reads_into (eqb-false _ 0 f))

  -- and what is played is what the calls leave
  pub plays_calls : (p : Played) → Plays h payload d c k p → Calls h payload m e d c k p
  plays_calls p q = subst (Calls h payload m e d c k) (plays_once h payload d c k calls_all.0 p (calls_play calls_all.0 calls_all.1) q) calls_all.1

  -- so the calls leave one thing and no second
  pub calls_once : (p q : Played) → Calls h payload m e d c k p → Calls h payload m e d c k q → p ≡ q
  calls_once p q u v = plays_once h payload d c k p q (calls_play p u) (calls_play q v)
