-- No second answer and room meet the statement of a turn; and where the room has 80 bytes, the bytes to be printed are the whole text of that turn.
-- Assumes nothing.
use mathlib.Core.{Path.◌≡◌, Path.refl, Path.sym, Path.ap, Path.◌∙◌, Bool.Bool, List.List, List.[], List.◌∷◌}
use Prim.Native.Nat.{ℕ, ◌+◌, ◌≤◌}
use native.Mathlib.Omega.{arith}
use lib.ListN.{length, take}
use Rattle.octets.{specs.Bytes.put_at, proofs.Writing.put_upto}
use Rattle.frame.specs.Frame.{framed_of, frame_refusal}
use Rattle.forms.specs.Code.Put.{Put, put, put_parts}
use Rattle.forms.proofs.Putting.{one_in}
use Rattle.record.specs.{Record.command_in, Meant.refusal_told, Meant.message_told}
use Rattle.turns.specs.Turns.{Turn}
use Rattle.lines.specs.{Turn.Printed, Turn.printed_of, Turn.Turned, Runs.numbered, Runs.OneTurn, declared.Took.Took}
use Rattle.lines.proofs.{Meaning.framed_once, Made.few_line, Made.few_end, Made.few_stop, Running.Way, Running.turn_way}

module _ (s : List ℕ) (last : Bool) (number : ℕ) (before : List ℕ) where
  -- two answers print the same
  printed_same : (e f : List ℕ) (r q : Took) (a : Turned s last number before e r) (b : Turned s last number before f q)
      → printed_of last number (length s) a.frame ≡ printed_of last number (length s) b.frame
  printed_same e f r q a b = ap (printed_of last number (length s)) (framed_once s a.frame b.frame a.meant b.meant)

  module _ (e f : List ℕ) (r q : Took) (a : Turned s last number before e r) (b : Turned s last number before f q) where
    puts_same : put e r.length ≡ put f q.length
    puts_same =
        a.shows.printed ∙ ap (λ (x : Printed). put_parts (x.text ∷ []) (put before 0)) (printed_same e f r q a b) ∙ sym b.shows.printed

    pub room_settled : e ≡ f
    room_settled = ap (λ (o : Put). o.room) puts_same

    pub turn_settled : r ≡ q
    turn_settled = λ i. record {
      used = (a.shows.used ∙ ap (λ (x : Printed). x.used) (printed_same e f r q a b) ∙ sym b.shows.used) i;
      length = ap (λ (o : Put). o.next) puts_same i;
      ended = (a.shows.ended ∙ ap (λ (x : Printed). x.ended) (printed_same e f r q a b) ∙ sym b.shows.ended) i;
    }

-- every text is short
few : (last : Bool) (n : ℕ) (h : List ℕ) (t : Turn ℕ) → Way last n h t → length t.text ≤ 80
few last n h t (Way.line l m g told e w) = few_line n (refusal_told told) (command_in (message_told told).body) (message_told told).op_id
few last n h t (Way.wait m g e) = omega arith
few last n h t (Way.end m) = few_end n
few last n h t (Way.stop l m g s z c) = few_stop n (frame_refusal (framed_of h))

module _ (s : List ℕ) (last : Bool) (number : ℕ) (before after : List ℕ) (r : Took) (a : Turned s last number before after r) (h : 80 ≤ length before) where
  abbrev text : List ℕ
  text = (printed_of last number (length s) a.frame).text

  shown : take r.length after ≡ text
  shown =
      let e : length text ≤ 80 = few last number s _ (turn_way last number s _ (record { frame = a.frame; meant = a.meant; same = refl })) in
      ap (λ (o : Put). take o.next o.room)
      (a.shows.printed ∙ sym (one_in (put before 0) text (omega arith) (put (put_at before 0 text) (0 + length text)) refl refl))
      ∙ put_upto before 0 text (omega arith)

  pub one_turn : OneTurn last number s (numbered number (record { used = r.used; text = take r.length after; ended = r.ended }))
  one_turn = record {
    frame = a.frame;
    meant = a.meant;
    same = λ i. numbered number (record { used = a.shows.used i; text = shown i; ended = a.shows.ended i });
  }
