-- One turn: what is done with the bytes at hand, from the start of the next frame on.
use mathlib.Core.{Path.◌≡◌, List.List, List.[], List.◌∷◌}
use Rattle.std.specs.Prelude.{ℕ, Bool, true, false, ◌&&◌, not}
use lib.{Dec.eqb, ListN.length}
use Rattle.octets.specs.Choice.{either}
use Rattle.forms.specs.Code.Put.{Put, put, put_parts}
use Rattle.record.specs.Meant.{refusal_told}
use Rattle.reading.specs.declared.Unframed.{Unframed}
use Rattle.lines.specs.{Means.MeansFramed, Lines.line_of, Lines.end_line, Lines.stop_lines}
use Rattle.lines.specs.declared.Took.{Took}

-- how many bytes are used, what is printed, and whether it is the last that is
pub record Printed : Type 0 where
  pub used : ℕ
  pub text : List ℕ
  pub ended : Bool

-- a refused frame, of which len bytes are at hand: more may come, none is there, or it is refused
unfoldable pub printed_refused : Bool → ℕ → ℕ → ℕ → Printed
printed_refused last number len refusal =
    either (eqb refusal 1 && not last) (λ _. record { used = 0; text = []; ended = false })
    (λ _. either (eqb len 0) (λ _. record { used = 0; text = end_line number; ended = true })
    (λ _. record { used = 0; text = stop_lines number refusal; ended = true }))

-- by what is read at the start of those bytes: a whole frame uses some
unfoldable pub printed_of : Bool → ℕ → ℕ → Unframed → Printed
printed_of last number len u =
    either (eqb u.used 0) (λ _. printed_refused last number len (refusal_told u.told))
    (λ _. record { used = u.used; text = line_of number u.told; ended = false })

-- the text stands at the start of the room, where there is room for all of it
pub record Shows (x : Printed) (before after : List ℕ) (r : Took) : Type 0 where
  pub used : r.used ≡ x.used
  pub ended : r.ended ≡ x.ended
  pub printed : ◌≡◌ {A = Put} (put after r.length) (put_parts (x.text ∷ []) (put before 0))

pub record Turned (s : List ℕ) (last : Bool) (number : ℕ) (before after : List ℕ) (r : Took) : Type 0 where
  pub frame : Unframed
  pub meant : MeansFramed s frame
  pub shows : Shows (printed_of last number (length s) frame) before after r
