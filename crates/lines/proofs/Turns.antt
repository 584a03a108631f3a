-- What a turn shows, way by way. Assumes nothing.
use mathlib.Core.{Path.◌≡◌, Path.refl, Path.sym, List.List, List.[], List.◌∷◌}
use mathlib.Core.Bool.{Bool, true, false, ◌&&◌, not}
use Prim.Native.Nat.{ℕ, ◌<◌}
use lib.{Dec.eqb, ListN.length}
use borrow.Author.Tests.{eq-eqb, ne_eqb}
use Rattle.forms.specs.Code.Put.{put, put_parts}
use Rattle.reading.specs.declared.Unframed.{Unframed}
use Rattle.record.specs.Meant.{refusal_told}
use Rattle.reading.specs.Framed.{MeantFramed}
use Rattle.lines.specs.{Means.scratch, Lines.line_of, Lines.end_line, Lines.stop_lines}
use Rattle.lines.specs.declared.Took.{Took}
use Rattle.lines.specs.Turn.{printed_refused, printed_of, Shows, Turned}
use Rattle.lines.proofs.Texts.{none_put}

-- more bytes are waited for
pub other_refusal : (refusal : ℕ) (last : Bool) → (refusal ≡ 1 → ⊥) → false ≡ eqb refusal 1 && not last
other_refusal refusal last f = sym (simp (ne_eqb refusal 1 f))

pub not_last : (refusal : ℕ) (last : Bool) → refusal ≡ 1 → not last ≡ eqb refusal 1 && not last
not_last refusal last e = sym (simp (eq-eqb refusal 1 e))

pub ruleset waiting = (other_refusal, not_last)

-- no whole frame
module _ (last : Bool) (number len refusal : ℕ) (d : List ℕ) (w : Bool) (q : w ≡ eqb refusal 1 && not last) where
  pub shows_wait : w ≡ true → Shows (printed_refused last number len refusal) d d (record { used = 0; length = 0; ended = false })
  unfolding printed_refused
  shows_wait t = simp (← q, t) (record { used = refl; ended = refl; printed = none_put (put d 0) })

  module _ (t : w ≡ false) (e : List ℕ) (n : ℕ) where
    pub shows_end : len ≡ 0 → put e n ≡ put_parts (end_line number ∷ []) (put d 0) → Shows (printed_refused last number len refusal) d e (record { used = 0; length = n; ended = true })
    unfolding printed_refused
    shows_end z f = simp (← q, t, eq-eqb len 0 z) (record { used = refl; ended = refl; printed = f })

    pub shows_stop : (len ≡ 0 → ⊥) → put e n ≡ put_parts (stop_lines number refusal ∷ []) (put d 0) → Shows (printed_refused last number len refusal) d e (record { used = 0; length = n; ended = true })
    unfolding printed_refused
    shows_stop z f = simp (← q, t, ne_eqb len 0 z) (record { used = refl; ended = refl; printed = f })

pub ruleset shown = (shows_wait, shows_end, shows_stop)

module _ (s : List ℕ) (last : Bool) (number : ℕ) (d e : List ℕ) (u : Unframed) (lent : List ℕ) (m : MeantFramed s scratch u lent) where
  pub turned_refused : u.used ≡ 0 → (k : ℕ) → k ≡ refusal_told u.told → (r : Took) → Shows (printed_refused last number (length s) k) d e r → Turned s last number d e r
  unfolding printed_of
  turned_refused z k q r h = record { frame = u; meant = record { lent = lent; meant = m }; shows = simp (eq-eqb u.used 0 z) (rw q at h) }

  pub turned_line : (u.used ≡ 0 → ⊥) → (n : ℕ) → put e n ≡ put_parts (line_of number u.told ∷ []) (put d 0)
      → Turned s last number d e (record { used = u.used; length = n; ended = false })
  unfolding printed_of
  turned_line z n h = record {
    frame = u;
    meant = record { lent = lent; meant = m };
    shows = simp (ne_eqb u.used 0 z) (record { used = refl; ended = refl; printed = h });
  }

pub ruleset turned = (turned_refused, turned_line)
