-- The program's turns, as crates/turns takes them, where the input arrives in pieces of any length. Their state is the next frame's number.
use mathlib.Core.{Path.◌≡◌, Bool.Bool, List.List}
use Rattle.std.specs.Prelude.{ℕ, suc}
use lib.{Dec.eqb, ListN.length}
use Rattle.octets.specs.Choice.{either}
use Rattle.turns.specs.Turns.{Turn}
use Rattle.reading.specs.declared.Unframed.{Unframed}
use Rattle.lines.specs.{Means.MeansFramed, Turn.Printed, Turn.printed_of}

-- where bytes are used, they are a whole frame's, and it is counted
abbrev pub numbered : ℕ → Printed → Turn ℕ
numbered n x = record { used = x.used; text = x.text; ended = x.ended; state = either (eqb x.used 0) (λ _. n) (λ _. suc n) }

-- one turn on the bytes at hand
pub record OneTurn (last : Bool) (number : ℕ) (hand : List ℕ) (t : Turn ℕ) : Type 0 where
  pub frame : Unframed
  pub meant : MeansFramed hand frame
  pub same : t ≡ numbered number (printed_of last number (length hand) frame)
