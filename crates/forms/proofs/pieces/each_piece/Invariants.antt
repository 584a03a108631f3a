-- The entries that are left, put behind those that stand, make all; as many bytes as their lengths say are there. Assumes nothing.
use mathlib.Core.Path.{◌≡◌}
use Prim.Native.Nat.{◌+◌, ◌≤◌}
use lib.ListN.{length, drop}
use Rattle.octets.specs.Pieces.{cut_by, pieces_lent, sum_of}
use Rattle.forms.specs.Code.Put.{Put, put, put_parts, piece_parts}
use Rattle.forms.proofs.Downlinks.{lengths_left}
use Rattle.forms.proofs.pieces.each_piece.Given as goal

abbrev pub invariant-loop-size : goal.invariant-loop-size
invariant-loop-size l =
    (length l.room ≡ length l.initial.room) × (l.from + sum_of (lengths_left l.d l.n l.size-index) ≤ length l.d) × (◌≡◌ {A = Put} (put_parts (piece_parts (cut_by (lengths_left l.d l.n l.size-index) (drop l.from l.d))) (put l.room l.next)) (put_parts (piece_parts (pieces_lent l.n l.d)) (put l.initial.room l.at)))
