-- The invariant: whether the arrays that are left fit what is left of the bytes is whether all fit. Assumes nothing.
use mathlib.Core.Path.{◌≡◌}
use Prim.Native.Nat.{◌-◌}
use Rattle.field.specs.Code.Item.{pieces_from}
use Rattle.field.proofs.Entries.{fitting}
use Rattle.field.proofs.pieces.pieces_from.Given as goal

abbrev pub invariant-loop-i : goal.invariant-loop-i
invariant-loop-i l = fitting l.room (pieces_from l.most l.s (l.n - l.i) l.q) ≡ fitting l.all (pieces_from l.most l.s l.n l.from)
