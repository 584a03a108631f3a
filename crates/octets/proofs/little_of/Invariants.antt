-- The invariant: what the iterator has left are the first bytes, and x is the number of those behind them. Assumes nothing.
use mathlib.Core.Path.{◌≡◌}
use Prim.Native.Nat.{◌<◌, ◌≤◌, ◌^◌, ◌-◌}
use lib.ListN.{length, take}
use Rattle.std.specs.Slice.Iter.{iter_rest}
use Rattle.std.specs.Iterator.Adapters.{rev_source}
use Rattle.octets.specs.Number.{little_at}
use Rattle.octets.proofs.little_of.Given as goal

abbrev pub invariant-loop-b : goal.invariant-loop-b
invariant-loop-b l =
    let rest = iter_rest (rev_source l.b-iterator) in
    record {
      can_next : (goal.iterator-loop-b).can_next l.b-iterator;
      is_finite : (goal.iterator-loop-b).is_finite l.b-iterator;
      front : rest ≡ take (length rest) l.d;
      part : length rest ≤ length l.d;
      number : l.x ≡ little_at l.d (length rest) (length l.d - length rest);
      width : l.x < 256 ^ (length l.d - length rest);
    }
