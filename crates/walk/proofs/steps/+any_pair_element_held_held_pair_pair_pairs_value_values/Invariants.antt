-- The measures of the cycle: five times the levels left, and less from a loop to an item, from an item to its parts, from these to the element reader.
-- In both loops the answer from here on is the answer. Assumes nothing.
use Rattle.std.proofs.Common.{◌≡◌, ◌+◌, ◌-◌, ◌*◌, true, false}
use Rattle.element.specs.Code.Items.{items_of}
use Rattle.walk.proofs.steps.+any_pair_element_held_held_pair_pair_pairs_value_values.Given as goal

abbrev pub decreases-any_pair : goal.decreases-any_pair
decreases-any_pair l = 5 * l.left + 1

abbrev pub decreases-element : goal.decreases-element
decreases-element l = 5 * l.left

abbrev pub decreases-held : goal.decreases-held
decreases-held l = 5 * l.left + 1

abbrev pub decreases-held_pair : goal.decreases-held_pair
decreases-held_pair l = 5 * l.left + 2

abbrev pub decreases-pair : goal.decreases-pair
decreases-pair l = 5 * l.left + 3

abbrev pub decreases-pairs : goal.decreases-pairs
decreases-pairs l = 5 * l.left + 4

abbrev pub decreases-value : goal.decreases-value
decreases-value l = 5 * l.left + 2

abbrev pub decreases-values : goal.decreases-values
decreases-values l = 5 * l.left + 4

abbrev pub invariant-pairs-loop : goal.invariant-pairs-loop
invariant-pairs-loop l = items_of l.s l.left true l.n l.at l.count ≡ items_of l.s l.left true (l.n - l.counter) l.next.at l.next.count

abbrev pub invariant-values-loop : goal.invariant-values-loop
invariant-values-loop l = items_of l.s l.left false l.n l.at l.count ≡ items_of l.s l.left false (l.n - l.counter) l.next.at l.next.count
