-- `edit_history::is_larger_somewhere` meets its contract: `found` is what the definition says of the first s entries.
-- Assumes nothing.
use mathlib.Core.Path.{◌≡◌}
use lib.ListN.{get_or}
use lib.Dec.{ltb}
use Rattle.math_lists.specs.NumbersBelow.{some}
use Rattle.edit_history.proofs.is_larger_somewhere.Given as goal

abbrev pub invariant-loop-s : goal.invariant-loop-s
invariant-loop-s l = l.found ≡ some l.s (λ t. ltb (get_or l.w t 0) (get_or l.v t 0))
