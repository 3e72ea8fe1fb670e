-- `edit_causal::vector_sum` meets its contract: the total is the sum of the entries passed, each below 65,536. Assumes
-- nothing.
use mathlib.Core.Path.{◌≡◌}
use Prim.Native.Nat.{◌≤◌, ◌*◌}
use lib.ListN.{get_or}
use Rattle.math_lists.specs.NumbersBelow.{sum}
use Rattle.edit_causal.proofs.vector_sum.Given as goal

abbrev pub invariant-loop-x : goal.invariant-loop-x
invariant-loop-x l = (l.total ≡ sum l.x-index (λ j. get_or l.fn.v j 0)) × (l.total ≤ 65535 * l.x-index)
