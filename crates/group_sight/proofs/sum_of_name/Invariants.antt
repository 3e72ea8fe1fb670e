-- `group_sight::sum_of_name` meets its contract: after i names, the sum is that of the places of those that
-- are x. Assumes nothing.
use mathlib.Core.Path.{◌≡◌}
use Prim.Native.Nat.{◌*◌, ◌≤◌}
use Rattle.group_sight.specs.SightForms.{found, sum_of_name}
use Rattle.group_sight.proofs.sum_of_name.Given as goal

abbrev pub invariant-loop-i : goal.invariant-loop-i
invariant-loop-i l = (l.t ≡ sum_of_name l.names l.i l.x) × (l.t ≤ l.i * (2 * found))
