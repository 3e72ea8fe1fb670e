-- `list_version::values::sum_of` meets its contract: the total is the sum of the first 2 * i entries, each below
-- 65,536. Assumes nothing.
use mathlib.Core.Path.{◌≡◌}
use Prim.Native.Nat.{◌*◌, ◌≤◌}
use Rattle.math_lists.specs.NumbersBelow.{sum}
use Rattle.edit_record.specs.Layout.{most_sites}
use Rattle.list_version.proofs.SumByPairs.{entry_in}
use Rattle.list_version.proofs.values.sum_of.Given as goal

abbrev pub invariant-loop-i : goal.invariant-loop-i
invariant-loop-i l =
    (2 * l.i ≤ most_sites) × (l.total ≡ sum (2 * l.i) (entry_in l.rec)) × (l.total ≤ 131070 * l.i)
