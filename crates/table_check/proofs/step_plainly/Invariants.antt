-- `table_check::step_plainly` meets its contract: after i Sets, their groups stand in front. Assumes nothing.
use mathlib.Core.Path.{◌≡◌}
use Prim.Native.Nat.{◌≤◌}
use lib.ListN.{length, take}
use Rattle.edit_record.specs.Layout.{keys}
use Rattle.group_step.specs.GroupRows.{most_groups, most_sets}
use Rattle.table_sets.specs.MaskForms.{MaskedTo}
use Rattle.table_check.specs.CheckForms.{groups_in, joined_with}
use Rattle.table_check.proofs.step_plainly.Given as goal

abbrev pub invariant-loop-i : goal.invariant-loop-i
invariant-loop-i l =
    (length l.gs ≡ most_groups)
    × (l.n ≤ most_groups)
    × (joined_with l.common (take l.n l.gs) ≡ groups_in l.recs l.places l.i)
    × (length l.sets ≡ keys)
    × (length l.tolds ≡ most_sets)
    × MaskedTo l.recs l.places l.i l.sets l.tolds
