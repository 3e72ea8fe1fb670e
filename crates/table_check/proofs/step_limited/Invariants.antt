-- `table_check::step_limited` meets its contract: after i Sets, their groups stand in front and their rows are put
-- down. Assumes nothing.
use mathlib.Core.Path.{◌≡◌}
use mathlib.Core.Bool.{false}
use Prim.Native.Nat.{ℕ, ◌≤◌, ◌<◌}
use lib.ListN.{length, take}
use Rattle.group_step.specs.GroupRows.{most_groups}
use Rattle.group_limited.specs.LimitedForms.{RowsTell}
use Rattle.group_sight.specs.SightForms.{sets_in, SeesTell}
use Rattle.group_limited.proofs.NamedInTurn.{nameless}
use Rattle.table_check.specs.CheckForms.{groups_in}
use Rattle.table_check.proofs.step_limited.Given as goal

abbrev pub invariant-loop-i : goal.invariant-loop-i
invariant-loop-i l =
    (length l.gs ≡ most_groups)
    × (l.n ≤ most_groups)
    × (take l.n l.gs ≡ groups_in l.recs l.places l.i)
    × (l.rows.names ≡ l.initial.rows.names)
    × RowsTell (sets_in l.recs l.places l.i) l.rows.plain l.rows.contexts
    × SeesTell (sets_in l.recs l.places l.i) l.rows.sees
    × ((j : ℕ) → j < l.i → nameless l.recs l.places j ≡ false)
