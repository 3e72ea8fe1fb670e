-- `group_kept::put_rows` meets its contract: after i places, the rows of their Sets are put down, where these are
-- proper. Assumes nothing.
use mathlib.Core.Path.{◌≡◌}
use lib.ListN.{length}
use Rattle.edit_causal.specs.ConflictForms.{Proper}
use Rattle.group_sight.specs.SightForms.{sets_in}
use Rattle.group_kept.specs.KeptForms.{RowsKept}
use Rattle.group_kept.proofs.put_rows.Given as goal

abbrev pub invariant-loop-i : goal.invariant-loop-i
invariant-loop-i l =
    (length l.rows ≡ length l.initial.rows)
    × (Proper (sets_in l.recs l.places l.i) → RowsKept (sets_in l.recs l.places l.i) l.rows)
