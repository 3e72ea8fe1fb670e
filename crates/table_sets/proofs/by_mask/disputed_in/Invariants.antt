-- `table_sets::by_mask::disputed_in` meets its contract: of the Sets passed, those in dispute among them are marked.
-- Assumes nothing.
use mathlib.Core.Path.{◌≡◌}
use lib.ListN.{length}
use Rattle.edit_record.specs.Layout.{keys}
use Rattle.table_sets.specs.MaskForms.{MaskedTo}
use Rattle.table_sets.proofs.DisputesByMarks.{MarkedTo}
use Rattle.table_sets.proofs.by_mask.disputed_in.Given as goal

abbrev pub invariant-loop-i : goal.invariant-loop-i
invariant-loop-i l =
    (length l.sets ≡ keys)
    × (length l.tolds ≡ length l.initial.tolds)
    × MaskedTo l.recs l.places l.i l.sets l.tolds
    × MarkedTo l.recs l.places l.i l.all
