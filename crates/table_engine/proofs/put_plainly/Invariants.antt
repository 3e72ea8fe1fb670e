-- `table_engine::put_plainly` meets its contract: after i places their Sets have their masks, and stand among those of
-- their keys. Assumes nothing.
use mathlib.Core.Path.{◌≡◌}
use lib.ListN.{length}
use Rattle.edit_record.specs.Layout.{keys}
use Rattle.group_sight.specs.SightForms.{sets_in}
use Rattle.table_sets.specs.MaskForms.{MaskedTo}
use Rattle.table_engine.specs.Enumeration.{most_decided}
use Rattle.table_engine.specs.EngineForms.{MaskedFirst}
use Rattle.table_engine.proofs.put_plainly.Given as goal

abbrev pub invariant-loop-i : goal.invariant-loop-i
invariant-loop-i l =
    (length l.masks ≡ length l.initial.masks)
    × MaskedFirst l.i (sets_in l.recs l.places l.k) l.masks
    × (length l.sets ≡ keys)
    × (length l.tolds ≡ most_decided)
    × MaskedTo l.recs l.places l.i l.sets l.tolds
