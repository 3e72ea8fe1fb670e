-- The objects of the tables t: their Creates, their Sets, and their order in the printed list, which is document 01's
-- but for the to-top edits of document 02's Req 08 and Req 12. Assumes nothing.
use Rattle.std.specs.Prelude.{true, List, ℕ}
use Rattle.math_lists.specs.NumbersBelow.{keep}
use Rattle.edit_record.specs.declared.Edit.{Edit}
use Rattle.edit_history.specs.EditsHeld.{record_at, sets_on}
use Rattle.table_drawing.specs.Tables.{Tables, place_at, held_by}
use Rattle.list_order.specs.Layers.{deciding, standing}

-- the Create of object o, and its Sets in the order of arrival
abbrev pub create_of : Tables → ℕ → Edit
create_of t o = record_at t.records (place_at t.objects o)

abbrev pub sets_for : Tables → ℕ → List Edit
sets_for t o = sets_on (create_of t o).site (create_of t o).seq (held_by t)

-- what decides the place of object o: its last to-top in the total order, or its Create if it has none
abbrev pub deciding_for : Tables → ℕ → Edit
deciding_for t o = deciding (held_by t) (create_of t o)

-- first the rest, by the total order of their Creates; then those that a to-top decides, the latest rearmost
unfoldable pub objects_of : Tables → List ℕ
objects_of t = standing (deciding_for t) (keep t.counters.objects (λ o. true))
