-- The Creates of a list of edits in the order of the list, and the same by moves made one by one from document 01's
-- order: what the theorem of the moves speaks of. Assumes nothing.
use Rattle.std.specs.Prelude.{not, List, [], ◌∷◌, ◌++◌}
use Rattle.math_lists.specs.SortedLists.{filter}
use Rattle.edit_record.specs.declared.Edit.{Edit}
use Rattle.edit_record.specs.Answer1.{is_top}
use Rattle.edit_history.specs.EditsHeld.{creates}
use Rattle.list_order.specs.Layers.{is_on, in_order, deciding, standing}

-- ---- the Creates in the order of the list

unfoldable pub layered_order : List Edit → List Edit
layered_order es = standing (deciding es) (creates es)

-- ---- by moves

-- the Creates cs but that of e's object, and that one alone
abbrev pub without : Edit → List Edit → List Edit
without e cs = filter (λ c. not (is_on c e)) cs

abbrev pub alone : Edit → List Edit → List Edit
alone e cs = filter (λ c. is_on c e) cs

-- a to-top moves the object's Create to the end
unfoldable pub move : Edit → List Edit → List Edit
move e cs = without e cs ++ alone e cs

-- the moves ls, one by one
unfoldable pub moves : List Edit → List Edit → List Edit
moves cs [] = cs
moves cs (e ∷ ls) = moves (move e cs) ls

-- from document 01's order, the to-top edits in the total order; a to-bottom makes no move
unfoldable pub moved : List Edit → List Edit
moved es = moves (in_order (creates es)) (in_order (filter is_top es))
