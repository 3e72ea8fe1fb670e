-- The printed list over the edits held, es, alone: no tables are in it, and `proofs/AnyOrderSameList` shows that the
-- order of the edits is not either. Assumes nothing.
use mathlib.Core.List.{List, ◌∷◌, flat_map}
use Rattle.std.specs.Prelude.{ℕ, length}
use Rattle.edit_record.specs.declared.Edit.{Edit}
use Rattle.edit_history.specs.EditsHeld.{creates, sets_on}
use Rattle.edit_sum.specs.SumOfEdits.{sum_over}
use Rattle.group_true.specs.TrueGroups.{true_groups}
use Rattle.list_text.specs.HeadAndRefusal.{head_line}
use Rattle.list_line.specs.Line.{object_lines}
use Rattle.list_order.specs.Moves.{layered_order}

-- the lines of the object whose Create is c, by the definition of its groups
unfoldable pub lines_in : List Edit → Edit → List (List ℕ)
lines_in es c = object_lines c (sets_on c.site c.seq es) (true_groups es c)

-- those of all objects, in the order of the list
unfoldable pub version_lines : List Edit → List (List ℕ)
version_lines es = flat_map (lines_in es) (layered_order es)

-- in a drawing of n sites, with line 0
unfoldable pub lines_over : ℕ → List Edit → List (List ℕ)
lines_over n es = head_line n (length (creates es)) (length (version_lines es)) (sum_over es) ∷ version_lines es
