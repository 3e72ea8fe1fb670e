-- What tells the versions of an object apart and what they show. ms are the Sets of the object in the order of arrival,
-- g is a group of them. Assumes nothing.
use Rattle.std.specs.Prelude.{List, Bool, ◌&&◌, ℕ, length, get_or}
use Rattle.math_lists.specs.NumbersBelow.{keep}
use Rattle.math_lists.specs.SortedLists.{any}
use Rattle.edit_record.specs.declared.Edit.{Edit}
use Rattle.edit_causal.specs.Conflict.{do_conflict}
use Rattle.math_maximal.specs.Groups.{bit}
use Rattle.edit_record.specs.RecordBytes.{no_edit}

-- a member conflicts with some Set of the object
unfoldable pub is_disputed : List Edit → Edit → Bool
is_disputed ms m = any (do_conflict m) ms

-- a version's identifier, besides the Create: the places of its members that conflict with some Set of the object
unfoldable pub disputed_of : List Edit → ℕ → List ℕ
disputed_of ms g = keep (length ms) (λ i. bit g i && is_disputed ms (get_or ms i no_edit))
