-- The members of a version. ms are the Sets of the object in the order of arrival, g is a group of them: bit i of it
-- stands for the i-th. Assumes nothing.
use Rattle.std.specs.Prelude.{List, map, ℕ, length, get_or}
use Rattle.math_lists.specs.NumbersBelow.{keep}
use Rattle.edit_record.specs.declared.Edit.{Edit}
use Rattle.math_maximal.specs.Groups.{bit}
use Rattle.edit_record.specs.RecordBytes.{no_edit}

-- the members of g
unfoldable pub members_of : List Edit → ℕ → List Edit
members_of ms g = map (λ i. get_or ms i no_edit) (keep (length ms) (bit g))
