-- The groups of an object by their definition: all the sets of its Sets that have no conflict inside and can't be
-- enlarged by another of its Sets, ascending. The order of arrival only numbers the Sets. Assumes nothing.
use Rattle.std.specs.Prelude.{List, ℕ, length}
use Rattle.edit_record.specs.declared.Site.{Site}
use Rattle.edit_record.specs.declared.Seq.{Seq}
use Rattle.edit_record.specs.declared.Edit.{Edit}
use Rattle.edit_causal.specs.Conflict.{conflicts_in}
use Rattle.math_maximal.specs.Groups.{every, groups}
use Rattle.edit_history.specs.EditsHeld.{sets_on}

-- of the object whose Sets are ms
unfoldable pub groups_of : List Edit → List ℕ
groups_of ms = groups (conflicts_in ms) (length ms) every

-- of the object whose Create is s.q, where the edits es are held
abbrev pub groups_on : List Edit → Site → Seq → List ℕ
groups_on es s q = groups_of (sets_on s q es)

-- of the object whose Create is c
unfoldable pub true_groups : List Edit → Edit → List ℕ
true_groups es c = groups_on es c.site c.seq
