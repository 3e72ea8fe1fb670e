-- `group_sight::vector_in` meets its contract. Assumes nothing.
use mathlib.Core.Path.{ap}
use Rattle.edit_record.specs.declared.Edit.{Edit}
use Rattle.group_sight.proofs.vector_in.Goals as goal

pub returns-then-rec-ge-RECORD : goal.returns-then-rec-ge-RECORD
returns-then-rec-ge-RECORD c = c.vector_of.ensures

pub returns : goal.returns
returns c = ap (λ (e : Edit). e.vector) c.decode-e.ensures
