-- `edit_record::is_aimed_kind` meets its contract. Assumes nothing.
use Rattle.edit_record.proofs.is_aimed_kind.Goals as goal

pub returns : goal.returns
returns c = rw (c.is_layer_kind.ensures, c.is_set_kind.ensures)
