-- `table_arrival::is_full` meets its contract. Assumes nothing.
use Rattle.table_arrival.proofs.is_full.Goals as goal

pub returns : goal.returns
returns c = rw c.is_set_kind.ensures
