-- `table_kept::put_box` meets its contract. Assumes nothing.
use Rattle.table_kept.proofs.put_box.Goals as goal

pub returns : goal.returns
returns c = rw (c.byte_at.ensures, c.two_at.ensures)
