-- `table_soundness::unused_zero` meets its contract. Assumes nothing.
use Rattle.table_soundness.proofs.unused_zero.Goals as goal

pub returns : goal.returns
returns c =
    rw (c.is_zero_from64-d.ensures, c.is_zero_from16-b.ensures, c.is_zero_from8-a.ensures)
