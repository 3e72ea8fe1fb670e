-- `table_arrival::counted_with` meets its contract. Assumes nothing.
use Rattle.table_arrival.proofs.counted_with.Goals as goal

pub returns : goal.returns
returns c =
    let add = c in
    rw (add.added-sum.ensures, add.sum_record.ensures, add.bumped-held.ensures)
