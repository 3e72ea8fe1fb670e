-- `table_arrival::put_counts` meets its contract. Assumes nothing.
use native.Mathlib.Omega.{arith}
use lib.ListN.{length-set}
use Rattle.table_arrival.proofs.put_counts.Goals as goal

pub bounds-objects-at-2 : goal.bounds-objects-at-2
bounds-objects-at-2 c = simp length-set (omega arith)
