-- `table_arrival::put_object` meets its contract. Assumes nothing.
use native.Mathlib.Omega.{arith}
use lib.ListN.{length-set}
use Rattle.table_arrival.proofs.put_object.Goals as goal

pub bounds-objects-at-2 : goal.bounds-objects-at-2
bounds-objects-at-2 c = simp length-set (omega arith)

pub bounds-objects-at-3 : goal.bounds-objects-at-3
bounds-objects-at-3 c = simp length-set (omega arith)
