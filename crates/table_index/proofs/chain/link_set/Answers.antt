-- `table_index::chain::link_set` meets its contract. Assumes nothing.
use native.Mathlib.Omega.{arith}
use lib.ListN.{length-set}
use Rattle.table_index.proofs.chain.link_set.Goals as goal

pub bounds-chains-at-2 : goal.bounds-chains-at-2
bounds-chains-at-2 c = simp length-set (omega arith)

pub bounds-chains-o : goal.bounds-chains-o
bounds-chains-o c = simp length-set (omega arith)

pub bounds-chains-o-2 : goal.bounds-chains-o-2
bounds-chains-o-2 c = simp length-set (omega arith)

pub returns : goal.returns
returns c = rw c.limit_after.ensures
