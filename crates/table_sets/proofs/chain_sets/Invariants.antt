-- `table_sets::chain_sets` meets its contract: the chain goes through the Sets that stand behind those still to come.
-- Assumes nothing.
use mathlib.Core.Path.{◌≡◌}
use lib.ListN.{length}
use Rattle.table_sets.proofs.OneSetLinked.{LinkedFrom}
use Rattle.table_sets.proofs.chain_sets.Given as goal

abbrev pub invariant-loop-q : goal.invariant-loop-q
invariant-loop-q l = (length l.chain ≡ length l.initial.chain) × LinkedFrom l.recs l.n l.q l.chain
