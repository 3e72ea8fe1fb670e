-- `table_kept::chained::put_chain` meets its contract: the Sets from the place m on are put down, and the chain goes on
-- below it. Assumes nothing.
use mathlib.Core.Path.{◌≡◌}
use Prim.Native.Nat.{ℕ, ◌≤◌}
use Rattle.table_index.specs.IndexForms.{latest_on}
use Rattle.table_kept.specs.ChainForms.{PutFrom}
use Rattle.table_kept.proofs.chained.put_chain.Given as goal

abbrev pub invariant-loop-p : goal.invariant-loop-p
invariant-loop-p l =
    (m : ℕ) × (m ≤ l.n) × (l.p ≡ latest_on l.recs l.q l.key m) × PutFrom l.recs l.n l.q l.key m l.initial.out l.out

abbrev pub decreases-loop-p : goal.decreases-loop-p
decreases-loop-p l = l.p
