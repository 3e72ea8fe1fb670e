-- `block_store::write_records` meets its contract: the first i records stand in front of the output, and the next is
-- copied into the part behind them. Assumes nothing.
use mathlib.Core.Path.{◌≡◌}
use mathlib.Core.List.{◌++◌}
use Prim.Native.Nat.{◌≤◌}
use lib.ListN.{length, drop}
use Rattle.edit_form.specs.OldForm.{chained}
use Rattle.edit_history.specs.EditsHeld.{bytes_at}
use Rattle.block_store.proofs.write_records.Given as goal

abbrev pub invariant-loop-i : goal.invariant-loop-i
invariant-loop-i l =
    (l.end ≡ length (chained (bytes_at l.records) l.i))
    × (l.end ≤ length l.initial.out)
    × (l.out ≡ chained (bytes_at l.records) l.i ++ drop l.end l.initial.out)
