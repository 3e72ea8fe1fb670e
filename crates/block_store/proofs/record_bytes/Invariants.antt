-- `block_store::record_bytes` meets its contract: `bytes` is the length of the first i records. Assumes nothing.
use mathlib.Core.Path.{◌≡◌}
use lib.ListN.{length}
use Rattle.edit_form.specs.OldForm.{chained}
use Rattle.edit_history.specs.EditsHeld.{bytes_at}
use Rattle.block_store.proofs.record_bytes.Given as goal

abbrev pub invariant-loop-i : goal.invariant-loop-i
invariant-loop-i l = l.bytes ≡ length (chained (bytes_at l.records) l.i)
