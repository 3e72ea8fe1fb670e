-- `table_soundness::is_room_enough` meets its contract. Assumes nothing.
use Rattle.edit_causal.specs.TotalOrder.{vector_sum}
use Rattle.table_soundness.proofs.is_room_enough.Goals as goal

pub returns : goal.returns
unfolding vector_sum
returns c = rw c.vector_sum-total.ensures
