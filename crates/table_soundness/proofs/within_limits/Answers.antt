-- `table_soundness::within_limits` meets its contract. Assumes nothing.
use Rattle.table_soundness.proofs.within_limits.Goals as goal

pub returns : goal.returns
returns c = rw c.sites_right.ensures
