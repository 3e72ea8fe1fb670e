-- `table_soundness::objects::is_below` meets its contract: a group has no bit past its room. Assumes nothing.
use native.Mathlib.Omega.{arith}
use Rattle.table_soundness.proofs.GroupBelowPower.{no-bit-past, all-bits}
use Rattle.table_soundness.proofs.objects.is_below.Goals as goal

pub returns-then-k : goal.returns-then-k
returns-then-k c = no-bit-past c.args.g c.args.k

pub returns-else-k : goal.returns-else-k
returns-else-k c = all-bits c.args.g c.args.k (omega arith) (omega arith)
