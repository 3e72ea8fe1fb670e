-- `table_plain::step_in` meets its contract. Assumes nothing.
use Rattle.table_plain.proofs.step_in.Goals as goal

pub returns-then-m-eq0 : goal.returns-then-m-eq0
returns-then-m-eq0 c = rw c.if-m-eq0.true c.gain_at.ensures
