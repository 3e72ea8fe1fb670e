-- `group_context::put_conflicts` meets its contract: the conflicts of each of the Sets passed stand in its place.
-- Assumes nothing.
use mathlib.Core.Path.{◌∙◌}
use native.Mathlib.Omega.{arith}
use Rattle.group_context.proofs.ConflictRows.{conflict-row}
use Rattle.group_context.proofs.put_conflicts.Goals as goal

pub returns : goal.returns
returns c b rows held i m =
    let l = c.loop-i in
    let a = c.args in
    l.invariant.1 i (omega arith) ∙ conflict-row b a.n a.plain.now a.ctx.now rows held i m
