-- `group_limited::left_by` meets its contract. Assumes nothing.
use Rattle.group_limited.proofs.ToldByRows.{next-by-sight}
use Rattle.group_limited.proofs.left_by.Goals as goal

pub returns : goal.returns
returns c ms e few tell sight =
    let a = c.args in
    c.left_of.ensures _ _ few (next-by-sight ms e a.plain.now a.ctx.now tell a.s sight)
