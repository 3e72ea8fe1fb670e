-- `group_limited::put_told` meets its contract. Assumes nothing.
use native.Mathlib.Omega.{arith}
use Rattle.group_limited.proofs.RowsOneMore.{tell-one-more}
use Rattle.group_limited.proofs.put_told.Goals as goal

pub returns : goal.returns
returns c ms e long tell its-row its-context =
    let s = c in
    let a = s.args in
    let m = c.put_row in
    tell-one-more ms e a.n long a.plain.now a.ctx.now m.new.plain a.row a.own tell its-row
    m.ensures.0 m.ensures.1 (omega (arith, s.requires.2)) its-context
