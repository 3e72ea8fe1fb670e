-- `group_limited::told_by` meets its contract. Assumes nothing.
use mathlib.Core.Path.{refl}
use native.Mathlib.Omega.{arith}
use Rattle.group_limited.proofs.ToldByRows.{told-by-sight}
use Rattle.group_limited.proofs.told_by.Goals as goal

pub returns : goal.returns
returns c =
    let s = c in
    let a = s.args in
    let ps = a.plain.now in
    let cs = a.ctx.now in (
      refl,
      λ ms e size tell sight law.
          let own = c.left_by-own.ensures ms e (omega (arith, s.requires.0)) tell sight in
          told-by-sight ms e ps cs tell a.s sight law a.n size _ own _
          (c.is_nameless-nameless.ensures ms e cs tell sight own law) _ c.conflicts_of-conflicts.ensures,
    )
