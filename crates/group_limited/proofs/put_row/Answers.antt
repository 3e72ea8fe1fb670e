-- `group_limited::put_row` meets its contract. Assumes nothing.
use mathlib.Core.Path.{◌∙◌}
use native.Mathlib.Omega.{arith}
use lib.Seq.{get_or-set_same, get_or-set_other}
use Rattle.group_limited.proofs.put_row.Goals as goal

pub returns : goal.returns
returns c =
    let s = c in
    let a = s.args in
    let m = c.mark_in_rows in (
      λ i l. get_or-set_other m.new.plain a.n i a.row 0 (λ q. omega arith) ∙ m.ensures i l,
      get_or-set_same m.new.plain a.n a.row 0 (omega (arith, m.auto.plain, s.requires.1)),
    )
