-- `list_lines::head` meets its contract: line 0 with the total that was counted. Assumes nothing.
use mathlib.Core.Path.{◌∙◌}
use native.Mathlib.Omega.{arith}
use Rattle.list_lines.proofs.head.Goals as goal

pub returns : goal.returns
returns c =
    let p = c in
    let v = p in
    let e = p.put_head.ensures in
    (e.0 ∙ rw v.version_total-total.ensures, omega (arith, e.1))
