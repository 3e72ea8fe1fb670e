-- `list_print::all_lines::put_head` meets its contract: line 0 is formed in a buffer of its own. Assumes nothing.
use native.Mathlib.Omega.{arith}
use Rattle.list_print.proofs.BytesBehind.{fewer-behind}
use Rattle.list_print.proofs.all_lines.put_head.Goals as goal

pub put_behind-requires : goal.put_behind-requires
put_behind-requires c =
    let h = c.head-k in
    let pre = c.requires in
    (omega (arith, h.ensures.1, h.auto.out, pre.1), omega (arith, h.ensures.1))

pub returns : goal.returns
returns c =
    let s8 = c in
    let a = s8.args in
    let h = c.head-k in
    rw (← h.ensures.0) (fewer-behind a.out.now 0 h.ensures.1 c.put_behind.ensures)
