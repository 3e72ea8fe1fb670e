-- `table_arrival::copy_record` meets its contract. Assumes nothing.
use mathlib.Core.List.{append-nil}
use mathlib.Core.Path.{◌≡◌}
use native.Mathlib.Omega.{arith}
use lib.Seq.{take_all}
use lib.ListN.{length, length-set, drop_of_length-le}
use Rattle.math_lists.proofs.ReplacedPart.{copy_more}
use Rattle.table_arrival.proofs.copy_record.Goals as goal

pub loop-i-preserved : goal.loop-i-preserved
loop-i-preserved c =
    let l = c.loop-i in
    let a = c.args in
    let d = a.d.now in
    let s = a.src.now in (
      omega arith,
      simp length-set l.invariant.1,
      rw l.invariant.2 (copy_more d s l.i (omega arith) (omega arith)),
    )

pub shape_of-d : goal.shape_of-d
shape_of-d c = c.loop-i.invariant.1

pub returns : goal.returns
returns c =
    let a = c.args in
    let w = length a.src.now in
    let k : c.loop-i.i ≡ w = omega arith in
    rw (
      c.loop-i.invariant.2,
      k,
      take_all w a.src.now (omega arith),
      drop_of_length-le a.d.now {i = w} (omega arith),
    )
    (append-nil a.src.now)
