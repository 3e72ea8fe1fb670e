-- `edit_record::writing::with_four` meets its contract: two counts, one after the other. Assumes nothing.
use mathlib.Core.Path.{◌≡◌}
use Prim.Native.Nat.{◌+◌}
use native.Mathlib.Omega.{arith}
use lib.ListN.{take}
use Rattle.edit_record.proofs.Encoding.{four-of-counts}
use Rattle.edit_record.proofs.writing.with_four.Goals as goal

pub returns : goal.returns
returns c =
    let a = c.args in
    let e : a.i + 4 ≡ a.i + 2 + 2 = omega arith in
    rw (e, c.with_count.ensures, c.with_count-low.ensures) (four-of-counts (take a.i a.bytes) a.n)
