-- `edit_record::writing::with_vector` meets its contract: the bytes of the first i counts stand. Assumes nothing.
use mathlib.Core.Path.{◌≡◌, sym}
use mathlib.Core.List.{append-nil}
use Prim.Native.Nat.{◌<◌, ◌+◌, ◌*◌}
use native.Mathlib.Numerals.{add-one}
use native.Mathlib.Omega.{arith}
use lib.ListN.{length, take}
use Rattle.edit_record.specs.Layout.{vector_at}
use Rattle.edit_record.specs.RecordBytes.{count_bytes}
use Rattle.edit_record.proofs.Encoding.{one-count-more}
use Rattle.edit_record.proofs.writing.with_vector.Goals as goal

pub loop-i-init : goal.loop-i-init
unfolding count_bytes
loop-i-init c = let b = c.args.bytes in sym (append-nil (take vector_at b))

pub loop-i-preserved : goal.loop-i-preserved
loop-i-preserved c =
    let l = c.loop-i in
    let a = c.args in
    let e : vector_at + 2 * (l.i + 1) ≡ vector_at + 2 * l.i + 2 = omega arith in
    let k : l.i < length a.v = omega arith in rw (e, c.with_count-next.ensures, l.invariant, one-count-more (take vector_at a.bytes) a.v l.i k, add-one)
