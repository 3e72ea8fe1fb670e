-- `edit_record::vector_of` meets its contract: the first i entries written are the first i counts of the record.
-- Assumes nothing.
use mathlib.Core.Path.{◌≡◌, sym, ◌∙◌}
use Prim.Native.Nat.{◌<◌, ◌*◌}
use native.Mathlib.Numerals.{add-one}
use native.Mathlib.Omega.{arith}
use lib.Seq.{take-suc-set}
use lib.ListN.{length, drop, length-set}
use borrow.Author.Rules.{rules}
use Rattle.edit_record.proofs.NumbersInBytes.{counts-more, two-drop}
use Rattle.edit_record.specs.RecordBytes.{counts, two}
use Rattle.edit_record.specs.Layout.{vector_at}
use Rattle.edit_record.proofs.vector_of.Goals as goal

pub loop-i-init : goal.loop-i-init
unfolding counts
loop-i-init c = search rules

pub loop-i-preserved : goal.loop-i-preserved
loop-i-preserved c =
    let v = c.loop-i.n-items in
    let i = c.loop-i.i in
    let s = c.args.rec.now in
    let l : i < length v = omega arith in
    let e : c.pair_at.result ≡ two (drop vector_at s) (2 * i) = c.pair_at.ensures ∙ sym
    (two-drop vector_at s (2 * i)) in (
      simp length-set c.loop-i.invariant.0,
      rw (add-one, take-suc-set v i c.pair_at.result l, c.loop-i.invariant.1, e)
          (sym (counts-more i (drop vector_at s))),
    )
