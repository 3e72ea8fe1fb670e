-- `list_version::values::sum_of` meets its contract: the total is the sum of the first 2 * i entries, each below
-- 65,536. Assumes nothing.
use mathlib.Core.Path.{◌≡◌}
use Prim.Native.Nat.{ℕ, ◌*◌, ◌<◌}
use native.Mathlib.Omega.{arith}
use lib.ListN.{get_or}
use Rattle.math_lists.specs.NumbersBelow.{sum}
use Rattle.edit_record.specs.Layout.{most_sites}
use Rattle.edit_causal.specs.TotalOrder.{vector_sum}
use Rattle.list_version.proofs.SumByPairs.{two-entries}
use borrow.Author.Rules.{rules}
use Rattle.list_version.proofs.values.sum_of.Goals as goal

pub loop-i-init : goal.loop-i-init
unfolding sum
loop-i-init c = search rules

pub loop-i-preserved : goal.loop-i-preserved
loop-i-preserved c =
    let looped = c in
    let l = looped.loop-i in
    let rec = looped.args.rec.now in
    let bytes : (k : ℕ) → get_or rec k 0 < 256 = λ k. omega (arith, looped.shared_slice_known-1.given k) in (
      omega arith,
      two-entries rec bytes l.i c.four_at-both.result l.total (omega arith) c.four_at-both.ensures l.invariant.1,
      omega arith,
    )

pub returns : goal.returns
unfolding vector_sum
returns c =
    let l = c.loop-i in
    let k : 2 * l.i ≡ most_sites = omega arith in
    (rw k at l.invariant.1, omega arith)
