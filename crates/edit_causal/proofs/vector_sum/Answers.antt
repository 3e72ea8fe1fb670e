-- `edit_causal::vector_sum` meets its contract: the total is the sum of the entries passed, each below 65,536. Assumes
-- nothing.
use mathlib.Core.Path.{◌≡◌}
use native.Mathlib.Numerals.{add-one}
use native.Mathlib.Omega.{arith}
use lib.ListN.{get_or}
use mir.Syntax.{w16}
use mir.Val.{Fits}
use borrow.Author.Rules.{rules}
use Rattle.edit_record.specs.Layout.{most_sites}
use Rattle.math_lists.specs.NumbersBelow.{sum}
use Rattle.edit_causal.specs.TotalOrder.{vector_sum}
use Rattle.edit_causal.proofs.vector_sum.Goals as goal

pub loop-x-init : goal.loop-x-init
unfolding sum
loop-x-init c = search rules

pub loop-x-preserved : goal.loop-x-preserved
unfolding sum
loop-x-preserved c =
    let h : Fits w16 (get_or c.args.v c.loop-x.x-index 0) = search rules in
    (rw (add-one, c.loop-x.invariant.0), omega arith)

pub returns : goal.returns
unfolding vector_sum
returns c =
    let k : c.loop-x.x-index ≡ most_sites = omega arith in
    rw k at c.loop-x.invariant.0
