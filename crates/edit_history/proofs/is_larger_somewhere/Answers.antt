-- `edit_history::is_larger_somewhere` meets its contract: `found` is what the definition says of the first s entries.
-- Assumes nothing.
use mathlib.Core.Path.{◌≡◌}
use native.Mathlib.Numerals.{add-one}
use native.Mathlib.Omega.{arith}
use borrow.Author.Rules.{rules}
use Rattle.math_lists.specs.NumbersBelow.{some}
use Rattle.edit_record.specs.Layout.{most_sites}
use Rattle.edit_history.specs.Answers2to5.{larger_somewhere}
use Rattle.edit_history.proofs.is_larger_somewhere.Goals as goal

pub loop-s-init : goal.loop-s-init
unfolding some
loop-s-init c = search rules

pub loop-s-preserved : goal.loop-s-preserved
unfolding some
loop-s-preserved c = rw (add-one, c.loop-s.invariant)

pub returns : goal.returns
unfolding larger_somewhere
returns c =
    let k : c.loop-s.s ≡ most_sites = omega arith in
    rw k at c.loop-s.invariant
