-- `edit_history::is_ahead_elsewhere` meets its contract: `found` is what the definition says of the first t entries.
-- Assumes nothing.
use mathlib.Core.Path.{◌≡◌}
use native.Mathlib.Numerals.{add-one}
use native.Mathlib.Omega.{arith}
use borrow.Author.Rules.{rules}
use Rattle.math_lists.specs.NumbersBelow.{some}
use Rattle.edit_record.specs.Layout.{most_sites}
use Rattle.edit_history.specs.SurveyForms.{ahead_elsewhere}
use Rattle.edit_history.proofs.is_ahead_elsewhere.Goals as goal

pub loop-t-init : goal.loop-t-init
unfolding some
loop-t-init c = search rules

pub loop-t-preserved : goal.loop-t-preserved
unfolding some
loop-t-preserved c = rw (add-one, c.loop-t.invariant)

pub returns : goal.returns
unfolding ahead_elsewhere
returns c =
    let k : c.loop-t.t ≡ most_sites = omega arith in
    rw k at c.loop-t.invariant
