-- `edit_history::is_ahead_elsewhere` meets its contract: `found` is what the definition says of the first t entries.
-- Assumes nothing.
use mathlib.Core.Bool.{not, ◌&&◌}
use mathlib.Core.Path.{◌≡◌}
use lib.ListN.{get_or}
use lib.Dec.{eqb, ltb}
use Rattle.math_lists.specs.NumbersBelow.{some}
use Rattle.edit_history.proofs.is_ahead_elsewhere.Given as goal

abbrev pub invariant-loop-t : goal.invariant-loop-t
invariant-loop-t l = l.found ≡ some l.t (λ s. not (eqb s l.own) && ltb (get_or l.held s 0) (get_or l.v s 0))
