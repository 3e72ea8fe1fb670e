-- `group_context::clear_of` meets its contract: of the members of v that are gone through, those are kept whose number
-- has no member of m. Assumes nothing.
use mathlib.Core.Path.{◌≡◌}
use mathlib.Core.Bool.{true}
use Prim.Native.Nat.{ℕ, ◌+◌, ◌≤◌}
use lib.ListN.{get_or}
use Rattle.math_maximal.specs.Groups.{bit}
use Rattle.math_maximal.specs.Step.{compatible}
use Rattle.group_context.proofs.MembersGone.{is_kept}
use Rattle.group_context.proofs.clear_of.Given as goal

abbrev pub invariant-loop-left : goal.invariant-loop-left
invariant-loop-left l =
    (l.kept + l.left ≤ l.v)
    × ((j : ℕ) → bit l.left j ≡ true → bit l.v j ≡ true)
    × ((j : ℕ) → bit l.kept j ≡ is_kept l.v l.left (λ j. compatible l.m (get_or l.rows j 0)) j)

abbrev pub decreases-loop-left : goal.decreases-loop-left
decreases-loop-left l = l.left
