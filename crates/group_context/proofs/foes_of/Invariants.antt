-- `group_context::foes_of` meets its contract: of the members of m that are gone through, the rows are told. Assumes
-- nothing.
use mathlib.Core.Path.{◌≡◌}
use mathlib.Core.Bool.{true}
use Prim.Native.Nat.{ℕ, ◌≤◌}
use lib.ListN.{get_or}
use Rattle.math_maximal.specs.Groups.{bit}
use Rattle.group_context.proofs.MembersGone.{some_gone}
use Rattle.group_context.proofs.foes_of.Given as goal

abbrev pub invariant-loop-left : goal.invariant-loop-left
invariant-loop-left l =
    (l.left ≤ l.m)
    × ((j : ℕ) → bit l.left j ≡ true → bit l.m j ≡ true)
    × ((y : ℕ) → bit l.foes y ≡ some_gone l.m l.left (λ j. bit (get_or l.plain j 0) y))

abbrev pub decreases-loop-left : goal.decreases-loop-left
decreases-loop-left l = l.left
