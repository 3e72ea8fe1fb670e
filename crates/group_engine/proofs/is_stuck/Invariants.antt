-- `group_engine::is_stuck` meets its contract: what is left to go through are members. Assumes nothing.
use mathlib.Core.Path.{◌≡◌}
use mathlib.Core.Bool.{true}
use Prim.Native.Nat.{ℕ, ◌≤◌}
use Rattle.math_maximal.specs.Groups.{bit}
use Rattle.group_engine.proofs.is_stuck.Given as goal

abbrev pub invariant-loop-left : goal.invariant-loop-left
invariant-loop-left l = (l.left ≤ l.lone) × ((i : ℕ) → bit l.left i ≡ true → bit l.lone i ≡ true)

abbrev pub decreases-loop-left : goal.decreases-loop-left
decreases-loop-left l = l.left
