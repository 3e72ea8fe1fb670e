-- `table_sets::by_mask::marks_among` meets its contract: of the Sets gone through, those are kept that are unlike it.
-- Assumes nothing.
use mathlib.Core.Path.{◌≡◌}
use mathlib.Core.Bool.{true}
use Prim.Native.Nat.{ℕ, ◌+◌, ◌≤◌}
use Rattle.math_maximal.specs.Groups.{bit}
use Rattle.group_context.proofs.MembersGone.{is_kept}
use Rattle.table_sets.specs.KeyForms.{set_at, unlike}
use Rattle.table_sets.proofs.by_mask.marks_among.Given as goal

abbrev pub invariant-loop-left : goal.invariant-loop-left
invariant-loop-left l =
    (l.marks + l.left ≤ l.sets)
    × ((j : ℕ) → bit l.left j ≡ true → bit l.sets j ≡ true)
    × ((j : ℕ) → bit l.marks j ≡ is_kept l.sets l.left (λ j. unlike (set_at l.recs l.places j) (set_at l.recs l.places l.i)) j)

abbrev pub decreases-loop-left : goal.decreases-loop-left
decreases-loop-left l = l.left
