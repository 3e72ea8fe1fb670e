-- `group_sight::seen::foes_among` meets its contract: of the Sets gone through, the foes are kept. Assumes nothing.
use mathlib.Core.Path.{◌≡◌}
use mathlib.Core.Bool.{true}
use Prim.Native.Nat.{ℕ, ◌+◌, ◌≤◌}
use lib.ListN.{get_or}
use Rattle.math_maximal.specs.Groups.{bit}
use Rattle.edit_history.specs.EditsHeld.{record_at}
use Rattle.group_context.proofs.MembersGone.{is_kept}
use Rattle.group_sight.specs.SightForms.{is_foe}
use Rattle.group_sight.proofs.seen.foes_among.Given as goal

abbrev pub invariant-loop-left : goal.invariant-loop-left
invariant-loop-left l =
    (l.plain + l.left ≤ l.m)
    × ((j : ℕ) → bit l.left j ≡ true → bit l.m j ≡ true)
    × ((j : ℕ) → bit l.plain j ≡ is_kept l.m l.left (λ j. is_foe (get_or l.names j 0) l.s (record_at l.recs (get_or l.places j 0))) j)

abbrev pub decreases-loop-left : goal.decreases-loop-left
decreases-loop-left l = l.left
