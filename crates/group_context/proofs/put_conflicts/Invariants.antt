-- `group_context::put_conflicts` meets its contract: the conflicts of each of the Sets passed stand in its place.
-- Assumes nothing.
use mathlib.Core.Path.{◌≡◌}
use Prim.Native.Nat.{ℕ, ◌<◌}
use lib.ListN.{length, get_or}
use Rattle.group_context.proofs.ConflictRows.{conflict_row}
use Rattle.group_context.proofs.put_conflicts.Given as goal

abbrev pub invariant-loop-i : goal.invariant-loop-i
invariant-loop-i l =
    (length l.out ≡ length l.initial.out)
    × ((k : ℕ) → k < l.i → get_or l.out k 0 ≡ conflict_row l.plain l.ctx l.n k)
