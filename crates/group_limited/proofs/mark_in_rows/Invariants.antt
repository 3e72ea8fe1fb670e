-- `group_limited::mark_in_rows` meets its contract: what is gone through is marked, and the rest is as it was. Assumes
-- nothing.
use mathlib.Core.Path.{◌≡◌}
use Prim.Native.Nat.{◌≤◌}
use lib.ListN.{length}
use Rattle.group_limited.proofs.MarkedRows.{MarkedBut}
use Rattle.group_limited.proofs.mark_in_rows.Given as goal

abbrev pub invariant-loop-left : goal.invariant-loop-left
invariant-loop-left l =
    (l.left ≤ l.row) × (length l.plain ≡ length l.initial.plain) × MarkedBut l.left l.n l.row l.initial.plain l.plain

abbrev pub decreases-loop-left : goal.decreases-loop-left
decreases-loop-left l = l.left
