-- `group_named::chain::gather_sets` meets its contract: after k places, those that the chain went through are put down.
-- Assumes nothing.
use mathlib.Core.Path.{◌≡◌}
use Prim.Native.Nat.{◌-◌, ◌≤◌, ◌<◌}
use lib.ListN.{length}
use Rattle.group_step.specs.GroupRows.{most_sets}
use Rattle.group_named.proofs.SetsGathered.{ByteFollowedTo}
use Rattle.group_named.proofs.chain.gather_sets.Given as goal

abbrev pub invariant-loop-at : goal.invariant-loop-at
invariant-loop-at l =
    (l.k ≤ most_sets) × (length l.out ≡ length l.initial.out) × ByteFollowedTo l.chain l.p l.k l.at l.out × (l.at < 256)

abbrev pub decreases-loop-at : goal.decreases-loop-at
decreases-loop-at l = most_sets - l.k
