-- `table_sets::gather_sets` meets its contract: as many places as were put down, the chain is followed so far. Assumes
-- nothing.
use Rattle.table_sets.proofs.Followed.{FollowedTo}
use Rattle.table_sets.proofs.gather_sets.Given as goal

abbrev pub invariant-loop-member : goal.invariant-loop-member
invariant-loop-member l = FollowedTo l.chain l.p l.k l.member-index l.at l.member-items
