-- What the loop of `decide_rest` keeps, and the two measures: of the calls the number undecided, for the call has less,
-- and of the loop the Sets that may come in. Assumes nothing.
use Rattle.std.proofs.Common.{◌≡◌, length}
use Rattle.group_step.specs.GroupRows.{most_groups}
use Rattle.group_engine.proofs.Searching.{Searching}
use Rattle.group_engine.proofs.+decide_rest.Given as goal

abbrev pub decreases-decide_rest : goal.decreases-decide_rest
decreases-decide_rest l = l.undecided

abbrev pub invariant-loop-may : goal.invariant-loop-may
invariant-loop-may l =
    (length l.out ≡ most_groups)
    × Searching l.conflicts l.n l.undecided l.first l.taken l.may l.lone l.next l.out

abbrev pub decreases-loop-may : goal.decreases-loop-may
decreases-loop-may l = l.may
