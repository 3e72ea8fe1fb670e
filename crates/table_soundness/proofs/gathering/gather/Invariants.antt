-- `table_soundness::gathering::gather` meets its contract: after i records it has what they give. Assumes nothing.
use lib.ListN.{get_or}
use Rattle.edit_walk.specs.WalkForms.{Walking}
use Rattle.table_soundness.proofs.GatheredSoFar.{Gathering}
use Rattle.table_soundness.proofs.gathering.gather.Given as goal

abbrev pub invariant-loop-i : goal.invariant-loop-i
invariant-loop-i l =
    Walking l.sites (λ s. get_or l.room s 0) l.recs l.i l.held l.places
    × Gathering l.recs l.i l.places l.sum l.creates l.earlier l.tallies
