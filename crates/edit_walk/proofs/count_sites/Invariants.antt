-- `edit_walk::count_sites` meets its contract: after i records the counts are theirs. A site without an entry is
-- counted nowhere. Assumes nothing.
use mathlib.Core.Path.{◌≡◌}
use lib.ListN.{length}
use Rattle.edit_record.specs.Layout.{most_sites}
use Rattle.edit_history.specs.EditsHeld.{edits_of}
use Rattle.edit_history.specs.SurveyForms.{Counted}
use Rattle.edit_walk.proofs.count_sites.Given as goal

abbrev pub invariant-loop-i : goal.invariant-loop-i
invariant-loop-i l = (length l.counts ≡ most_sites) × Counted l.counts (edits_of l.recs l.i)
