-- `table_replay::count_stretch` meets its contract: after i records the counts are theirs. A site without an entry is
-- counted nowhere. Assumes nothing.
use mathlib.Core.Path.{◌≡◌}
use lib.ListN.{length}
use Rattle.edit_record.specs.Layout.{most_sites}
use Rattle.edit_form.specs.OldForm.{start_of, stored_in}
use Rattle.edit_history.specs.SurveyForms.{Counted}
use Rattle.table_given.specs.Replay.{edits_in}
use Rattle.table_replay.proofs.count_stretch.Given as goal

abbrev pub invariant-loop : goal.invariant-loop
invariant-loop l =
    (l.at ≡ start_of l.form l.recs l.counter)
    × (length l.counts ≡ most_sites)
    × Counted l.counts (edits_in (stored_in l.form l.recs) l.counter)
