-- `edit_record::vector_of` meets its contract: the first i entries written are the first i counts of the record.
-- Assumes nothing.
use mathlib.Core.Path.{◌≡◌}
use lib.ListN.{length, take, drop}
use Rattle.edit_record.specs.RecordBytes.{counts}
use Rattle.edit_record.specs.Layout.{most_sites, vector_at}
use Rattle.edit_record.proofs.vector_of.Given as goal

abbrev pub invariant-loop-i : goal.invariant-loop-i
invariant-loop-i l = (length l.n-items ≡ most_sites) × (take l.i l.n-items ≡ counts l.i (drop vector_at l.rec))
