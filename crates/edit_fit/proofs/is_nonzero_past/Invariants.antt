-- `edit_fit::is_nonzero_past` meets its contract: `found` is what the definition says of the first i entries, of
-- which those before n do not count. Assumes nothing.
use mathlib.Core.Path.{◌≡◌}
use mathlib.Core.List.{List}
use Prim.Native.Nat.{ℕ, ◌≤◌, ◌<◌}
use lib.ListN.{drop}
use Rattle.math_lists.specs.NumbersBelow.{some}
use Rattle.edit_record.specs.Layout.{most_sites, vector_at}
use Rattle.edit_record.specs.RecordBytes.{counts}
use Rattle.edit_record.proofs.EntriesPastSites.{is_past}
use Rattle.edit_fit.proofs.is_nonzero_past.Given as goal

abbrev pub vector_in : List ℕ → List ℕ
vector_in rec = counts most_sites (drop vector_at rec)

abbrev pub invariant-loop-i : goal.invariant-loop-i
invariant-loop-i l = (l.n ≤ l.i) × (most_sites < l.i → l.i ≤ l.n) × (l.found ≡ some l.i (is_past l.n (vector_in l.rec)))
