-- `table_index::build` meets its contract: after i records, the index is that of the first i. Assumes nothing.
use mathlib.Core.Path.{◌≡◌}
use Rattle.edit_walk.specs.WalkForms.{Spaced, count_in}
use Rattle.table_index.specs.IndexForms.{number_at, IndexOf}
use Rattle.table_index.proofs.build.Given as goal

abbrev pub invariant-loop-i : goal.invariant-loop-i
invariant-loop-i l =
    IndexOf l.recs l.i l.ix.places l.ix.numbers l.ix.counts l.ix.chains
    × (l.m ≡ number_at l.recs l.i)
    × Spaced (count_in l.recs l.n) l.ix.places
