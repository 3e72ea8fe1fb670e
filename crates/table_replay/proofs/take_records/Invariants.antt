-- `table_replay::take_records` meets its contract. Assumes nothing.
use mathlib.Core.Path.{◌≡◌}
use mathlib.Core.List.{List}
use lib.ListN.{length}
use Rattle.edit_record.specs.Layout.{record_length}
use Rattle.edit_form.specs.OldForm.{start_of}
use Rattle.table_index.specs.IndexForms.{IndexOf}
use Rattle.table_given.specs.Replay.{edits_in}
use Rattle.table_kept.specs.BoxForms.{KeptFor}
use Rattle.table_given.proofs.ReplayGoes.{Going}
use Prim.Native.Nat.{ℕ}
use lib.ListN.{length}
use Rattle.edit_record.specs.Layout.{record_length}
use Rattle.edit_form.specs.OldForm.{start_of, stored_in}
use Rattle.edit_history.specs.EditsHeld.{count_from}
use Rattle.table_drawing.specs.Tables.{tables_of}
use Rattle.edit_walk.specs.WalkForms.{Spaced}
use Rattle.table_index.specs.IndexForms.{IndexOf, counters_of}
use Rattle.table_given.proofs.ReplayGoes.{Going}
use Rattle.table_replay.proofs.take_records.Given as goal

-- the counts of the first n records of a stretch
abbrev pub counted-in : ℕ → List ℕ → ℕ → ℕ → ℕ
counted-in form recs n s = count_from s (edits_in (stored_in form recs) n)

abbrev pub invariant-loop-i : goal.invariant-loop-i
invariant-loop-i l =
    (l.at ≡ start_of l.form l.recs l.i)
    × Going l.sites (stored_in l.form l.recs) l.i (tables_of (counters_of l.sites l.i l.m l.held l.sum) l.records l.objects l.groups)
    × IndexOf l.records l.i l.ix.places l.ix.numbers l.ix.counts l.ix.chains
    × Spaced (counted-in l.form l.recs l.n) l.ix.places
    × KeptFor (edits_in (stored_in l.form l.recs) l.i) l.kept.names l.kept.rows
    × (length l.wide ≡ record_length)
