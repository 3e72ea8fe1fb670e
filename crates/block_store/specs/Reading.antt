-- Reading a file into the tables t: lengths (8), 10, 9, then its records in turn. The first refused record gives its
-- number and its index from 0, and the tables are left as an empty drawing of the trailer's N; otherwise they are what
-- the records give from an empty drawing. What stood in them before does not matter. Assumes nothing.
use Rattle.std.specs.Prelude.{ℕ, List, cond, eqb}
use Rattle.edit_form.specs.OldForm.{stored_in}
use Rattle.table_drawing.specs.Tables.{Tables, empty_drawing, lengths_right}
use Rattle.table_given.specs.Replay.{Replayed, replayed, replay_of}
use Rattle.block_trailer.specs.Locating.{located}

-- the answer, the index and the tables of a replay; a refused record leaves an empty drawing
abbrev pub or_empty : ℕ → Replayed → Replayed
or_empty sites r = cond (eqb r.answer 0) r (replayed r.answer r.index (empty_drawing sites))

-- the first n records of a stretch in a form
unfoldable pub records_read : ℕ → ℕ → List ℕ → ℕ → Replayed
records_read sites form stretch n = or_empty sites (replay_of sites (stored_in form stretch) n)

unfoldable pub reading_of : Tables → List ℕ → Replayed
reading_of t file =
    let l = located file in
    let f = l.trailer in
    cond (lengths_right t.records t.objects t.groups)
    (cond (eqb f.answer 0) (records_read f.sites f.form l.stretch f.records) (replayed f.answer 0 t))
    (replayed 8 0 t)
