-- The stored block of the tables t, records in arrival order and then the trailer, and writing it at a start in a
-- longer output: 8, then 11 where there is no room; else the block stands there, and bytes before and after it stay.
-- Assumes nothing.
use Rattle.std.specs.Prelude.{ℕ, List, ◌++◌, cond, length}
use Rattle.edit_form.specs.OldForm.{chained}
use Rattle.edit_history.specs.EditsHeld.{bytes_at}
use Rattle.table_drawing.specs.Tables.{Tables}
use Rattle.table_soundness.specs.Sound.{sound}
use Rattle.table_output.specs.Output.{Writing, writing, written_at}
use Rattle.block_trailer.specs.Trailer.{trailer_of}

-- the bytes of the records that the tables hold, one behind the other
abbrev pub record_bytes : Tables → List ℕ
record_bytes t = chained (bytes_at t.records) t.counters.records

unfoldable pub block_of : Tables → List ℕ
block_of t = record_bytes t ++ trailer_of t.counters.records t.counters.sites (length (record_bytes t))

unfoldable pub writing_of : Tables → List ℕ → ℕ → Writing
writing_of t out start = cond (sound t) (written_at out start (block_of t)) (writing 8 0 out)
