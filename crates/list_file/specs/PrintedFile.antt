-- What is printed of a file: all lines of the drawing that it stores, in order, or one line with the number that it is
-- refused with. Assumes nothing.
use Rattle.std.specs.Prelude.{cond, List, ℕ, eqb}
use Rattle.table_drawing.specs.Tables.{empty_drawing}
use Rattle.table_given.specs.Replay.{Replayed}
use Rattle.block_store.specs.Reading.{reading_of}
use Rattle.list_text.specs.HeadAndRefusal.{refusal_line}
use Rattle.list_print.specs.Printing.{list_of}

-- what is printed of a file that was read
abbrev pub printed_from : Replayed → List ℕ
printed_from r = cond (eqb r.answer 0) (list_of r.after) (refusal_line r.answer)

-- it is read into tables that are all zero
unfoldable pub printed_of : List ℕ → List ℕ
printed_of file = printed_from (reading_of (empty_drawing 0) file)
