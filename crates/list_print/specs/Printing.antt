-- Printing all lines in their order at a start in a longer output: 8, then 11 where they have no room. Assumes nothing.
use Rattle.std.specs.Prelude.{cond, List, [], ◌∷◌, ◌++◌, ℕ, ◌+◌, ◌*◌}
use Rattle.group_step.specs.GroupRows.{most_objects, most_groups}
use Rattle.table_drawing.specs.Tables.{Tables}
use Rattle.table_soundness.specs.Sound.{sound}
use Rattle.table_output.specs.Output.{Writing, writing, written_at}
use Rattle.list_line.specs.Line.{line_length}
use Rattle.list_lines.specs.List.{lines_of}

-- one after another
unfoldable pub joined : List (List ℕ) → List ℕ
joined [] = []
joined (line ∷ lines) = line ++ joined lines

unfoldable pub list_of : Tables → List ℕ
list_of t = joined (lines_of t)

unfoldable pub listing_of : Tables → List ℕ → ℕ → Writing
listing_of t out start = cond (sound t) (written_at out start (list_of t)) (writing 8 0 out)

-- ---- how long a list is at most

-- line 0 is no longer than another line may be
abbrev pub list_length : ℕ
list_length = (1 + most_objects * most_groups) * line_length
