-- Printing one line by its number at a start in a longer output: 8, then 12 where there is no such line, then 11.
-- Assumes nothing.
use Rattle.std.specs.Prelude.{cond, List, [], ℕ, length, get_or, ltb}
use Rattle.table_drawing.specs.Tables.{Tables}
use Rattle.table_soundness.specs.Sound.{sound}
use Rattle.table_output.specs.Output.{Writing, writing, written_at}
use Rattle.list_lines.specs.List.{lines_of}

unfoldable pub line_of : Tables → ℕ → List ℕ → ℕ → Writing
line_of t k out start =
    cond (sound t)
    (cond (ltb k (length (lines_of t))) (written_at out start (get_or (lines_of t) k [])) (writing 12 0 out))
    (writing 8 0 out)
