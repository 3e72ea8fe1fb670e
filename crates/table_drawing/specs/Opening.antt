-- Opening an empty drawing: lengths (8), then 9; then every entry is zero except N. What stood in the tables before
-- does not matter. Assumes nothing.
use Rattle.std.specs.Prelude.{ℕ, cond}
use Rattle.table_drawing.specs.Tables.{Tables, empty_drawing, lengths_right, sites_right}
use Rattle.table_drawing.specs.AnswerNumbers.{Outcome, outcome_of}

unfoldable pub opening_of : Tables → ℕ → Outcome
opening_of t n =
    cond (lengths_right t.records t.objects t.groups)
    (cond (sites_right n) (outcome_of 0 (empty_drawing n)) (outcome_of 9 t))
    (outcome_of 8 t)
