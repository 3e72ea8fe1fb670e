-- The printed list of the tables t: line 0, then a line for each version. Objects go as `objects_of` has them, and the
-- versions of an object as `versions_of` has them. Assumes nothing.
use mathlib.Core.List.{List, ◌∷◌, flat_map}
use Rattle.std.specs.Prelude.{ℕ}
use Rattle.math_lists.specs.NumbersBelow.{sum}
use Rattle.table_drawing.specs.Tables.{Tables, groups_at}
use Rattle.table_arrival.specs.Answers6and7.{row_of}
use Rattle.list_text.specs.HeadAndRefusal.{head_line}
use Rattle.list_line.specs.Line.{object_lines}
use Rattle.list_objects.specs.Objects.{create_of, sets_for, objects_of}

-- a line for each version of object o
unfoldable pub lines_for : Tables → ℕ → List (List ℕ)
lines_for t o = object_lines (create_of t o) (sets_for t o) (row_of t o)

-- the total of the versions: an object has as many as it has groups
unfoldable pub version_total : Tables → ℕ
version_total t = sum t.counters.objects (groups_at t.objects)

-- all lines in their order
unfoldable pub lines_of : Tables → List (List ℕ)
lines_of t =
    head_line t.counters.sites t.counters.objects (version_total t) t.counters.sum
    ∷ flat_map (lines_for t) (objects_of t)
