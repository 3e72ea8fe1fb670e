-- The object that an arriving record is about, and the lines of all other objects. Assumes nothing.
use Rattle.std.specs.Prelude.{Bool, not, cond, ℕ, eqb}
use mathlib.Core.List.{List, flat_map}
use Rattle.math_lists.specs.SortedLists.{filter}
use Rattle.edit_record.specs.RecordBytes.{decode_of}
use Rattle.edit_record.specs.Answer1.{is_create}
use Rattle.edit_history.specs.EditsHeld.{object_of}
use Rattle.table_drawing.specs.Tables.{Tables, held_by}
use Rattle.list_lines.specs.List.{lines_for}
use Rattle.list_objects.specs.Objects.{objects_of}

-- a Create makes the next object, a Set or a layer edit is about the object that it names
unfoldable pub own_of : Tables → List ℕ → ℕ
own_of t b = cond (is_create (decode_of b)) t.counters.objects (object_of (decode_of b) (held_by t))

abbrev pub is_other : ℕ → ℕ → Bool
is_other own o = not (eqb o own)

-- all objects but one, in their order
unfoldable pub others_than : ℕ → Tables → List ℕ
others_than own t = filter (is_other own) (objects_of t)

-- their lines
unfoldable pub other_lines : ℕ → Tables → List (List ℕ)
other_lines own t = flat_map (lines_for t) (others_than own t)
