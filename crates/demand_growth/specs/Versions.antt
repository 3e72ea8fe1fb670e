-- Arrivals one after another, the versions of an object, and what one contains of another. Assumes nothing.
use Rattle.std.specs.Prelude.{◌≡◌, true, List, [], ◌∷◌, ℕ, length}
use Rattle.math_lists.specs.SortedLists.{elem}
use Rattle.edit_record.specs.declared.Edit.{Edit}
use Rattle.table_drawing.specs.Tables.{Tables}
use Rattle.table_arrival.specs.Answers6and7.{row_of}
use Rattle.table_arrival.specs.Arrival.{arrival_of}
use Rattle.math_lists.specs.Rearranged.{Mem}
use Rattle.list_version.specs.Members.{members_of}
use Rattle.list_version.specs.Identifier.{identifier_of}
use Rattle.list_objects.specs.Objects.{sets_for}

-- the tables after the records bs have arrived at t, one after another, refused ones among them
unfoldable pub arrivals : Tables → List (List ℕ) → Tables
arrivals t [] = t
arrivals t (b ∷ bs) = arrivals (arrival_of t b).after bs

-- g is the group of a version of object o
abbrev pub IsVersion : Tables → ℕ → ℕ → Type 0
IsVersion t o g = elem g (row_of t o) ≡ true

-- the number of its versions
abbrev pub versions : Tables → ℕ → ℕ
versions t o = length (row_of t o)

-- the edits in the group g, and the names in that version's identifier, which is these and the Create
abbrev pub group_at : Tables → ℕ → ℕ → List Edit
group_at t o g = members_of (sets_for t o) g

abbrev pub identifier_at : Tables → ℕ → ℕ → List ℕ
identifier_at t o g = identifier_of (sets_for t o) g

-- every element of xs is an element of ys
abbrev pub Within : {A : Type 0} → List A → List A → Type 0
Within {A} xs ys = (x : A) → Mem x xs → Mem x ys
