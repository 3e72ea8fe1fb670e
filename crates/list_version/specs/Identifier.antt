-- The identifier of a version, in document 01's words. ms are the Sets of the object in the order of arrival, g is a
-- group of them. Assumes nothing.
use Rattle.std.specs.Prelude.{List, map, ℕ, ◌/◌, ◌%◌}
use Rattle.math_lists.specs.SortedLists.{filter, ascending}
use Rattle.edit_record.specs.declared.Edit.{Edit}
use Rattle.edit_record.specs.Layout.{two_bytes}
use Rattle.edit_record.specs.Answer1.{name_of}
use Rattle.group_true.specs.Disputed.{is_disputed}
use Rattle.list_version.specs.Members.{members_of}

-- a site number is one byte
abbrev pub site_numbers : ℕ
site_numbers = 256

-- the two numbers in a name
abbrev pub site_in : ℕ → ℕ
site_in x = x / two_bytes % site_numbers

abbrev pub seq_in : ℕ → ℕ
seq_in x = x % two_bytes

-- besides the Create: each member that conflicts with some Set of the object, by site then sequence number
unfoldable pub identifier_of : List Edit → ℕ → List ℕ
identifier_of ms g = ascending (map name_of (filter (is_disputed ms) (members_of ms g)))
