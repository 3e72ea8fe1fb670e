-- The lines of an object's versions, byte by byte. c is the Create, ms are the Sets of the object in the order of
-- arrival, g is a group of them. Assumes nothing.
use mathlib.Core.List.{List, [], ◌∷◌, ◌++◌, map, flat_map}
use Rattle.std.specs.Prelude.{ℕ, zero, suc, ◌+◌, ◌-◌, ◌*◌}
use Rattle.edit_record.specs.declared.Edit.{Edit}
use Rattle.edit_record.specs.Layout.{keys}
use Rattle.edit_causal.specs.ShownValue.{shown_value}
use Rattle.group_step.specs.GroupRows.{most_sets}
use Rattle.list_text.specs.Pieces.{space, plus, minus, newline, dotted, equated, dotted_length, equated_length}
use Rattle.list_version.specs.Identifier.{site_in, seq_in, identifier_of}
use Rattle.list_version.specs.Values.{last_with}
use Rattle.list_version.specs.VersionOrder.{versions_of}

-- a name as `site.seq`
abbrev pub name_text : ℕ → List ℕ
name_text x = dotted (site_in x) (seq_in x)

-- the names joined by `+`, or `-` if there are none
unfoldable pub identifier_text : List ℕ → List ℕ
identifier_text [] = minus ∷ []
identifier_text (x ∷ xs) = name_text x ++ flat_map (λ y. plus ∷ name_text y) xs

-- ` key=value` for the last member with the key, if there is one
unfoldable pub setting_text : ℕ → List Edit → List ℕ
setting_text k [] = []
setting_text k (e ∷ es) = space ∷ equated k (shown_value k e.value)

-- for the keys below k, ascending
unfoldable pub settings_text : List Edit → ℕ → ℕ → List ℕ
settings_text ms g zero = []
settings_text ms g (suc k) = settings_text ms g k ++ setting_text k (last_with ms g k)

-- the Create; a space and the identifier; the values; a newline
unfoldable pub version_line : Edit → List Edit → ℕ → List ℕ
version_line c ms g =
    dotted c.site.0 c.seq.0
    ++ ((space ∷ identifier_text (identifier_of ms g)) ++ (settings_text ms g keys ++ (newline ∷ [])))

-- the lines of an object, in their order
unfoldable pub object_lines : Edit → List Edit → List ℕ → List (List ℕ)
object_lines c ms gs = map (version_line c ms) (versions_of ms gs)

-- ---- how long a line is at most

-- as many names as an object has Sets, with `+` between neighbours; and a space before them
abbrev pub names_length : ℕ
names_length = most_sets * dotted_length + (most_sets - 1)

abbrev pub identifier_length : ℕ
identifier_length = 1 + names_length

abbrev pub settings_length : ℕ
settings_length = keys * (1 + equated_length)

abbrev pub line_length : ℕ
line_length = dotted_length + identifier_length + settings_length + 1
