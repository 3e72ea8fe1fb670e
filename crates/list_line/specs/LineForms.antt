-- The line of a version from the Sets in dispute and the stamps, as the code makes it. No one need believe it:
-- `line-by` of proofs/LineByStamps.antt ties it to `Line`. Assumes nothing.
use Rattle.std.specs.Prelude.{◌≡◌, cond, List, [], ◌∷◌, ◌++◌, ℕ, zero, suc, ◌+◌, ◌-◌, ◌*◌, ◌%◌, ◌≤◌, ◌<◌, eqb, length, get_or, take, drop}
use Rattle.edit_record.specs.Layout.{keys}
use Rattle.edit_causal.specs.ShownValue.{shown_value}
use Rattle.group_step.specs.GroupRows.{most_sets}
use Rattle.list_text.specs.Pieces.{space, plus, newline, dotted, equated, dotted_length, equated_length}
use Rattle.list_line.specs.Line.{name_text, identifier_text}
use Rattle.list_version.specs.declared.gathered.Workspace.{Workspace}
use Rattle.list_version.specs.VersionForms.{name_by, identifier_by, largest_by, values}

-- ` key=value` by a stamp
abbrev pub stamp_text : ℕ → ℕ → List ℕ
stamp_text k s = cond (eqb s 0) [] (space ∷ equated k (shown_value k ((s - 1) % values)))

-- for the keys below k, ascending
unfoldable pub settings_by : List ℕ → ℕ → ℕ → List ℕ
settings_by stamps g zero = []
settings_by stamps g (suc k) = settings_by stamps g k ++ stamp_text k (largest_by stamps g k)

-- the Create is s.q, and xs are the Sets in dispute
unfoldable pub line_by : ℕ → ℕ → List ℕ → List ℕ → ℕ → List ℕ
line_by s q xs stamps g =
    dotted s q ++ ((space ∷ identifier_text (identifier_by xs g)) ++ (settings_by stamps g keys ++ (newline ∷ [])))

-- of what is gathered of an object, the line of the version v
abbrev pub line_in : Workspace → ℕ → List ℕ
line_in g v = line_by g.site g.seq (take g.disputed g.disputes) (take g.sets g.stamps) v

-- ---- pieces that are kept from line to line: a setting of each key, then a name for each Set in dispute

-- the bytes of the place of a piece, and how many places there are
abbrev pub piece_length : ℕ
piece_length = 16

abbrev pub pieces : ℕ
pieces = keys + most_sets

-- the first bytes of a place
abbrev pub piece_at : List ℕ → List ℕ → ℕ → List ℕ
piece_at texts lens j = take (get_or lens j 0) (drop (j * piece_length) texts)

-- what stands in the place of a key is the setting told by the stamp kept for it, or nothing
pub record Kept (texts lens told : List ℕ) : Type 0 where
  pub texts-long : length texts ≡ pieces * piece_length
  pub lens-long : length lens ≡ pieces
  pub told-long : length told ≡ keys
  pub few : (j : ℕ) → j < keys → get_or lens j 0 ≤ 1 + equated_length
  pub piece : (j : ℕ) → j < keys → (get_or lens j 0 ≡ 0 → ⊥) → piece_at texts lens j ≡ stamp_text j (get_or told j 0)

-- the name of the Set in dispute x stands in the i-th place behind those of the keys
pub record NameIn (texts lens : List ℕ) (i x : ℕ) : Type 0 where
  pub few : get_or lens (keys + i) 0 ≤ 1 + dotted_length
  pub name : piece_at texts lens (keys + i) ≡ plus ∷ name_text (name_by x)

-- so do the names of all the Sets in dispute xs
abbrev pub NamesKept : List ℕ → List ℕ → List ℕ → Type 0
NamesKept texts lens xs = (i : ℕ) → i < length xs → NameIn texts lens i (get_or xs i 0)

-- every name that stood before stands in texts₁ as well
abbrev pub SameNames : List ℕ → List ℕ → List ℕ → List ℕ → Type 0
SameNames texts lens texts₁ lens₁ = (i x : ℕ) → i < most_sets → NameIn texts lens i x → NameIn texts₁ lens₁ i x

-- the i-th name is put: the others stand as before, and so does what is kept of the keys
pub record NameMore (texts lens : List ℕ) (i x : ℕ) (texts₁ lens₁ : List ℕ) : Type 0 where
  pub own : NameIn texts₁ lens₁ i x
  pub others : (j y : ℕ) → j < most_sets → (j ≡ i → ⊥) → NameIn texts lens j y → NameIn texts₁ lens₁ j y
  pub kept : (told : List ℕ) → Kept texts lens told → Kept texts₁ lens₁ told
