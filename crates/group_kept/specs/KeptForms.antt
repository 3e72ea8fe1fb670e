-- Forms that the code uses: the rows of the Sets of one box in one list, their numbers first, then their contexts, and
-- then what the authors of the last of them had seen. No one need believe them. Assumes nothing.
use Rattle.std.specs.Prelude.{◌≡◌, List, [], ◌∷◌, ◌++◌, ℕ, ◌+◌, length, drop}
use Rattle.math_contexts.specs.Contexts.{context}
use Rattle.edit_record.specs.declared.Edit.{Edit}
use Rattle.edit_causal.specs.Conflict.{box_on}
use Rattle.edit_causal.specs.ConflictForms.{Proper, plain_marks}
use Rattle.group_step.specs.GroupRows.{most_sets}
use Rattle.group_limited.specs.LimitedForms.{RowsTell}
use Rattle.group_sight.specs.SightForms.{most_recent, seen_marks, SeesTell}
use Rattle.group_kept.specs.declared.Noted.{Noted}

abbrev pub contexts_at : ℕ
contexts_at = most_sets

abbrev pub sees_at : ℕ
sees_at = most_sets + most_sets

abbrev pub rows_length : ℕ
rows_length = most_sets + most_sets + most_recent

-- they tell of the Sets ms
pub record RowsKept (ms : List Edit) (rows : List ℕ) : Type 0 where
  pub tell : RowsTell ms rows (drop contexts_at rows)
  pub sees : SeesTell ms (drop sees_at rows)

-- what is put down of a Set e that comes after the Sets ms
pub record NotedOf (ms : List Edit) (e : Edit) (t : Noted) : Type 0 where
  pub row : t.row ≡ plain_marks e ms
  pub context : t.context ≡ context (box_on (ms ++ (e ∷ []))) (length ms)
  pub seen : t.seen ≡ seen_marks e ms

-- it is this where the rows tell of the Sets ms, and all of them are proper with e
abbrev pub NotedWhere : List Edit → Edit → List ℕ → Noted → Type 0
NotedWhere ms e rows t = Proper (ms ++ (e ∷ [])) → RowsKept ms rows → NotedOf ms e t
