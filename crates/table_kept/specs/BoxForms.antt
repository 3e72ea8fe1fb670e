-- Forms that the code uses: what is kept of one box from one record to the next. The names of its Sets have three
-- entries behind them: the site and the sequence number of the box, and how many of its Sets the names and the rows
-- tell of. No one need believe them. Assumes nothing.
use Rattle.std.specs.Prelude.{◌≡◌, List, ℕ, ◌+◌, ◌≤◌, length, get_or, set, take}
use Rattle.edit_record.specs.declared.Site.{Site}
use Rattle.edit_record.specs.declared.Seq.{Seq}
use Rattle.edit_record.specs.declared.Edit.{Edit}
use Rattle.edit_causal.specs.ConflictForms.{Proper}
use Rattle.edit_history.specs.EditsHeld.{sets_on}
use Rattle.group_step.specs.GroupRows.{most_sets}
use Rattle.group_sight.specs.SightForms.{NamesOf}
use Rattle.group_kept.specs.KeptForms.{rows_length, RowsKept}

abbrev pub box_site_at : ℕ
box_site_at = most_sets

abbrev pub box_seq_at : ℕ
box_seq_at = most_sets + 1

abbrev pub told_at : ℕ
told_at = most_sets + 2

abbrev pub kept_length : ℕ
kept_length = most_sets + 3

-- those entries put down
abbrev pub boxed : List ℕ → Edit → ℕ → List ℕ
boxed ns e k = set (set (set ns box_site_at e.tsite.0) box_seq_at e.tseq.0) told_at k

-- the names and the rows tell of the Sets ms
pub record TellOf (ms : List Edit) (ns rows : List ℕ) : Type 0 where
  pub names : NamesOf ns ms
  pub told : Proper ms → RowsKept ms rows

-- of the Sets of the box among the edits es, they tell of the first so many
pub record KeptFor (es : List Edit) (ns rows : List ℕ) : Type 0 where
  pub names-long : length ns ≡ kept_length
  pub rows_long : length rows ≡ rows_length
  pub first :
      (s : Site) (q : Seq) → s.0 ≡ get_or ns box_site_at 0 → q.0 ≡ get_or ns box_seq_at 0 →
      (get_or ns told_at 0 ≤ length (sets_on s q es)) × TellOf (take (get_or ns told_at 0) (sets_on s q es)) ns rows
