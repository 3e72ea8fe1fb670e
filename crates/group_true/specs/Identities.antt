-- The identities of edits: when two edits differ by them, and that none stands twice. Assumes nothing.
use Rattle.std.specs.Prelude.{◌≡◌, false, List}
use Rattle.math_lists.specs.SortedLists.{Asc}
use Rattle.edit_record.specs.declared.Edit.{Edit}
use Rattle.edit_causal.specs.Causal.{same_edit}

abbrev pub Differ : Edit → Edit → Type 0
Differ a b = same_edit a.site a.seq b.site b.seq ≡ false

-- no identity stands twice
abbrev pub AllDiffer : List Edit → Type 0
AllDiffer es = Asc Differ es
