-- Whether a Create is held, by its name: seen by an edit or not. Assumes nothing.
use Rattle.std.specs.Prelude.{Bool, ◌&&◌, List}
use Rattle.math_lists.specs.SortedLists.{any}
use Rattle.edit_record.specs.declared.Site.{Site}
use Rattle.edit_record.specs.declared.Seq.{Seq}
use Rattle.edit_record.specs.declared.Edit.{Edit}
use Rattle.edit_record.specs.Answer1.{is_create}
use Rattle.edit_causal.specs.Causal.{same_edit}

-- a is the Create s.q
abbrev pub is_create_of : Site → Seq → Edit → Bool
is_create_of s q a = is_create a && same_edit a.site a.seq s q

-- it is one of the edits es
unfoldable pub is_held : List Edit → Site → Seq → Bool
is_held es s q = any (is_create_of s q) es
