-- A test that tells any two edits apart, by all that is in them and not by their identities alone. Assumes nothing.
use Rattle.std.specs.Prelude.{Bool, ◌&&◌, List, [], ◌∷◌, ℕ}
use Rattle.edit_record.specs.declared.Edit.{Edit}
use Rattle.math_lists.specs.NumbersBelow.{same_list}

-- the fields that are numbers
abbrev pub fields_of : Edit → List ℕ
fields_of e =
    e.kind ∷ e.site.0 ∷ e.seq.0 ∷ e.tsite.0 ∷ e.key ∷ e.tseq.0 ∷ e.value ∷ e.count ∷ []

unfoldable pub is_equal : Edit → Edit → Bool
is_equal a b =
    same_list (fields_of a) (fields_of b) && same_list a.vector b.vector && same_list a.members b.members
