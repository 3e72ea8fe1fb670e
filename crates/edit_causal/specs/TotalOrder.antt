-- The total order of edits: smaller vector sum first, then smaller site. Assumes nothing.
use Rattle.std.specs.Prelude.{ℕ, List, Bool, ◌&&◌, ◌||◌, get_or, eqb, ltb}
use Rattle.math_lists.specs.NumbersBelow.{sum}
use Rattle.edit_record.specs.declared.Edit.{Edit}
use Rattle.edit_record.specs.Layout.{most_sites}

unfoldable pub vector_sum : List ℕ → ℕ
vector_sum v = sum most_sites (λ i. get_or v i 0)

abbrev pub ranks_before : Edit → Edit → Bool
ranks_before a b =
    ltb (vector_sum a.vector) (vector_sum b.vector)
    || eqb (vector_sum a.vector) (vector_sum b.vector) && ltb a.site.0 b.site.0
