-- `table_check::is_row` meets its contract: the library's test of two rows is that of their places. Assumes nothing.
use Rattle.std.proofs.Common.{◌≡◌, ◌∙◌, ap, subst, Bool, true, List, ℕ, take}
use Rattle.std.proofs.lemmas.Bool.Decides.{Decides-eqb}
use Rattle.std.proofs.lemmas.Slice.Eq.{slice_eq-Decides}
use lib.Dec.{eqb}
use lib.Pointwise.{pointwise}
use Rattle.math_lists.specs.NumbersBelow.{same_list}
use Rattle.math_lists.proofs.Booleans.{same_test}
use Rattle.math_lists.proofs.ByPlaces.{list-equal, same_self}
use Rattle.table_check.proofs.RowWorkedOut.{part-is}
use Rattle.table_check.proofs.is_row.Goals as goal

rows-same : (xs ys : List ℕ) (r : Bool) → r ≡ pointwise eqb xs ys → r ≡ same_list xs ys
rows-same xs ys r h =
    let (same, agree) = slice_eq-Decides Decides-eqb xs ys r h in
    same_test r (same_list xs ys)
    (λ t. subst (λ (l : List ℕ). same_list xs l ≡ true) (same t) (same_self xs))
    (λ t. agree (list-equal xs ys t))

pub returns : goal.returns
returns c =
    let a = c.args in
    let made = take a.r a.gs.now in
    rows-same _ made _ c.eq.ensures
    ∙ ap (λ (l : List ℕ). same_list l made) (part-is a.groups.now a.o a.g c.requires.1)
