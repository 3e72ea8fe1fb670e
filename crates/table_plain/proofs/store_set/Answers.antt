-- `table_plain::store_set` meets its contract. Assumes nothing.
use mathlib.Core.Path.{refl}
use Rattle.math_lists.proofs.Booleans.{clash}
use Rattle.table_plain.proofs.store_set.Goals as goal

pub returns-then-w-gt-GROUPS : goal.returns-then-w-gt-GROUPS
returns-then-w-gt-GROUPS c =
    let m = c.step_in-w in (
      m.ensures.1,
      (λ no. clash no refl),
      λ yes. (rw m.ensures.0 at c.if-w-gt-GROUPS.true, refl, refl, refl, refl),
    )

pub returns : goal.returns
returns c =
    let c6 = c in
    let c12 = c6 in
    let c14 = c12 in
    let m = c14.step_in-w in
    let add = c6.add_set.ensures in (
      m.ensures.1,
      (λ yes. (
        rw m.ensures.0 at c14.if-w-gt-GROUPS.false,
        rw m.ensures.0 at c12.put_counts.ensures,
        add.0,
        add.1,
        add.2,
      )),
      λ no. clash refl no,
    )
