-- `table_engine::search` meets its contract. Assumes nothing.
use native.Mathlib.Omega.{arith}
use Rattle.group_engine.specs.SearchForms.{by_masks}
use Rattle.table_engine.proofs.EnumerationOutcomes.{too-many-groups, all-given}
use Rattle.table_engine.proofs.search.Goals as goal

pub returns-then-r-gt-GROUPS : goal.returns-then-r-gt-GROUPS
returns-then-r-gt-GROUPS c =
    let a = c.args in
    let g = c.enumerate-r in
    too-many-groups (by_masks a.masks.now a.k) a.out.now _ g.result g.ensures.0 g.ensures.1
    c.if-r-gt-GROUPS.true

pub returns : goal.returns
returns c =
    let a = c.args in
    let g = c.enumerate-r in
    all-given (by_masks a.masks.now a.k) a.out.now _ g.result g.ensures.0 g.ensures.1
    (omega arith)
