-- `table_kept::told_after` meets its contract. Assumes nothing.
use lib.Dec.{ltb}
use borrow.Author.Tests.{ltb-true}
use Rattle.math_lists.proofs.Booleans.{both}
use Rattle.group_step.specs.GroupRows.{most_sets}
use borrow.Author.Rules.{rules}
use Rattle.table_kept.proofs.told_after.Goals as goal

pub overflow_cast-result : goal.overflow_cast-result
overflow_cast-result c =
    let few = ltb-true c.args.k most_sets
    (both (ltb c.args.k most_sets) c.is_set_kind.result c.if-k-is_set_kind.true).0 in
    search (rules, few)

pub overflow_add-result : goal.overflow_add-result
overflow_add-result c =
    let few = ltb-true c.args.k most_sets
    (both (ltb c.args.k most_sets) c.is_set_kind.result c.if-k-is_set_kind.true).0 in
    search (rules, few)

pub returns-then-k-is_set_kind : goal.returns-then-k-is_set_kind
returns-then-k-is_set_kind c = rw (← c.is_set_kind.ensures, c.if-k-is_set_kind.true)

pub returns : goal.returns
returns c = rw (← c.is_set_kind.ensures, c.if-k-is_set_kind.false)
