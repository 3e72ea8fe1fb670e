-- `table_sets::copied::copy_at` meets its contract. Assumes nothing.
use Rattle.table_sets.proofs.FieldsCopied.{fields_copied}
use Rattle.table_sets.proofs.copied.copy_at.Goals as goal

pub returns-then-at-recs : goal.returns-then-at-recs
returns-then-at-recs c =
    let a = c.args in
    fields_copied _ a.recs.now a.p c.copy_whole.ensures

pub returns : goal.returns
returns c =
    let a = c.args in
    fields_copied _ a.recs.now a.p c.copy_rest.ensures
