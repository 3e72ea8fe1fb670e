-- `list_version::values::stamp_at` meets its contract: the part of the table that has its bytes has its fields. Assumes
-- nothing.
use native.Mathlib.Omega.{arith}
use Rattle.edit_history.specs.EditsHeld.{record_at}
use Rattle.table_sets.proofs.FieldsCopied.{fields-in-part}
use Rattle.list_version.proofs.values.stamp_at.Goals as goal

pub returns-then-end-recs : goal.returns-then-end-recs
returns-then-end-recs c =
    let a = c.args in
    c.stamp_of.ensures (record_at a.recs.now a.p) (fields-in-part a.recs.now a.p (omega arith))

pub returns : goal.returns
returns c =
    let a = c.args in
    c.stamp_of-2.ensures (record_at a.recs.now a.p) c.copy_at-rec.ensures
