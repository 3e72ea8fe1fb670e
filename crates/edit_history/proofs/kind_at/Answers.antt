-- `edit_history::kind_at` meets its contract: the kind is one byte of the table. Assumes nothing.
use mathlib.Core.Path.{sym, ◌∙◌}
use Rattle.edit_history.proofs.FieldsInPlace.{kind-in-place}
use Rattle.edit_history.proofs.kind_at.Goals as goal

pub returns : goal.returns
returns c =
    let a = c.args in
    c.byte_at.ensures ∙ sym (kind-in-place a.recs.now a.p)
