-- `edit_record::encode` meets its contract: the fields, then the list of a limited Set or zeros. Assumes nothing.
use mathlib.Core.Path.{◌∙◌}
use borrow.Author.Tests.{eq-eqb, ne_eqb}
use Rattle.edit_record.specs.Layout.{limited_kind}
use Rattle.edit_record.specs.RecordBytes.{count_bytes, four_bytes}
use Rattle.edit_record.proofs.encode.Goals as goal

pub returns-then-e-eq-LIMITED : goal.returns-then-e-eq-LIMITED
returns-then-e-eq-LIMITED c =
    let f = c in
    let e = f.args.e in
    c.with_list.ensures ∙ rw (f.encode_fields-fields.ensures, eq-eqb e.kind limited_kind c.if-e-eq-LIMITED.true)

pub returns : goal.returns
unfolding count_bytes four_bytes
returns c =
    let f = c in
    let e = f.args.e in
    c.with_list-2.ensures ∙ rw (f.encode_fields-fields.ensures, ne_eqb e.kind limited_kind c.if-e-eq-LIMITED.false)
