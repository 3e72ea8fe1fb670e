-- `edit_form::edit_from` meets its contract: an old record is widened, and a long one is read where it stands. Assumes
-- nothing.
use mathlib.Core.Path.{sym, ap, ◌∙◌}
use native.Mathlib.Omega.{arith}
use borrow.Author.Tests.{eq-eqb, ne_eqb}
use Rattle.edit_record.specs.RecordBytes.{decode_of}
use Rattle.edit_record.proofs.AgreeingBytes.{decode-own}
use Rattle.edit_form.specs.OldForm.{old_form, long_from}
use Rattle.edit_form.proofs.CopiedParts.{length-least}
use Rattle.edit_form.proofs.OldRecords.{long-old}
use Rattle.edit_form.proofs.edit_from.Goals as goal

pub widened_from-wide-requires : goal.widened_from-wide-requires
widened_from-wide-requires c =
    let a = c.args in
    omega (arith, length-least a.form a.rest.now)

pub returns-then-form-eq-OLD : goal.returns-then-form-eq-OLD
returns-then-form-eq-OLD c =
    let w = c in
    let a = w.args in
    c.decode.ensures
    ∙ ap decode_of
    (w.widened_from-wide.ensures
    ∙ sym (long-old a.form a.rest.now (eq-eqb a.form old_form w.if-form-eq-OLD.true)))

pub returns : goal.returns
unfolding long_from
returns c =
    let a = c.args in
    c.decode-2.ensures
    ∙ rw (ne_eqb a.form old_form c.if-form-eq-OLD.false) (sym (decode-own a.rest.now))
