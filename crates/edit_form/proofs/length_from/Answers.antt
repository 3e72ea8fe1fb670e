-- `edit_form::length_from` meets its contract: the test is the definition's. Assumes nothing.
use mathlib.Core.Path.{◌∙◌}
use borrow.Author.Tests.{eq-eqb, ne_eqb}
use Rattle.edit_form.specs.OldForm.{old_form}
use Rattle.edit_form.proofs.length_from.Goals as goal

pub returns-then-form-eq-OLD : goal.returns-then-form-eq-OLD
returns-then-form-eq-OLD c = rw (eq-eqb c.args.form old_form c.if-form-eq-OLD.true)

pub returns : goal.returns
returns c =
    let s = c in
    c.span_of.ensures ∙ rw (ne_eqb s.args.form old_form c.if-form-eq-OLD.false)
