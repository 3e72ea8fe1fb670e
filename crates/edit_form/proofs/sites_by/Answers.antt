-- `edit_form::sites_by` meets its contract: the test is the definition's. Assumes nothing.
use borrow.Author.Tests.{eq-eqb, ne_eqb}
use Rattle.edit_form.specs.OldForm.{old_form}
use Rattle.edit_form.proofs.sites_by.Goals as goal

pub returns-then-form-eq-OLD : goal.returns-then-form-eq-OLD
returns-then-form-eq-OLD c = rw (eq-eqb c.args.form old_form c.if-form-eq-OLD.true)

pub returns-else-form-eq-OLD : goal.returns-else-form-eq-OLD
returns-else-form-eq-OLD c = rw (ne_eqb c.args.form old_form c.if-form-eq-OLD.false)
