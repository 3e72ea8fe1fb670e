-- `edit_form::widened_from` meets its contract: the two parts of the record are copied around the zeros. Assumes
-- nothing.
use mathlib.Core.Path.{◌≡◌, sym, ◌∙◌}
use native.Mathlib.Omega.{arith}
use lib.ListN.{take}
use Rattle.edit_form.specs.OldForm.{old_length, widened}
use Rattle.edit_form.proofs.CopiedParts.{parts-widened, old-by-kind}
use Rattle.edit_form.proofs.widened_from.Goals as goal

pub returns-then-not-has_old_form : goal.returns-then-not-has_old_form
returns-then-not-has_old_form c =
    let h = c.has_old_form in
    let rest = c.args.rest.now in
    sym (old-by-kind rest ∙ rw (← h.ensures, c.if-not-has_old_form.true))

pub returns : goal.returns
returns c =
    let h = c.has_old_form in
    let rest = c.args.rest.now in
    let both : c.with_part.result ≡ widened (take old_length rest) =
    c.with_part.ensures ∙ rw c.with_part-front.ensures (parts-widened rest (omega arith)) in
    both
    ∙ sym (old-by-kind rest ∙ rw (← h.ensures, c.if-not-has_old_form.false))
