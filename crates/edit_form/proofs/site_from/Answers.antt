-- `edit_form::site_from` meets its contract: the test is whether zeros stand for the record. Assumes nothing.
use mathlib.Core.Path.{sym, ◌∙◌}
use native.Mathlib.Omega.{arith}
use Rattle.edit_form.proofs.CopiedParts.{length-least, site-read}
use Rattle.edit_form.proofs.site_from.Goals as goal

pub bounds-rest-0 : goal.bounds-rest-0
bounds-rest-0 c =
    let a = c.args in
    omega (arith, length-least a.form a.rest.now)

pub returns-then-form-old : goal.returns-then-form-old
returns-then-form-old c =
    let h = c in
    let s = h in
    sym
    (site-read s.args.form s.args.rest.now s.requires
    ∙ rw (← h.has_old_form-old.ensures, c.if-form-old.true))

pub bounds-rest-1 : goal.bounds-rest-1
bounds-rest-1 c =
    let a = c.args in
    omega (arith, length-least a.form a.rest.now)

pub returns : goal.returns
returns c =
    let h = c in
    let s = h in
    sym
    (site-read s.args.form s.args.rest.now s.requires
    ∙ rw (← h.has_old_form-old.ensures, c.if-form-old.false))
