-- `edit_next::is_set_fit_and_aimed` meets its contract: a Set has a target. Assumes nothing.
use mathlib.Core.Path.{◌≡◌, refl, sym, ◌∙◌}
use mathlib.Core.Bool.{true}
use Rattle.edit_record.specs.RecordBytes.{decode_of}
use Rattle.edit_record.specs.Answer1.{is_aimed}
use Rattle.math_lists.proofs.Booleans.{not-not}
use Rattle.edit_next.proofs.is_set_fit_and_aimed.Goals as goal

pub returns-then-is_set_unfit : goal.returns-then-is_set_unfit
returns-then-is_set_unfit c h =
    let u = sym (c.is_set_unfit.ensures h) ∙ c.if-is_set_unfit.true in
    rw u

pub returns : goal.returns
returns c h =
    let u = sym (c.is_set_unfit.ensures h) ∙ c.if-is_set_unfit.false in
    let z = c in
    let t : is_aimed (decode_of z.args.rec.now) ≡ true = rw z.requires.1 refl in
    rw (u, t, c.is_target_held.ensures) (not-not _)
