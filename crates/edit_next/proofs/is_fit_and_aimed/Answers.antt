-- `edit_next::is_fit_and_aimed` meets its contract. Assumes nothing.
use mathlib.Core.Path.{sym, ◌∙◌}
use Rattle.math_lists.proofs.Booleans.{not-not}
use Rattle.edit_next.proofs.is_fit_and_aimed.Goals as goal

pub returns-then-is_body_unfit : goal.returns-then-is_body_unfit
returns-then-is_body_unfit c h =
    let u = sym (c.is_body_unfit.ensures h) ∙ c.if-is_body_unfit.true in
    rw u

pub returns-then-is_aimed_kind : goal.returns-then-is_aimed_kind
returns-then-is_aimed_kind c h =
    let z = c in
    let u = sym (z.is_body_unfit.ensures h) ∙ z.if-is_body_unfit.false in
    let t = sym c.is_aimed_kind.ensures ∙ c.if-is_aimed_kind.true in
    rw (u, t, c.is_target_held.ensures) (not-not _)

pub returns : goal.returns
returns c h =
    let u = sym (c.is_body_unfit.ensures h) ∙ c.if-is_body_unfit.false in
    let t = sym c.is_aimed_kind.ensures ∙ c.if-is_aimed_kind.false in
    rw (u, t)
