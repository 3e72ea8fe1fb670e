-- `table_soundness::gathering::is_next_right` meets its contract. Assumes nothing.
use mathlib.Core.Path.{refl, sym, ◌∙◌}
use Rattle.math_lists.proofs.Booleans.{clash}
use Rattle.math_lists.proofs.NumbersBelow.{all-at}
use Rattle.table_soundness.specs.Sound.{rest_zero}
use Rattle.table_soundness.proofs.gathering.is_next_right.Goals as goal

pub returns-then-not-goes_on : goal.returns-then-not-goes_on
returns-then-not-goes_on c =
    let g = c.goes_on in
    (λ h. clash h refl, λ h m l y roomy zero. g.ensures.1 (c.if-not-goes_on.true) m l y roomy)

pub returns : goal.returns
returns c =
    let a = c.args in
    let g = c.goes_on in
    let r = c.is_rest_zero in (
      λ h. (g.ensures.0 (c.if-not-goes_on.false), sym r.ensures ∙ h),
      λ h m l y roomy zero. clash (all-at m (rest_zero a.recs.now) zero a.i l) (sym r.ensures ∙ h),
    )
