-- `edit_next::is_same_in` meets its contract: `same` is what the definition says of the first t entries. Assumes
-- nothing.
use mathlib.Core.Path.{◌≡◌, refl}
use native.Mathlib.Numerals.{add-one}
use native.Mathlib.Omega.{arith}
use Rattle.math_lists.specs.NumbersBelow.{all}
use Rattle.edit_record.specs.Layout.{most_sites}
use Rattle.edit_history.proofs.FieldsInPlace.{entry-in-place}
use Rattle.edit_walk.specs.WalkForms.{same_but}
use Rattle.edit_next.proofs.is_same_in.Goals as goal

pub loop-t-init : goal.loop-t-init
unfolding all
loop-t-init c = (refl, refl, refl, refl)

pub loop-t-preserved : goal.loop-t-preserved
unfolding all
loop-t-preserved c =
    let l = c.loop-t in
    let a = c.args in (
      l.invariant.0,
      l.invariant.1,
      l.invariant.2,
      rw (
        add-one,
        l.invariant.3,
        l.invariant.0,
        c.pair_at-is.ensures,
        c.pair_at-was.ensures,
        l.invariant.1,
        l.invariant.2,
        entry-in-place a.recs.now a.r l.t (omega arith),
        entry-in-place a.recs.now a.p l.t (omega arith),
      ),
    )

pub returns : goal.returns
unfolding same_but
returns c =
    let l = c.loop-t in
    let e : l.t ≡ most_sites = omega arith in
    rw (l.invariant.3, e)
