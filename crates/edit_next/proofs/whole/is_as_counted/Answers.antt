-- `edit_next::whole::is_as_counted` meets its contract: `same` is what the definition says of the first t entries.
-- Assumes nothing.
use mathlib.Core.Path.{◌≡◌, refl}
use native.Mathlib.Numerals.{add-one}
use native.Mathlib.Omega.{arith}
use Rattle.math_lists.specs.NumbersBelow.{all}
use Rattle.edit_record.specs.Layout.{most_sites}
use Rattle.edit_record.proofs.NumbersInBytes.{entry-in-record}
use Rattle.edit_walk.specs.WalkForms.{same_but}
use Rattle.edit_next.proofs.whole.is_as_counted.Goals as goal

pub loop-t-init : goal.loop-t-init
unfolding all
loop-t-init c = (refl, refl)

pub loop-t-preserved : goal.loop-t-preserved
unfolding all
loop-t-preserved c =
    let l = c.loop-t in
    let a = c.args in (
      l.invariant.0,
      rw (
        add-one,
        l.invariant.1,
        l.invariant.0,
        c.pair_at-is.ensures,
        entry-in-record a.rec.now l.t (omega arith),
      ),
    )

pub returns : goal.returns
unfolding same_but
returns c =
    let l = c.loop-t in
    let e : l.t ≡ most_sites = omega arith in
    rw (l.invariant.1, e)
