-- `list_lines::version_total` meets its contract: what is added up so far, which stays small. Assumes nothing.
use mathlib.Core.Path.{◌≡◌, refl, ◌∙◌}
use native.Mathlib.Numerals.{add-one}
use native.Mathlib.Omega.{arith}
use Rattle.math_lists.specs.NumbersBelow.{sum}
use Rattle.list_lines.proofs.version_total.Goals as goal

pub loop-o-init : goal.loop-o-init
unfolding sum
loop-o-init c = (omega arith, refl)

pub loop-o-preserved : goal.loop-o-preserved
unfolding sum
loop-o-preserved c =
    let l = c.loop-o in
    (omega (arith, l.invariant.0), rw (add-one, ← l.invariant.1, c.at16.ensures))

pub returns : goal.returns
returns c =
    let l = c.loop-o in
    let e : l.o ≡ c.args.m = omega arith in
    l.invariant.1 ∙ rw e
