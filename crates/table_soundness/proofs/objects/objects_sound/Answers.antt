-- `table_soundness::objects::objects_sound` meets its contract: `sound` is the test of the first o objects. Assumes
-- nothing.
use mathlib.Core.Path.{◌≡◌}
use native.Mathlib.Numerals.{add-one}
use native.Mathlib.Omega.{arith}
use borrow.Author.Rules.{rules}
use Rattle.math_lists.specs.NumbersBelow.{all}
use Rattle.table_soundness.proofs.objects.objects_sound.Goals as goal

pub loop-o-init : goal.loop-o-init
unfolding all
loop-o-init c = search rules

pub loop-o-preserved : goal.loop-o-preserved
unfolding all
loop-o-preserved c = (rw (add-one, c.loop-o.invariant, c.object_sound-sound.ensures))

pub returns : goal.returns
returns c =
    let k : c.loop-o.o ≡ c.args.m = omega arith in
    rw (← k) c.loop-o.invariant
