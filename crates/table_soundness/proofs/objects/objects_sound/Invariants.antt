-- `table_soundness::objects::objects_sound` meets its contract: `sound` is the test of the first o objects. Assumes
-- nothing.
use mathlib.Core.Path.{◌≡◌}
use Rattle.math_lists.specs.NumbersBelow.{all}
use Rattle.table_soundness.specs.Sound.{object_sound}
use Rattle.table_soundness.proofs.objects.objects_sound.Given as goal

abbrev pub invariant-loop-o : goal.invariant-loop-o
invariant-loop-o l = l.sound ≡ all l.o (object_sound l.recs l.n l.objects l.groups)
