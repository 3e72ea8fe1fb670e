-- `table_soundness::objects::row_sound` meets its contract: `sound` is the test of the first i places, of which those
-- from g on are unused. Assumes nothing.
use mathlib.Core.Path.{◌≡◌}
use Prim.Native.Nat.{◌+◌, ◌≤◌}
use Rattle.math_lists.specs.NumbersBelow.{all}
use Rattle.group_step.specs.GroupRows.{most_groups}
use Rattle.table_soundness.specs.Sound.{slot_sound}
use Rattle.table_soundness.proofs.objects.row_sound.Given as goal

abbrev pub invariant-loop-i : goal.invariant-loop-i
invariant-loop-i l = (l.g ≤ most_groups) × (l.sound ≡ all l.i (slot_sound l.groups l.o l.k l.g))

abbrev pub invariant-loop-unused : goal.invariant-loop-unused
invariant-loop-unused l =
    (l.g ≤ most_groups) × (l.sound ≡ all (l.g + l.unused-index) (slot_sound l.groups l.o l.k l.g))
