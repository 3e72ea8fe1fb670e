-- `group_sight::marks_one_by_one` meets its contract: after i names, those of them are marked. Assumes
-- nothing.
use mathlib.Core.Path.{◌≡◌}
use Rattle.group_sight.specs.SightForms.{marks_of_name}
use Rattle.group_sight.proofs.marks_one_by_one.Given as goal

abbrev pub invariant-loop-i : goal.invariant-loop-i
invariant-loop-i l = l.m ≡ marks_of_name l.names l.i l.x
