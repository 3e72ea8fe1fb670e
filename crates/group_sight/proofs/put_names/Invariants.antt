-- `group_sight::put_names` meets its contract: after i places, their names are put down. Assumes nothing.
use mathlib.Core.Path.{◌≡◌}
use lib.ListN.{length}
use Rattle.group_sight.specs.SightForms.{NamesIn}
use Rattle.group_sight.proofs.put_names.Given as goal

abbrev pub invariant-loop-i : goal.invariant-loop-i
invariant-loop-i l = (length l.names ≡ length l.initial.names) × NamesIn l.recs l.places l.i l.names
