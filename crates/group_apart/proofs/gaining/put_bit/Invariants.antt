-- `group_apart::gaining::put_bit` meets its contract: those passed have gained the Set, and the rest is as it was.
-- Assumes nothing.
use mathlib.Core.Path.{◌≡◌}
use mathlib.Core.List.{◌++◌}
use lib.ListN.{take, drop}
use Rattle.group_step.specs.StepForms.{gained}
use Rattle.group_apart.proofs.gaining.put_bit.Given as goal

abbrev pub invariant-loop-g : goal.invariant-loop-g
invariant-loop-g l = l.g-items ≡ gained l.k (take l.g-index l.initial.g-items) ++ drop l.g-index l.initial.g-items
