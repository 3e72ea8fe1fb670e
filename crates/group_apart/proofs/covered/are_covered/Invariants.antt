-- `group_apart::covered::are_covered` meets its contract: what remains of each number passed is part of one of those
-- behind, so those left decide. Assumes nothing.
use mathlib.Core.Path.{◌≡◌}
use lib.ListN.{take}
use lib.Seq.{slice}
use Rattle.math_lists.specs.SortedLists.{any}
use Rattle.group_step.specs.StepForms.{uncovered}
use Rattle.group_apart.proofs.covered.are_covered.Given as goal

abbrev pub invariant-loop-i : goal.invariant-loop-i
invariant-loop-i l =
    any (uncovered l.m l.k (slice l.t l.n l.s)) (take l.t l.s) ≡ any (uncovered l.m l.k (slice l.t l.n l.s)) (slice l.i l.t l.s)
