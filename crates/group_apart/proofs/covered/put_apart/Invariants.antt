-- `group_apart::covered::put_apart` meets its contract: of those passed, those that stay stand at the front of out, and
-- what the others give from place t on. Assumes nothing.
use mathlib.Core.Path.{◌≡◌}
use mathlib.Core.List.{◌++◌, map}
use Prim.Native.Nat.{◌+◌, ◌≤◌}
use lib.ListN.{length, take, drop}
use lib.Seq.{slice}
use Rattle.math_lists.specs.SortedLists.{filter}
use Rattle.math_maximal.specs.Step.{compatible, candidate}
use Rattle.group_step.specs.StepForms.{conflicting, staying, wholes}
use Rattle.group_apart.proofs.covered.put_apart.Given as goal

abbrev pub invariant-loop-g : goal.invariant-loop-g
invariant-loop-g l =
    (l.a ≤ l.g-index)
    × (l.w ≤ l.n)
    × (l.w + l.a ≡ l.t + l.g-index)
    × (length l.out ≡ length l.initial.out)
    × (l.t ≡ l.a + length (filter (conflicting l.m) (slice l.g-index l.n l.gs)))
    × (staying l.m (take l.n l.gs) ≡ take l.a l.out ++ filter (conflicting l.m) (slice l.g-index l.n l.gs))
    × (wholes l.m l.k (take l.n l.gs) ≡ slice l.t l.w l.out ++ map (candidate l.m l.k) (filter (compatible l.m) (slice l.g-index l.n l.gs)))
    × (drop l.n l.out ≡ drop l.n l.initial.out)
