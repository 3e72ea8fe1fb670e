-- `list_version::values::last_of` meets its contract: with the largest stamp of those left, the one found is the
-- largest. Assumes nothing.
use mathlib.Core.Path.{◌≡◌}
use mathlib.Core.Bool.{true}
use Prim.Native.Nat.{ℕ, ◌/◌, ◌<◌, max}
use lib.ListN.{get_or}
use Rattle.math_maximal.specs.Groups.{bit}
use Rattle.list_version.specs.VersionForms.{placings}
use Rattle.list_version.proofs.LargestWhere.{largest_where}
use Rattle.list_version.proofs.values.last_of.Given as goal

abbrev pub invariant-loop-left : goal.invariant-loop-left
invariant-loop-left l =
    ((i : ℕ) → bit l.left i ≡ true → (i < l.t) × (get_or l.stamps i 0 / placings ≡ l.k))
    × (max l.found (largest_where (bit l.left) l.stamps l.k l.t) ≡ largest_where (bit l.g) l.stamps l.k l.t)

abbrev pub decreases-loop-left : goal.decreases-loop-left
decreases-loop-left l = l.left
