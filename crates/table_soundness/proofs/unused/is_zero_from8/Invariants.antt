-- `table_soundness::unused::is_zero_from8` meets its contract: the first i entries of each of four parts are zero if no
-- bit was met, and then all up to j. Assumes nothing.
use mathlib.Core.Path.{◌≡◌}
use Prim.Native.Nat.{◌+◌, ◌≤◌}
use lib.Dec.{eqb}
use lib.ListN.{length}
use Rattle.math_lists.specs.NumbersBelow.{all}
use Rattle.table_soundness.proofs.ZeroFrom.{zero_at, zero_four}
use Rattle.table_soundness.proofs.unused.is_zero_from8.Given as goal

abbrev pub invariant-loop-i : goal.invariant-loop-i
invariant-loop-i l = (l.fourth + l.part ≤ length l.s) × (eqb l.bits 0 ≡ all l.i (zero_four l.s l.k l.part))

abbrev pub invariant-loop-byte : goal.invariant-loop-byte
invariant-loop-byte l = eqb l.bits 0 ≡ all (l.fourth + l.part + l.byte-index) (zero_at l.s l.k)
