-- `table_soundness::unused::is_zero_down8` meets its contract: the entries from i on are zero if no bit was met.
-- Assumes nothing.
use mathlib.Core.Path.{◌≡◌}
use Prim.Native.Nat.{◌≤◌}
use lib.Dec.{eqb}
use Rattle.table_soundness.specs.Sound.{zero_from}
use Rattle.table_soundness.proofs.unused.is_zero_down8.Given as goal

abbrev pub invariant-loop-i : goal.invariant-loop-i
invariant-loop-i l = (l.k ≤ l.i) × (eqb l.bits 0 ≡ zero_from l.s l.i)
