-- `table_arrival::copy_record` meets its contract. Assumes nothing.
use mathlib.Core.List.{◌++◌}
use mathlib.Core.Path.{◌≡◌}
use Prim.Native.Nat.{◌≤◌}
use lib.ListN.{length, take, drop}
use Rattle.table_arrival.proofs.copy_record.Given as goal

abbrev pub invariant-loop-i : goal.invariant-loop-i
invariant-loop-i l = (l.i ≤ length l.src) × (length l.d ≡ length l.initial.d) × (l.d ≡ take l.i l.src ++ drop l.i l.initial.d)
