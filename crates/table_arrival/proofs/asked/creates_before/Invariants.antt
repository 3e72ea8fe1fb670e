-- `table_arrival::asked::creates_before` meets its contract. Assumes nothing.
use mathlib.Core.Path.{◌≡◌}
use Prim.Native.Nat.{◌≤◌}
use Rattle.table_index.specs.IndexForms.{number_at}
use Rattle.table_arrival.proofs.asked.creates_before.Given as goal

abbrev pub invariant-loop-i : goal.invariant-loop-i
invariant-loop-i l = (l.count ≤ l.i) × (l.count ≡ number_at l.recs l.i)
