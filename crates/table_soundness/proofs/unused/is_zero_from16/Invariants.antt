-- `table_soundness::unused::is_zero_from16` meets its contract: `zero` is the test of the entries below i. Assumes
-- nothing.
use mathlib.Core.Path.{◌≡◌}
use Prim.Native.Nat.{◌+◌}
use Rattle.math_lists.specs.NumbersBelow.{all}
use Rattle.table_soundness.proofs.ZeroFrom.{zero_at}
use Rattle.table_soundness.proofs.unused.is_zero_from16.Given as goal

abbrev pub invariant-loop-number : goal.invariant-loop-number
invariant-loop-number l = l.zero ≡ all (l.k + l.number-index) (zero_at l.s l.k)
