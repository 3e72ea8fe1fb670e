-- `list_lines::version_total` meets its contract: what is added up so far, which stays small. Assumes nothing.
use mathlib.Core.Path.{◌≡◌}
use Prim.Native.Nat.{◌*◌, ◌≤◌}
use Rattle.math_lists.specs.NumbersBelow.{sum}
use Rattle.table_drawing.specs.Tables.{groups_at}
use Rattle.list_lines.proofs.version_total.Given as goal

abbrev pub invariant-loop-o : goal.invariant-loop-o
invariant-loop-o l = (l.total ≤ l.o * 65536) × (l.total ≡ sum l.o (groups_at l.objects))
