-- `table_sets::copied::copy_rest` meets its contract: the bytes passed are copied. Assumes nothing.
use Rattle.std.proofs.Common.{◌≡◌, ℕ, ◌+◌, ◌<◌, get_or}
use Rattle.table_sets.proofs.copied.copy_rest.Given as goal

abbrev pub invariant-loop-i : goal.invariant-loop-i
invariant-loop-i l = (j : ℕ) → j < l.i → get_or l.byte-items j 0 ≡ get_or l.recs (l.at + j) 0
