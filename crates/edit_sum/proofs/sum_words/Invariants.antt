-- `edit_sum::sum_words` meets its contract: `sum` is the sum of the first i words. Assumes nothing.
use Rattle.std.proofs.Common.{◌≡◌}
use Rattle.edit_sum.specs.WordSum.{sum_of}
use Rattle.edit_sum.proofs.sum_words.Given as goal

abbrev pub invariant-loop-i : goal.invariant-loop-i
invariant-loop-i l = l.sum ≡ sum_of l.i l.s
