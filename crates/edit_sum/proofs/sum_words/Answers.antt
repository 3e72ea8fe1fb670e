-- `edit_sum::sum_words` meets its contract: `sum` is the sum of the first i words. Assumes nothing.
use Rattle.std.proofs.Common.{refl, add-one}
use Rattle.math_lists.specs.NumbersBelow.{sum}
use Rattle.edit_sum.specs.WordSum.{sum_of}
use Rattle.edit_sum.proofs.WordsAdded.{sum_more}
use Rattle.edit_sum.proofs.sum_words.Goals as goal

pub loop-i-init : goal.loop-i-init
unfolding sum_of sum
loop-i-init c = refl

pub loop-i-preserved : goal.loop-i-preserved
loop-i-preserved c =
    let l = c.loop-i in
    let s = c.args.s.now in
    (rw (add-one, c.added-sum.ensures, c.word_at.ensures, l.invariant) (sum_more l.i s))
