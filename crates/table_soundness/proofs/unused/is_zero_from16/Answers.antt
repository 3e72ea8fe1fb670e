-- `table_soundness::unused::is_zero_from16` meets its contract: `zero` is the test of the entries passed. Assumes
-- nothing.
use Rattle.std.proofs.Common.{◌≡◌, ◌∙◌, ◌+◌, add-zero, arith}
use lib.ListN.{length-drop}
use lib.Seq.{get_or-drop}
use Rattle.table_soundness.proofs.ZeroFrom.{rest-is, zero-past, zero-start, zero_more, zero-end}
use Rattle.table_soundness.proofs.unused.is_zero_from16.Goals as goal

pub returns-then-s-k : goal.returns-then-s-k
returns-then-s-k c = zero-past c.args.s.now c.args.k c.if-s-k.true

pub loop-number-init : goal.loop-number-init
loop-number-init c = rw add-zero (zero-start c.args.s.now c.args.k)

pub loop-number-preserved : goal.loop-number-preserved
loop-number-preserved c =
    let a = c.args in
    let l = c.loop-number in
    let next : a.k + (l.number-index + 1) ≡ a.k + l.number-index + 1 = omega arith in
    rw (next, rest-is a.s.now a.k, get_or-drop a.k a.s.now l.number-index 0, l.invariant)
    (zero_more a.s.now a.k (a.k + l.number-index) (omega arith))

pub returns : goal.returns
returns c =
    let a = c.args in
    let l = c.loop-number in
    l.invariant ∙ zero-end a.s.now a.k (a.k + l.number-index) (omega (arith, length-drop a.k a.s.now))
