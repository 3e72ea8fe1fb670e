-- `group_context::meeting_rows` meets its contract: those found are those passed whose number has a member of m.
-- Assumes nothing.
use mathlib.Core.Path.{refl, sym, ap, ◌∙◌}
use Prim.Native.Nat.{ℕ}
use native.Mathlib.Omega.{arith}
use lib.Bits.{bit_and}
use lib.Seq.{get_or-take, length-take-le}
use Rattle.math_lists.specs.NumbersBelow.{sum, mask}
use Rattle.group_context.specs.RowForms.{meeting}
use Rattle.group_context.proofs.MeetingRows.{one_more_lem, none_more}
use Rattle.group_context.proofs.meeting_rows.Goals as goal
use Rattle.group_context.proofs.meeting_rows.Goals.{then-row-m-ne0, else-row-m-ne0}

pub loop-j-init : goal.loop-j-init
unfolding meeting mask sum
loop-j-init c = refl

pub loop-j-preserved : goal.loop-j-preserved
loop-j-preserved c =
    let l = c.loop-j in
    let a = c.args in
    let s = a.rows.now in
    let all = length-take-le a.n s (omega arith) in
    let here = ap (λ (row : ℕ). bit_and row a.m) (get_or-take a.n s l.j 0 (omega arith)) in
    elim c.if-row-m-ne0.branch [
      | then-row-m-ne0 v ↦ v.found-is ∙ one_more_lem s a.m l.found l.j l.invariant _ v.only-found.ensures
          (λ z. v.if-row-m-ne0.true (here ∙ z))
      | else-row-m-ne0 v ↦ v.found-is ∙ none_more s a.m l.found l.j l.invariant
          (sym here ∙ v.if-row-m-ne0.false)
    ]
