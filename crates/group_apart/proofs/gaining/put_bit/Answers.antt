-- `group_apart::gaining::put_bit` meets its contract: those passed have gained the Set, and the rest is as it was.
-- Assumes nothing.
use mathlib.Core.Path.{refl, ap, ◌∙◌}
use Prim.Native.Nat.{ℕ}
use native.Mathlib.Omega.{arith}
use lib.Bits.{bit_or}
use lib.ListN.{get_or, set, take}
use Rattle.group_step.specs.StepForms.{gaining, gained}
use Rattle.group_step.proofs.LoopTurns.{made_more}
use Rattle.group_apart.proofs.gaining.put_bit.Goals as goal

pub loop-g-init : goal.loop-g-init
unfolding gained
loop-g-init c = refl

pub loop-g-preserved : goal.loop-g-preserved
unfolding gained
loop-g-preserved c =
    let l = c.loop-g in
    let a = c.args in
    let i = l.g-index in
    ap (λ (b : ℕ). set l.g-items i (bit_or (get_or l.g-items i 0) b)) c.only-b.ensures
    ∙ made_more (gaining a.k) (take a.n a.gs.now) l.g-items i l.invariant (omega arith)
