-- `group_context::conflicts_by` meets its contract. Assumes nothing.
use mathlib.Core.Path.{ap, ◌∙◌}
use Prim.Native.Nat.{ℕ}
use lib.Bits.{bit_or}
use Rattle.group_context.specs.RowForms.{reaching}
use Rattle.group_context.proofs.conflicts_by.Goals as goal

pub returns : goal.returns
returns c =
    let a = c.args in
    c.reaching_any.ensures
    ∙ ap (λ (m : ℕ). reaching a.ctx.now a.n (bit_or a.row m)) c.meeting_rows.ensures
