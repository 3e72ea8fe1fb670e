-- `group_context::conflicts_of` meets its contract. Assumes nothing.
use mathlib.Core.Path.{ap, ◌∙◌}
use Prim.Native.Nat.{ℕ, ◌^◌, ◌<◌}
use lib.Bits.{bit_or}
use Rattle.math_contexts.proofs.ContextMembers.{context-below}
use Rattle.group_context.specs.RowForms.{reaching, conflicts_of}
use Rattle.group_context.proofs.MetByRows.{union-is}
use Rattle.group_context.proofs.NextByRows.{conflicts-of-next}
use Rattle.group_context.proofs.conflicts_of.Goals as goal

pub returns : goal.returns
returns c b v w limited next its-row its-context =
    let s = c in
    let a = s.args in
    let foes = c.foes_of-foes in
    let met = c.among_first-met in
    let small : a.c < 2 ^ a.n = rw its-context (context-below b a.n) in
    c.reaching_any.ensures
    ∙ ap (λ (m : ℕ). reaching a.ctx.now a.n (bit_or a.row m))
    (union-is b a.n a.plain.now next.plainly s.requires.0 a.c small foes.result foes.ensures
    met.result met.ensures.0 met.ensures.1)
    ∙ ap (λ (g : ℕ). conflicts_of a.plain.now a.ctx.now a.n a.row g) its-context
    ∙ conflicts-of-next next a.row its-row
