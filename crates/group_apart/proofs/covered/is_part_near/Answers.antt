-- `group_apart::covered::is_part_near` meets its contract. Assumes nothing.
use mathlib.Core.Path.{sym, ◌∙◌}
use native.Mathlib.Omega.{arith}
use Rattle.group_step.specs.StepForms.{part_of}
use Rattle.group_apart.proofs.PutApart.{among}
use Rattle.group_apart.proofs.covered.is_part_near.Goals as goal

pub returns-then-is_part : goal.returns-then-is_part
returns-then-is_part c =
    let a = c.args in
    sym (among (part_of a.x) a.s.now a.t a.i a.n (omega arith) (omega arith) (omega arith)
    (sym c.is_part.ensures ∙ c.if-is_part.true))
