-- `group_apart::step_apart` meets its contract: where none of the groups conflicts, each gains the Set, which is the
-- step. Assumes nothing.
use mathlib.Core.Path.{sym, ap, ◌∙◌}
use mathlib.Core.List.{List}
use Prim.Native.Nat.{ℕ}
use native.Mathlib.Omega.{arith}
use lib.ListN.{length, take}
use Rattle.group_step.specs.GroupRows.{settled}
use Rattle.group_step.specs.StepForms.{gained}
use Rattle.group_step.proofs.RowAfterStep.{gained-length, row_is}
use Rattle.group_apart.proofs.StepApart.{apart-step, none_stays}
use Rattle.group_apart.proofs.step_apart.Goals as goal

pub returns-then-t-eq0 : goal.returns-then-t-eq0
returns-then-t-eq0 c =
    let start = c in
    let a = start.args in
    let before = take a.n a.gs.now in
    let t = c.count_staying-t in
    let fit = none_stays a.m before (omega (arith, t.ensures.0, c.if-t-eq0.true)) in
    let e = apart-step a.m a.k before start.requires.4 start.requires.5 fit start.requires.3 in
    let long = gained-length a.k a.gs.now a.n (omega arith) in (
      sym (ap length e ∙ long),
      c.gain.ensures
          ∙ rw start.requires.0 (row_is (gained a.k before) a.gs.now a.n long (omega arith))
          ∙ ap (λ (l : List ℕ). settled l a.gs.now) (sym e),
    )
