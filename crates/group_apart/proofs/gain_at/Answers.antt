-- `group_apart::gain_at` meets its contract: the part that is lent is the object's row, and 0 stands behind its groups.
-- Assumes nothing.
use mathlib.Core.Path.{◌≡◌, sym, ap, ◌∙◌}
use mathlib.Core.List.{List}
use Prim.Native.Nat.{ℕ}
use lib.ListN.{length, take}
use borrow.Author.Rules.{rules}
use Rattle.group_step.specs.GroupRows.{row, settled}
use Rattle.group_step.specs.StepForms.{gained}
use Rattle.group_step.proofs.RowAfterStep.{lent, lent_is, in_row, gained-length, row_is}
use Rattle.group_apart.proofs.StepApart.{apart-step, none-conflicts}
use Rattle.group_apart.proofs.gain_at.Goals as goal

pub returns : goal.returns
returns c =
    let start = c in
    let a = start.args in
    let gs = a.groups.now in
    let s = c.put_bit in
    let e : row a.o gs ≡ lent a.o gs = sym (lent_is a.o gs) in
    let before = take a.n (lent a.o gs) in
    let fit = none-conflicts before in
    let is = apart-step 0 a.k before (rw e at start.requires.5) (rw e at start.requires.6) fit
    (rw e at start.requires.4) in
    let long = gained-length a.k (lent a.o gs) a.n (search rules) in
    in_row a.o gs a.n 0 a.k a.n s.new.gs (sym (ap length is ∙ long))
    (s.ensures
    ∙ rw (rw e at start.requires.7) (row_is (gained a.k before) (lent a.o gs) a.n long start.requires.2)
    ∙ ap (λ (l : List ℕ). settled l (lent a.o gs)) (sym is))
