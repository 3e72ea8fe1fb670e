-- `group_apart::step_apart_at` meets its contract: the part that is lent is the object's row. Assumes nothing.
use mathlib.Core.Path.{◌≡◌, sym}
use borrow.Author.Rules.{rules}
use Rattle.group_step.specs.GroupRows.{row}
use Rattle.group_step.proofs.RowAfterStep.{lent, lent_is, in_row}
use Rattle.group_apart.proofs.step_apart_at.Goals as goal

pub step_apart-requires : goal.step_apart-requires
step_apart-requires c =
    let s = c in
    let a = s.args in
    let e : row a.o a.groups.now ≡ lent a.o a.groups.now = sym (lent_is a.o a.groups.now) in (
      search rules,
      s.requires.2,
      s.requires.3,
      rw e at s.requires.4,
      rw e at s.requires.5,
      rw e at s.requires.6,
    )

pub returns : goal.returns
returns c =
    let a = c.args in
    let s = c.step_apart in
    in_row a.o a.groups.now a.n a.m a.k s.result s.new.gs s.ensures.0 s.ensures.1
