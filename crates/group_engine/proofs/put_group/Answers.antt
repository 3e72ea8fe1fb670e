-- `group_engine::put_group` meets its contract: where all are decided, what is in is a group if none is left out
-- without a conflict. Assumes nothing.
use mathlib.Core.Path.{ap, ◌∙◌}
use native.Mathlib.Omega.{arith}
use lib.ListN.{length, length-set}
use Rattle.group_engine.proofs.NextDecided.{none_here, put_last, one-too-many}
use Rattle.group_engine.proofs.put_group.Goals as goal
use Rattle.group_engine.proofs.put_group.Goals.{then-found-lt-GROUPS, else-found-lt-GROUPS}

pub returns-then-lone-ne0 : goal.returns-then-lone-ne0
returns-then-lone-ne0 c =
    let p = c.requires in
    none_here p.2 p.3 p.4 (omega (arith, c.ranges.lone)) (omega (arith, c.if-lone-ne0.true))

pub shape_of-out : goal.shape_of-out
shape_of-out c =
    let a = c.args in
    elim c.if-found-lt-GROUPS.branch [
      | then-found-lt-GROUPS w ↦ ap length w.out-is ∙ length-set a.out.now a.found a.taken
      | else-found-lt-GROUPS w ↦ ap length w.out-is
    ]

pub returns : goal.returns
returns c =
    let p = c.requires in
    let none = c.if-lone-ne0.false in
    elim c.if-found-lt-GROUPS.branch [
      | then-found-lt-GROUPS w ↦ put_last p.2 p.3 p.4 none w.out-is p.0 w.if-found-lt-GROUPS.true
      | else-found-lt-GROUPS w ↦ one-too-many p.2 p.3 p.4 none w.out-is p.1 w.if-found-lt-GROUPS.false
    ]
