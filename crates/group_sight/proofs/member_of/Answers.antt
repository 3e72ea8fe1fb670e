-- `group_sight::member_of` meets its contract. Assumes nothing.
use mathlib.Core.Path.{◌∙◌}
use native.Mathlib.Omega.{arith}
use Rattle.group_sight.proofs.NamesOfSets.{member-there, member-past}
use Rattle.group_sight.proofs.member_of.Goals as goal

pub returns-then-count-i : goal.returns-then-count-i
returns-then-count-i c =
    let s = c in
    member-past s.args.rec.now s.args.i s.requires.0 (omega (arith, s.requires.2, c.if-count-i.true))

pub returns : goal.returns
returns c =
    let s = c in
    c.four_at.ensures
    ∙ member-there s.args.rec.now s.args.i s.requires.0 s.requires.1
    (omega (arith, s.requires.2, c.if-count-i.false))
