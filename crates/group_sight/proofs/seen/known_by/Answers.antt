-- `group_sight::seen::known_by` meets its contract. Assumes nothing.
use native.Mathlib.Omega.{arith}
use Rattle.group_sight.proofs.SeenThrough.{nothing-before, all-before}
use Rattle.group_sight.proofs.seen.known_by.Goals as goal

pub returns-then-i-k : goal.returns-then-i-k
returns-then-i-k c ms long low tell = nothing-before ms c.args.i

pub bounds-sees-i : goal.bounds-sees-i
bounds-sees-i c = omega (arith, c.requires.0)

pub returns : goal.returns
returns c ms long low tell =
    let a = c.args in
    all-before ms a.i a.sees.now tell (omega (arith, low, long)) (omega (arith, long, c.if-i-k.false))
