-- `group_named::swapped` meets its contract. Assumes nothing.
use mathlib.Core.Path.{sym}
use Rattle.group_named.proofs.SwappedPlaces.{swap-first, swap-second, swap-other}
use Rattle.group_named.proofs.swapped.Goals as goal

pub returns-then-i-a : goal.returns-then-i-a
returns-then-i-a c =
    let a = c.args in
    sym (swap-first a.a a.b a.i c.if-i-a.true)

pub returns-then-i-b : goal.returns-then-i-b
returns-then-i-b c =
    let a = c.args in
    sym (swap-second a.a a.b a.i c.if-i-a.false c.if-i-b.true)

pub returns : goal.returns
returns c =
    let a = c.args in
    sym (swap-other a.a a.b a.i c.if-i-a.false c.if-i-b.false)
