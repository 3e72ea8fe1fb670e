-- `group_sight::sum_of_name` meets its contract: after i names, the sum is that of the places of those that
-- are x. Assumes nothing.
use Rattle.std.proofs.Common.{◌≡◌, sym, ◌∙◌, refl, ◌<◌, take, get_or, arith}
use Rattle.std.proofs.lemmas.List.{length-take-le, get_or-take}
use Rattle.math_lists.specs.NumbersBelow.{sum}
use Rattle.group_sight.specs.SightForms.{sum_of_name}
use Rattle.group_sight.proofs.NamesOfSets.{sum-found, sum-skipped}
use Rattle.group_sight.proofs.sum_of_name.Goals as goal
use Rattle.group_sight.proofs.sum_of_name.Goals.{then-name-x, else-name-x}

pub loop-i-init : goal.loop-i-init
unfolding sum_of_name sum
loop-i-init c = (refl, omega arith)

pub loop-i-preserved : goal.loop-i-preserved
loop-i-preserved c =
    let a = c.args in
    let l = c.loop-i in
    let ns = a.names.now in
    let more : l.i < a.k = omega (arith, length-take-le a.k ns c.requires.1) in
    let here : get_or (take a.k ns) l.i 0 ≡ get_or ns l.i 0 = get_or-take a.k ns l.i 0 more in
    elim c.if-name-x.branch [
      | then-name-x v ↦ (
        rw (v.t-is, l.invariant.0) (sum-found ns a.x l.i (sym here ∙ v.if-name-x.true)),
        omega (arith, v.t-is, l.invariant.1, more, c.requires.0),
      )
      | else-name-x v ↦ (
        rw (v.t-is, l.invariant.0) (sum-skipped ns a.x l.i (λ e. v.if-name-x.false (here ∙ e))),
        omega (arith, v.t-is, l.invariant.1),
      )
    ]

pub returns : goal.returns
returns c =
    let a = c.args in
    let done : c.loop-i.i ≡ a.k = omega (arith, length-take-le a.k a.names.now c.requires.1) in
    rw (← done) c.loop-i.invariant.0
