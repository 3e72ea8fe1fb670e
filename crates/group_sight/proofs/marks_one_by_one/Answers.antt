-- `group_sight::marks_one_by_one` meets its contract: after i names, those of them are marked. Assumes nothing.
use Rattle.std.proofs.Common.{◌≡◌, sym, refl, ◌<◌, get_or, add-one, arith}
use Rattle.std.proofs.lemmas.List.{length-take-le, get_or-take}
use lib.Dec.{eqb}
use Rattle.math_lists.specs.NumbersBelow.{sum, mask}
use Rattle.math_lists.proofs.NumbersBelow.{mask-more, mask_below}
use Rattle.group_sight.proofs.marks_one_by_one.Goals as goal

pub loop-i-init : goal.loop-i-init
unfolding mask sum
loop-i-init c = refl

pub marked_if-m-requires : goal.marked_if-m-requires
marked_if-m-requires c =
    let a = c.args in
    let l = c.loop-i in (
      rw l.invariant (mask_below l.i (λ j. eqb (get_or a.names.now j 0) a.x)),
      λ y. omega (arith, c.requires.0, length-take-le a.k a.names.now c.requires.1),
    )

pub loop-i-preserved : goal.loop-i-preserved
loop-i-preserved c =
    let a = c.args in
    let l = c.loop-i in
    let ns = a.names.now in
    let more : l.i < a.k = omega (arith, length-take-le a.k ns c.requires.1) in
    rw (c.marked_if-m.ensures, get_or-take a.k ns l.i 0 more, l.invariant, add-one l.i)
    (sym (mask-more l.i (λ j. eqb (get_or ns j 0) a.x)))

pub returns : goal.returns
returns c =
    let a = c.args in
    let done : c.loop-i.i ≡ a.k = omega (arith, length-take-le a.k a.names.now c.requires.1) in
    rw (← done) c.loop-i.invariant
