-- `edit_walk::space_places` meets its contract: the sites below s have their starts, and `at` is the next one. Assumes
-- nothing.
use mathlib.Core.Path.{◌≡◌}
use native.Mathlib.Numerals.{add-one}
use native.Mathlib.Omega.{arith}
use lib.ListN.{length-set}
use Rattle.math_lists.specs.NumbersBelow.{sum}
use Rattle.math_lists.proofs.NumbersBelow.{sum_past}
use Rattle.edit_record.specs.Layout.{most_sites}
use Rattle.edit_walk.proofs.RoomInIndex.{started-more, starts-spaced}
use Rattle.edit_walk.proofs.space_places.Invariants.{room_of}
use Rattle.edit_walk.proofs.space_places.Goals as goal

pub loop-s-init : goal.loop-s-init
unfolding sum
loop-s-init c = (c.requires.1, omega arith, λ s l. absurd (omega arith))

pub overflow_add-at : goal.overflow_add-at
overflow_add-at c =
    let l = c.loop-s in
    let s = c in
    omega (arith, l.invariant.1, s.requires.0, sum_past l.s most_sites (room_of s.args.counts) c.loop-s-test.true)

pub loop-s-preserved : goal.loop-s-preserved
unfolding sum
loop-s-preserved c =
    let l = c.loop-s in
    let room = room_of c.args.counts in (
      simp length-set l.invariant.0,
      rw add-one (omega (arith, l.invariant.1)),
      rw add-one (started-more room l.places l.s l.at (omega (arith, l.invariant.0)) l.invariant.1 l.invariant.2),
    )

pub returns : goal.returns
returns c =
    let s = c in
    let l = c.loop-s in
    let k : l.s ≡ most_sites = omega arith in
    starts-spaced (room_of s.args.counts) l.places s.requires.0 l.invariant.0 (rw k at l.invariant.2)
