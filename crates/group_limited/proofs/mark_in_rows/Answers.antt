-- `group_limited::mark_in_rows` meets its contract: what is gone through is marked, and the rest is as it was. Assumes
-- nothing.
use mathlib.Core.Path.{refl}
use native.Mathlib.Omega.{arith}
use lib.ListN.{length-set}
use Rattle.math_maximal.proofs.OneMemberLess.{first-left, less-left}
use Rattle.group_limited.proofs.MarkedRows.{none-marked-yet, marked-one-more, all-marked}
use Rattle.group_limited.proofs.mark_in_rows.Goals as goal

pub loop-left-init : goal.loop-left-init
loop-left-init c =
    let a = c.args in
    (omega arith, refl, none-marked-yet a.n a.row a.plain.now)

pub overflow_cast-j : goal.overflow_cast-j
overflow_cast-j c =
    let l = c.loop-left in
    let s = c in
    let (b, few) = first-left c.loop-left-test.true l.invariant.0 s.requires.2 s.ranges.row.fits in
    record { fits = omega arith }

pub offset_bounds-plain-j : goal.offset_bounds-plain-j
offset_bounds-plain-j c =
    let l = c.loop-left in
    let s = c in
    let (b, few) = first-left c.loop-left-test.true l.invariant.0 s.requires.2 s.ranges.row.fits in
    record { fits = omega arith }

pub bounds-plain-j : goal.bounds-plain-j
bounds-plain-j c =
    let l = c.loop-left in
    let s = c in
    let (b, few) = first-left c.loop-left-test.true l.invariant.0 s.requires.2 s.ranges.row.fits in
    omega (arith, l.invariant.1)

pub bounds-plain-j-in-loop-left : goal.bounds-plain-j-in-loop-left
bounds-plain-j-in-loop-left c =
    let l = c.loop-left in
    let s = c in
    let (b, few) = first-left c.loop-left-test.true l.invariant.0 s.requires.2 s.ranges.row.fits in
    omega (arith, l.invariant.1)

pub but_first-left-requires : goal.but_first-left-requires
but_first-left-requires c = omega (arith, c.loop-left-test.true)

pub loop-left-smaller : goal.loop-left-smaller
loop-left-smaller c =
    let l = c.loop-left in
    let s = c in
    let some = c.loop-left-test.true in
    let (b, few) = first-left some l.invariant.0 s.requires.2 s.ranges.row.fits in
    rw c.but_first-left.ensures (less-left l.left _ some b)

pub loop-left-preserved : goal.loop-left-preserved
loop-left-preserved c =
    let l = c.loop-left in
    let s = c in
    let some = c.loop-left-test.true in
    let (b, few) = first-left some l.invariant.0 s.requires.2 s.ranges.row.fits in
    let own = c.only-own in
    rw c.but_first-left.ensures (
      omega (arith, l.invariant.0),
      simp length-set l.invariant.1,
      marked-one-more l.left s.args.n s.args.row _ _ s.args.plain.now l.plain
          (omega (arith, l.invariant.1)) l.invariant.2 b (rw own.ensures),
    )

pub returns : goal.returns
returns c i m = let l = c.loop-left in
    let a = c.args in
    all-marked a.n a.row l.left a.plain.now l.plain c.loop-left-test.false l.invariant.2 i
