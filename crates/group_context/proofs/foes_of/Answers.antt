-- `group_context::foes_of` meets its contract: of the members of m that are gone through, the rows are told. Assumes
-- nothing.
use mathlib.Core.Path.{sym, ap, ap₂, ◌∙◌}
use mathlib.Core.Bool.{Bool, ◌||◌}
use Prim.Native.Nat.{ℕ}
use native.Mathlib.Omega.{arith}
use lib.Count.{count_trailing_zeros}
use lib.ListN.{get_or}
use Rattle.math_maximal.specs.Groups.{bit}
use Rattle.math_maximal.proofs.OneMemberLess.{first-left, less-left, still-left}
use Rattle.math_maximal.proofs.Bits.{bit-none, bit-or}
use Rattle.group_context.proofs.MembersGone.{none-gone, all-gone, some_more}
use Rattle.group_context.proofs.foes_of.Goals as goal

pub loop-left-init : goal.loop-left-init
loop-left-init c =
    let a = c.args in
    let ps = a.plain.now in (
      omega arith,
      λ j h. h,
      λ y. bit-none y ∙ sym (none-gone a.m (λ j. bit (get_or ps j 0) y)),
    )

pub overflow_cast-j : goal.overflow_cast-j
overflow_cast-j c =
    let l = c.loop-left in
    let s = c in
    let (_, few) = first-left {n = 64} c.loop-left-test.true l.invariant.0 s.ranges.m.fits s.ranges.m.fits in
    record { fits = omega arith }

pub but_first-left-requires : goal.but_first-left-requires
but_first-left-requires c = omega (arith, c.loop-left-test.true)

pub loop-left-smaller : goal.loop-left-smaller
loop-left-smaller c =
    let l = c.loop-left in
    let s = c in
    let some = c.loop-left-test.true in
    let (here, _) = first-left {n = 64} some l.invariant.0 s.ranges.m.fits s.ranges.m.fits in
    rw c.but_first-left.ensures (less-left l.left _ some here)

pub loop-left-preserved : goal.loop-left-preserved
loop-left-preserved c =
    let l = c.loop-left in
    let s = c in
    let a = s.args in
    let ps = a.plain.now in
    let some = c.loop-left-test.true in
    let (here, few) = first-left {n = 64} some l.invariant.0 s.ranges.m.fits s.ranges.m.fits in
    let i = count_trailing_zeros 64 l.left in
    let its = l.invariant.1 i here in
    let row = c.row_at-row in
    rw c.but_first-left.ensures (
      omega (arith, l.invariant.0),
      λ j h. l.invariant.1 j (still-left l.left i j h),
      λ y. bit-or l.foes row.result y
          ∙ ap₂ (λ (p q : Bool). p || q) (l.invariant.2 y) (ap (λ (x : ℕ). bit x y) row.ensures)
          ∙ some_more a.m l.left i few here its (λ j. bit (get_or ps j 0) y),
    )

pub returns : goal.returns
returns c =
    let l = c.loop-left in
    let a = c.args in
    let ps = a.plain.now in
    λ y. l.invariant.2 y ∙ all-gone a.m l.left (λ j. bit (get_or ps j 0) y) c.loop-left-test.false
