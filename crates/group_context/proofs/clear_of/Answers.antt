-- `group_context::clear_of` meets its contract: of the members of v that are gone through, those are kept whose number
-- has no member of m. Assumes nothing.
use mathlib.Core.Path.{sym, ap, ◌∙◌}
use mathlib.Core.Bool.{Bool}
use Prim.Native.Nat.{ℕ, ◌^◌}
use native.Mathlib.Omega.{arith}
use borrow.Author.Tests.{eq-eqb, ne_eqb}
use lib.Bits.{or_add_and}
use lib.Count.{count_trailing_zeros}
use lib.ListN.{get_or}
use Rattle.math_maximal.specs.Step.{compatible}
use Rattle.math_maximal.proofs.OneMemberLess.{first-left, less-left, still-left}
use Rattle.group_context.proofs.ButFirst.{own_first}
use Rattle.group_context.proofs.MembersGone.{kept-first, kept-last, one_kept, one-passed}
use Rattle.group_context.proofs.clear_of.Goals as goal

pub loop-left-init : goal.loop-left-init
loop-left-init c =
    let a = c.args in
    (omega arith, λ j h. h, kept-first a.v (λ j. compatible a.m (get_or a.rows.now j 0)))

pub overflow_cast-j : goal.overflow_cast-j
overflow_cast-j c =
    let l = c.loop-left in
    let fits = c.ranges.v.fits in
    let (_, few) = first-left {n = 64} c.loop-left-test.true (omega (arith, l.invariant.0)) fits fits in
    record { fits = omega arith }

pub but_first-rest-requires : goal.but_first-rest-requires
but_first-rest-requires c = omega (arith, c.loop-left-test.true)

pub overflow_sub-kept : goal.overflow_sub-kept
overflow_sub-kept c = omega (arith, c.but_first-rest.ensures)

pub loop-left-smaller-then-row-m-eq0 : goal.loop-left-smaller-then-row-m-eq0
loop-left-smaller-then-row-m-eq0 c =
    let l = c.loop-left in
    let fits = c.ranges.v.fits in
    let some = c.loop-left-test.true in
    let (here, _) = first-left {n = 64} some (omega (arith, l.invariant.0)) fits fits in
    rw c.but_first-rest.ensures (less-left l.left _ some here)

pub loop-left-preserved-then-row-m-eq0 : goal.loop-left-preserved-then-row-m-eq0
loop-left-preserved-then-row-m-eq0 c =
    let l = c.loop-left in
    let s = c in
    let a = s.args in
    let fits = s.ranges.v.fits in
    let some = c.loop-left-test.true in
    let row = c.row_at-row in
    let h : ℕ → Bool = λ j. compatible a.m (get_or a.rows.now j 0) in
    let i = count_trailing_zeros 64 l.left in
    let (here, _) = first-left {n = 64} some (omega (arith, l.invariant.0)) fits fits in
    let own = own_first l.left some (omega (arith, l.invariant.0, fits)) in
    rw (c.but_first-rest.ensures, own) (
      omega (arith, l.invariant.0, own, or_add_and l.kept (2 ^ i)),
      λ j b. l.invariant.1 j (still-left l.left i j b),
      one_kept l.kept a.v l.left i h l.invariant.2 (l.invariant.1 i here) here
          (ap (compatible a.m) (sym row.ensures) ∙ eq-eqb _ 0 c.if-row-m-eq0.true),
    )

pub loop-left-smaller : goal.loop-left-smaller
loop-left-smaller c =
    let l = c.loop-left in
    let fits = c.ranges.v.fits in
    let some = c.loop-left-test.true in
    let (here, _) = first-left {n = 64} some (omega (arith, l.invariant.0)) fits fits in
    rw c.but_first-rest.ensures (less-left l.left _ some here)

pub loop-left-preserved : goal.loop-left-preserved
loop-left-preserved c =
    let l = c.loop-left in
    let a = c.args in
    let row = c.row_at-row in
    let h : ℕ → Bool = λ j. compatible a.m (get_or a.rows.now j 0) in
    let i = count_trailing_zeros 64 l.left in
    rw c.but_first-rest.ensures (
      omega (arith, l.invariant.0),
      λ j b. l.invariant.1 j (still-left l.left i j b),
      one-passed l.kept a.v l.left i h l.invariant.2
          (ap (compatible a.m) (sym row.ensures) ∙ ne_eqb _ 0 c.if-row-m-eq0.false),
    )

pub returns : goal.returns
returns c =
    let l = c.loop-left in
    let a = c.args in
    let h : ℕ → Bool = λ j. compatible a.m (get_or a.rows.now j 0) in
    (omega (arith, l.invariant.0), λ j. l.invariant.2 j ∙ kept-last a.v l.left h j c.loop-left-test.false)
