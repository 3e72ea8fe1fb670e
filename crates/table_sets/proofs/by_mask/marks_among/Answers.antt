-- `table_sets::by_mask::marks_among` meets its contract: of the Sets gone through, those are kept that are unlike it.
-- Assumes nothing.
use mathlib.Core.Path.{sym, ◌∙◌}
use mathlib.Core.Bool.{Bool}
use Prim.Native.Nat.{ℕ, ◌^◌}
use native.Mathlib.Omega.{arith}
use lib.Bits.{or_add_and}
use lib.Count.{count_trailing_zeros}
use Rattle.math_maximal.proofs.OneMemberLess.{first-left, less-left, still-left}
use Rattle.group_context.proofs.ButFirst.{own_first}
use Rattle.group_context.proofs.MembersGone.{kept-first, kept-last, one_kept, one-passed}
use Rattle.table_sets.specs.KeyForms.{set_at, unlike}
use Rattle.table_sets.proofs.MarksByMask.{among-all}
use Rattle.table_sets.proofs.by_mask.marks_among.Goals as goal

pub loop-left-init : goal.loop-left-init
loop-left-init c =
    let a = c.args in (
      omega arith,
      λ j h. h,
      kept-first a.sets (λ j. unlike (set_at a.recs.now a.places.now j)
          (set_at a.recs.now a.places.now a.i)),
    )

pub overflow_cast-j : goal.overflow_cast-j
overflow_cast-j c =
    let l = c.loop-left in
    let fits = c.ranges.sets.fits in
    let (_, few) = first-left {n = 64} c.loop-left-test.true (omega (arith, l.invariant.0)) fits fits in
    record { fits = omega arith }

pub but_first-rest-requires : goal.but_first-rest-requires
but_first-rest-requires c = omega (arith, c.loop-left-test.true)

pub offset_bounds-tolds-j : goal.offset_bounds-tolds-j
offset_bounds-tolds-j c =
    let l = c.loop-left in
    let fits = c.ranges.sets.fits in
    let (_, few) = first-left {n = 64} c.loop-left-test.true (omega (arith, l.invariant.0)) fits fits in
    record { fits = omega (arith, few) }

pub bounds-tolds-j : goal.bounds-tolds-j
bounds-tolds-j c =
    let l = c.loop-left in
    let s = c in
    let (_, few) = first-left {n = s.args.i} c.loop-left-test.true
    (omega (arith, l.invariant.0)) s.requires.3.low s.ranges.sets.fits in
    omega (arith, few, s.requires.1)

pub overflow_sub-marks : goal.overflow_sub-marks
overflow_sub-marks c = omega (arith, c.but_first-rest.ensures)

pub loop-left-smaller-then-is_unlike : goal.loop-left-smaller-then-is_unlike
loop-left-smaller-then-is_unlike c =
    let l = c.loop-left in
    let fits = c.ranges.sets.fits in
    let some = c.loop-left-test.true in
    let (here, _) = first-left {n = 64} some (omega (arith, l.invariant.0)) fits fits in
    rw c.but_first-rest.ensures (less-left l.left _ some here)

pub loop-left-preserved-then-is_unlike : goal.loop-left-preserved-then-is_unlike
loop-left-preserved-then-is_unlike c =
    let l = c.loop-left in
    let s = c in
    let a = s.args in
    let p = s.requires in
    let rs = a.recs.now in
    let ps = a.places.now in
    let h : ℕ → Bool = λ j. unlike (set_at rs ps j) (set_at rs ps a.i) in
    let i = count_trailing_zeros 64 l.left in
    let some = c.loop-left-test.true in
    let (here, few) = first-left {n = a.i} some (omega (arith, l.invariant.0)) p.3.low s.ranges.sets.fits in
    let asked = c.is_unlike.ensures (set_at rs ps i) (set_at rs ps a.i) (p.2 i few) p.4 p.5 in
    let own = own_first l.left some (omega (arith, l.invariant.0, s.ranges.sets.fits)) in
    rw (c.but_first-rest.ensures, own) (
      omega (arith, l.invariant.0, own, or_add_and l.marks (2 ^ i)),
      λ j b. l.invariant.1 j (still-left l.left i j b),
      one_kept l.marks a.sets l.left i h l.invariant.2 (l.invariant.1 i here) here (sym asked ∙ c.if-is_unlike.true),
    )

pub loop-left-smaller : goal.loop-left-smaller
loop-left-smaller c =
    let l = c.loop-left in
    let fits = c.ranges.sets.fits in
    let some = c.loop-left-test.true in
    let (here, _) = first-left {n = 64} some (omega (arith, l.invariant.0)) fits fits in
    rw c.but_first-rest.ensures (less-left l.left _ some here)

pub loop-left-preserved : goal.loop-left-preserved
loop-left-preserved c =
    let l = c.loop-left in
    let s = c in
    let a = s.args in
    let p = s.requires in
    let rs = a.recs.now in
    let ps = a.places.now in
    let h : ℕ → Bool = λ j. unlike (set_at rs ps j) (set_at rs ps a.i) in
    let i = count_trailing_zeros 64 l.left in
    let some = c.loop-left-test.true in
    let (here, few) = first-left {n = a.i} some (omega (arith, l.invariant.0)) p.3.low s.ranges.sets.fits in
    let asked = c.is_unlike.ensures (set_at rs ps i) (set_at rs ps a.i) (p.2 i few) p.4 p.5 in
    rw c.but_first-rest.ensures (
      omega (arith, l.invariant.0),
      λ j b. l.invariant.1 j (still-left l.left i j b),
      one-passed l.marks a.sets l.left i h l.invariant.2 (sym asked ∙ c.if-is_unlike.false),
    )

pub returns : goal.returns
returns c =
    let l = c.loop-left in
    let s = c in
    let a = s.args in
    let rs = a.recs.now in
    let ps = a.places.now in
    among-all rs ps a.i a.sets l.marks s.requires.7 s.requires.3 (omega (arith, l.invariant.0))
    (λ j. l.invariant.2 j
    ∙ kept-last a.sets l.left (λ j. unlike (set_at rs ps j) (set_at rs ps a.i)) j c.loop-left-test.false)
