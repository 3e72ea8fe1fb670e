-- `group_sight::seen::foes_among` meets its contract: of the Sets gone through, the foes are kept. Assumes nothing.
use mathlib.Core.Path.{sym, ◌∙◌}
use mathlib.Core.Bool.{Bool}
use Prim.Native.Nat.{ℕ, ◌^◌}
use native.Mathlib.Omega.{arith}
use lib.Bits.{or_add_and}
use lib.Count.{count_trailing_zeros}
use lib.ListN.{length, get_or}
use Rattle.math_maximal.proofs.OneMemberLess.{first-left, less-left, still-left}
use Rattle.edit_history.specs.EditsHeld.{record_at}
use Rattle.group_context.proofs.ButFirst.{own_first}
use Rattle.group_context.proofs.MembersGone.{kept-first, kept-last, one_kept, one-passed}
use Rattle.group_sight.specs.SightForms.{is_foe}
use Rattle.group_sight.proofs.seen.foes_among.Goals as goal

pub loop-left-init : goal.loop-left-init
loop-left-init c =
    let a = c.args in (
      omega arith,
      λ j h. h,
      kept-first a.m
          (λ j. is_foe (get_or a.names.now j 0) a.s (record_at a.recs.now (get_or a.places.now j 0))),
    )

pub overflow_cast-j : goal.overflow_cast-j
overflow_cast-j c =
    let l = c.loop-left in
    let fits = c.ranges.m.fits in
    let (_, few) = first-left {n = 64} c.loop-left-test.true (omega (arith, l.invariant.0)) fits fits in
    record { fits = omega arith }

pub but_first-rest-requires : goal.but_first-rest-requires
but_first-rest-requires c = omega (arith, c.loop-left-test.true)

pub offset_bounds-places-j : goal.offset_bounds-places-j
offset_bounds-places-j c =
    let l = c.loop-left in
    let fits = c.ranges.m.fits in
    let (_, few) = first-left {n = 64} c.loop-left-test.true (omega (arith, l.invariant.0)) fits fits in
    record { fits = omega (arith, few) }

pub bounds-places-j : goal.bounds-places-j
bounds-places-j c =
    let l = c.loop-left in
    let s = c in
    let (_, few) = first-left {n = length s.args.places.now} c.loop-left-test.true
    (omega (arith, l.invariant.0)) s.requires.0 s.ranges.m.fits in
    omega (arith, few)

pub offset_bounds-names-j : goal.offset_bounds-names-j
offset_bounds-names-j c =
    let l = c.loop-left in
    let fits = c.ranges.m.fits in
    let (_, few) = first-left {n = 64} c.loop-left-test.true (omega (arith, l.invariant.0)) fits fits in
    record { fits = omega (arith, few) }

pub bounds-names-j : goal.bounds-names-j
bounds-names-j c =
    let l = c.loop-left in
    let s = c in
    let (_, few) = first-left {n = length s.args.names.now} c.loop-left-test.true
    (omega (arith, l.invariant.0)) s.requires.1 s.ranges.m.fits in
    omega (arith, few)

pub overflow_sub-plain : goal.overflow_sub-plain
overflow_sub-plain c = omega (arith, c.but_first-rest.ensures)

pub loop-left-smaller-then-is_foe_at : goal.loop-left-smaller-then-is_foe_at
loop-left-smaller-then-is_foe_at c =
    let l = c.loop-left in
    let fits = c.ranges.m.fits in
    let some = c.loop-left-test.true in
    let (here, _) = first-left {n = 64} some (omega (arith, l.invariant.0)) fits fits in
    rw c.but_first-rest.ensures (less-left l.left _ some here)

pub loop-left-preserved-then-is_foe_at : goal.loop-left-preserved-then-is_foe_at
loop-left-preserved-then-is_foe_at c =
    let l = c.loop-left in
    let s = c in
    let a = s.args in
    let fits = s.ranges.m.fits in
    let some = c.loop-left-test.true in
    let h : ℕ → Bool
    = λ j. is_foe (get_or a.names.now j 0) a.s (record_at a.recs.now (get_or a.places.now j 0)) in
    let i = count_trailing_zeros 64 l.left in
    let (here, _) = first-left {n = 64} some (omega (arith, l.invariant.0)) fits fits in
    let own = own_first l.left some (omega (arith, l.invariant.0, fits)) in
    rw (c.but_first-rest.ensures, own) (
      omega (arith, l.invariant.0, own, or_add_and l.plain (2 ^ i)),
      λ j b. l.invariant.1 j (still-left l.left i j b),
      one_kept l.plain a.m l.left i h l.invariant.2 (l.invariant.1 i here) here
          (sym c.is_foe_at.ensures ∙ c.if-is_foe_at.true),
    )

pub loop-left-smaller : goal.loop-left-smaller
loop-left-smaller c =
    let l = c.loop-left in
    let fits = c.ranges.m.fits in
    let some = c.loop-left-test.true in
    let (here, _) = first-left {n = 64} some (omega (arith, l.invariant.0)) fits fits in
    rw c.but_first-rest.ensures (less-left l.left _ some here)

pub loop-left-preserved : goal.loop-left-preserved
loop-left-preserved c =
    let l = c.loop-left in
    let a = c.args in
    let h : ℕ → Bool
    = λ j. is_foe (get_or a.names.now j 0) a.s (record_at a.recs.now (get_or a.places.now j 0)) in
    let i = count_trailing_zeros 64 l.left in
    rw c.but_first-rest.ensures (
      omega (arith, l.invariant.0),
      λ j b. l.invariant.1 j (still-left l.left i j b),
      one-passed l.plain a.m l.left i h l.invariant.2 (sym c.is_foe_at.ensures ∙ c.if-is_foe_at.false),
    )

pub returns : goal.returns
returns c =
    let l = c.loop-left in
    let a = c.args in (
      omega (arith, l.invariant.0),
      λ j. l.invariant.2 j
          ∙ kept-last a.m l.left
          (λ j. is_foe (get_or a.names.now j 0) a.s (record_at a.recs.now (get_or a.places.now j 0))) j
          c.loop-left-test.false,
    )
