-- `group_engine::is_stuck` meets its contract: what is left to go through are members. Assumes nothing.
use mathlib.Core.Path.{◌≡◌, refl}
use mathlib.Core.Bool.{true}
use Prim.Native.Nat.{ℕ, ◌-◌, ◌^◌, ◌≤◌, ◌<◌}
use native.Mathlib.Omega.{arith}
use lib.Bits.{and_le_l}
use lib.Count.{count_trailing_zeros, trailing_le}
use borrow.Author.Tests.{eq-eqb}
use Rattle.math_lists.proofs.Booleans.{clash}
use Rattle.math_maximal.specs.Groups.{bit}
use Rattle.math_maximal.proofs.FirstMember.{first_member}
use Rattle.group_engine.proofs.WithoutFirst.{fewer, still-member}
use Rattle.group_engine.proofs.is_stuck.Goals as goal

-- the first of them is a member
member :
    (lone left : ℕ) → 0 < left → left ≤ lone → lone < 2 ^ 64 → ((i : ℕ) → bit left i ≡ true → bit lone i ≡ true) →
    bit lone (count_trailing_zeros 64 left) ≡ true
member lone left some l fits kept = kept (count_trailing_zeros 64 left)
    (first_member 64 left some (omega arith))

pub loop-left-init : goal.loop-left-init
loop-left-init c = (omega arith, λ i b. b)

pub overflow_cast-i : goal.overflow_cast-i
overflow_cast-i c = record { fits = omega (arith, trailing_le 64 c.loop-left.left) }

pub offset_bounds-conflicts-i : goal.offset_bounds-conflicts-i
offset_bounds-conflicts-i c = record { fits = omega (arith, trailing_le 64 c.loop-left.left) }

pub bounds-conflicts-i : goal.bounds-conflicts-i
bounds-conflicts-i c =
    let l = c.loop-left in
    let some = c.loop-left-test.true in
    c.requires _
    (member c.args.lone l.left (omega arith) l.invariant.0 (omega (arith, c.ranges.lone)) l.invariant.1)

pub returns-then-may-conflicts-eq0 : goal.returns-then-may-conflicts-eq0
returns-then-may-conflicts-eq0 c =
    let l = c.loop-left in
    let some = c.loop-left-test.true in
    λ e. (
      _,
      member c.args.lone l.left (omega arith) l.invariant.0 (omega (arith, c.ranges.lone)) l.invariant.1,
      eq-eqb _ 0 c.if-may-conflicts-eq0.true,
    )

pub overflow_sub-left : goal.overflow_sub-left
overflow_sub-left c = let some = c.loop-left-test.true in omega arith

pub loop-left-smaller : goal.loop-left-smaller
loop-left-smaller c =
    let some = c.loop-left-test.true in
    fewer c.loop-left.left (omega arith)

pub loop-left-preserved : goal.loop-left-preserved
loop-left-preserved c =
    let l = c.loop-left in (
      omega (arith, l.invariant.0, and_le_l l.left (l.left - 1)),
      λ i b. l.invariant.1 i (still-member l.left (l.left - 1) i b),
    )

pub returns : goal.returns
returns c = λ e. clash e refl
