-- `group_named::chain::gather_sets` meets its contract: after k places, those that the chain went through are put down.
-- Assumes nothing.
use mathlib.Core.Path.{refl, sym, subst}
use mathlib.Core.Logic.{⊎_elim}
use Prim.Native.Nat.{ℕ}
use native.Mathlib.Omega.{arith}
use lib.ListN.{length-set}
use Rattle.group_step.specs.GroupRows.{most_sets}
use Rattle.group_named.specs.ChainForms.{Follows}
use Rattle.group_named.proofs.SetsGathered.{goes_on, stops}
use Rattle.group_named.proofs.SetsGathered.{followed-more, followed-end, followed-full}
use borrow.Author.Rules.{rules}
use Rattle.group_named.proofs.chain.gather_sets.Goals as goal

pub loop-at-init : goal.loop-at-init
loop-at-init c =
    let ch = c.args.chain.now in (
      omega arith,
      refl,
      λ l r. (refl, subst (λ (z : ℕ). Follows ch z l) (sym c.byte_at-at.ensures) r),
      search rules,
    )

pub overflow_cast-out : goal.overflow_cast-out
overflow_cast-out c = omega (arith, c.loop-at.invariant.3)

pub bounds-out-k : goal.bounds-out-k
bounds-out-k c =
    let l = c.loop-at in
    let (_, room) = goes_on l.at l.k most_sets c.loop-at-test.true in
    omega (arith, room, l.invariant.1, c.requires)

pub overflow_add-k : goal.overflow_add-k
overflow_add-k c =
    let l = c.loop-at in
    let (_, room) = goes_on l.at l.k most_sets c.loop-at-test.true in
    omega (arith, room)

pub overflow_cast-at : goal.overflow_cast-at
overflow_cast-at c = omega (arith, c.loop-at.invariant.3)

pub loop-at-smaller : goal.loop-at-smaller
loop-at-smaller c =
    let l = c.loop-at in
    let (_, room) = goes_on l.at l.k most_sets c.loop-at-test.true in
    omega (arith, room)

pub loop-at-preserved : goal.loop-at-preserved
loop-at-preserved c =
    let l = c.loop-at in
    let s = c in
    let ch = s.args.chain.now in
    let (some, room) = goes_on l.at l.k most_sets c.loop-at-test.true in (
      omega (arith, room),
      simp length-set l.invariant.1,
      rw c.byte_at-at-in-loop-at.ensures
          (followed-more ch s.args.p l.k l.at l.out (omega (arith, room, l.invariant.1, s.requires)) some
          l.invariant.2),
      search rules,
    )

pub returns : goal.returns
returns c =
    let l = c.loop-at in
    let a = c.args in
    let ch = a.chain.now in (
      l.invariant.0,
      λ m r few. ⊎_elim (λ none. followed-end ch a.p l.k l.at l.out m none l.invariant.2 r)
          (λ full. followed-full ch a.p l.k l.at l.out m (omega arith) l.invariant.2 r)
          (stops l.at l.k most_sets c.loop-at-test.false),
    )
