-- `group_apart::covered::put_apart` meets its contract: of those passed, those that stay stand at the front of out, and
-- what the others give from place t on. Assumes nothing.
use mathlib.Core.Path.{refl, sym, ap, ◌∙◌}
use mathlib.Core.Bool.{not}
use mathlib.Core.List.{List, ◌++◌, map}
use Prim.Native.Nat.{ℕ, ◌+◌}
use native.Mathlib.Omega.{arith}
use borrow.Author.Rules.{rules}
use lib.ListN.{get_or, take, set, length-set}
use lib.Seq.{slice, slice_empty, drop-set-lt, get_or-take, length-take-le}
use Rattle.math_lists.specs.SortedLists.{filter}
use Rattle.math_maximal.specs.Step.{compatible, candidate}
use Rattle.group_step.specs.StepForms.{conflicting, staying, wholes}
use Rattle.group_step.proofs.LoopTurns.{counted, not-counted}
use Rattle.group_apart.proofs.PutApart.{front-more, front_same, behind_more, behind-same, place-behind}
use Rattle.group_apart.proofs.PutApart.{apart-all}
use Rattle.group_apart.proofs.covered.put_apart.Goals as goal
use Rattle.group_apart.proofs.covered.put_apart.Goals.{then-is_compatible, else-is_compatible}

pub loop-g-init : goal.loop-g-init
unfolding staying wholes
loop-g-init c =
    let a = c.args in
    let all = length-take-le a.n a.gs.now (omega arith) in
    let ys = map (candidate a.m a.k) (filter (compatible a.m) (take a.n a.gs.now)) in (
      search rules,
      search rules,
      refl,
      refl,
      omega (arith, c.requires.4),
      refl,
      ap (λ (l : List ℕ). l ++ ys) (sym (slice_empty a.t a.out.now)),
      refl,
    )

pub bounds-out-w : goal.bounds-out-w
bounds-out-w c =
    let l = c.loop-g in
    let i = l.g-index in
    let a = c.args in
    let all = length-take-le a.n a.gs.now (omega arith) in
    let same = get_or-take a.n a.gs.now i 0 (omega arith) in
    let d = ap not (ap (compatible a.m) (sym same) ∙ sym c.is_compatible.ensures ∙ c.if-is_compatible.true) in
    omega (
      arith,
      l.invariant.3,
      place-behind (conflicting a.m) a.gs.now a.t l.a l.w i a.n
          l.invariant.4 l.invariant.2 (omega arith) (omega arith) d,
    )

pub loop-g-preserved : goal.loop-g-preserved
loop-g-preserved c =
    let l = c.loop-g in
    let i = l.g-index in
    let a = c.args in
    let all = length-take-le a.n a.gs.now (omega arith) in
    let s = a.gs.now in
    let p = conflicting a.m in
    let q = compatible a.m in
    let f = candidate a.m a.k in
    let g = get_or s i 0 in
    let ys = map f (filter q (slice (i + 1) a.n s)) in
    let same = get_or-take a.n s i 0 (omega arith) in
    let is = ap q (sym same) ∙ sym c.is_compatible.ensures in
    elim c.if-is_compatible.branch [
      | then-is_compatible v ↦
          let e = is ∙ v.if-is_compatible.true in
          let d = ap not e in
          let x = v.candidate_of in
          let room = place-behind p s a.t l.a l.w i a.n l.invariant.4 l.invariant.2 (omega arith) (omega arith)
          d in
          rw (v.out-is, v.a-is, v.w-is) (
            omega arith,
            omega (arith, room),
            omega arith,
            simp length-set l.invariant.3,
            not-counted p a.t s l.a i a.n l.invariant.4 (omega arith) (omega arith) d,
            front_same p _ s l.out l.a i a.n l.invariant.5 (omega arith) (omega arith) d l.w x.result
                (omega arith),
            behind_more q f _ s l.out a.t l.w i a.n l.invariant.6 (omega arith) (omega arith) (omega arith)
                (omega (arith, room)) e
                ∙ ap (λ (y : ℕ). slice a.t (l.w + 1) (set l.out l.w y) ++ ys)
                (sym (x.ensures ∙ ap f same)),
            drop-set-lt a.n l.out l.w x.result room ∙ l.invariant.7,
          )
      | else-is_compatible v ↦
          let e = is ∙ v.if-is_compatible.false in
          let d = ap not e in
          let more = counted p a.t s l.a i a.n l.invariant.4 (omega arith) (omega arith) d in
          rw (v.out-is, v.a-is, v.w-is, same) (
            omega arith,
            omega arith,
            omega arith,
            simp length-set l.invariant.3,
            more,
            front-more p _ s l.out l.a i a.n l.invariant.5 (omega arith) (omega arith) (omega arith) d,
            behind-same q f _ s l.out a.t l.w i a.n l.invariant.6 (omega arith) (omega arith) e l.a g
                (omega (arith, more)) (omega (arith, more)),
            drop-set-lt a.n l.out l.a g (omega arith) ∙ l.invariant.7,
          )
    ]

pub returns : goal.returns
returns c =
    let l = c.loop-g in
    let i = l.g-index in
    let a = c.args in
    let all = length-take-le a.n a.gs.now (omega arith) in
    apart-all (conflicting a.m) (compatible a.m) (candidate a.m a.k) a.gs.now l.out a.t l.a
    l.w i a.n (omega arith) (omega arith) _ _ _ l.invariant.0 l.invariant.2 l.invariant.4 l.invariant.5 l.invariant.6
    l.invariant.7
