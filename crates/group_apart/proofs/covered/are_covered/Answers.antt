-- `group_apart::covered::are_covered` meets its contract: what remains of each number passed is part of one of those
-- behind, so those left decide. Assumes nothing.
use mathlib.Core.Path.{sym, ap, ◌∙◌}
use mathlib.Core.Bool.{not}
use Prim.Native.Nat.{ℕ}
use native.Mathlib.Omega.{arith}
use lib.Seq.{slice, get_or-take, length-take-le}
use Rattle.math_lists.specs.SortedLists.{any}
use Rattle.math_maximal.specs.Step.{candidate}
use Rattle.group_step.specs.StepForms.{part_of, uncovered}
use Rattle.group_step.proofs.LoopTurns.{found, not_yet, none_found}
use Rattle.group_apart.proofs.covered.are_covered.Goals as goal

pub returns-then-not-is_part_near : goal.returns-then-not-is_part_near
returns-then-not-is_part_near c =
    let l = c.loop-i in
    let a = c.args in
    let all = length-take-le a.t a.s.now (omega arith) in
    let s = a.s.now in
    let ys = slice a.t a.n s in
    let g = get_or-take a.t s l.i 0 (omega arith) in
    let is = ap not (c.is_part_near.ensures
    ∙ ap (λ (x : ℕ). any (part_of x) ys) (c.candidate_of.ensures ∙ ap (candidate a.m a.k) g)) in
    ap not (found (uncovered a.m a.k ys) _ s l.i a.t l.invariant (omega arith) (omega arith)
    (sym is ∙ c.if-not-is_part_near.true-raw))

pub loop-i-preserved : goal.loop-i-preserved
loop-i-preserved c =
    let l = c.loop-i in
    let a = c.args in
    let all = length-take-le a.t a.s.now (omega arith) in
    let s = a.s.now in
    let ys = slice a.t a.n s in
    let g = get_or-take a.t s l.i 0 (omega arith) in
    let is = ap not (c.is_part_near.ensures
    ∙ ap (λ (x : ℕ). any (part_of x) ys) (c.candidate_of.ensures ∙ ap (candidate a.m a.k) g)) in not_yet (uncovered a.m a.k ys) _ s l.i a.t l.invariant (omega arith) (omega arith)
    (sym is ∙ c.if-not-is_part_near.false-raw)

pub returns : goal.returns
returns c =
    let l = c.loop-i in
    let a = c.args in
    let all = length-take-le a.t a.s.now (omega arith) in
    ap not (none_found (uncovered a.m a.k (slice a.t a.n a.s.now)) _ a.s.now l.i a.t
    l.invariant (omega arith) (omega arith))
