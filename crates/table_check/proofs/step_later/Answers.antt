-- `table_check::step_later` meets its contract: a Set without conflict waits with those that did, and before a step
-- that has conflicts all of them join the groups. Assumes nothing.
use mathlib.Core.Path.{sym, ap, ◌∙◌}
use native.Mathlib.Omega.{arith}
use lib.Bits.{bit_or}
use lib.ListN.{length, take}
use lib.Seq.{length-take-le}
use Prim.Native.Nat.{ℕ}
use Rattle.math_maximal.specs.Step.{step}
use Rattle.table_check.specs.CheckForms.{joined_with}
use Rattle.table_check.proofs.RowWorkedOut.{settled-front}
use Rattle.table_check.proofs.JoinedLater.{joined-none, joined_length, step-joined}
use Rattle.table_check.proofs.step_later.Goals as goal

pub returns-then-m-eq0 : goal.returns-then-m-eq0
returns-then-m-eq0 c =
    let s = c in
    let a = s.args in
    let gs = a.gs.now in
    let e = ap (λ (m : ℕ). step m a.i (joined_with a.common (take a.n gs))) c.if-m-eq0.true
    ∙ step-joined a.common a.i (take a.n gs) s.requires.3 s.requires.4 s.requires.5 in (
      sym (ap length e ∙ joined_length _ (take a.n gs) ∙ length-take-le a.n gs (omega (arith, s.requires.0))),
      λ few. ap (λ (b : ℕ). joined_with (bit_or a.common b) (take a.n gs)) c.only.ensures ∙ sym e,
    )

pub step_apart-requires : goal.step_apart-requires
step_apart-requires c =
    let s = c in
    let j = c.join_all.ensures in (
      j.0 ∙ s.requires.0,
      s.requires.1,
      s.requires.2,
      rw j.1 s.requires.3,
      rw j.1 s.requires.4,
      rw j.1 s.requires.5,
    )

pub returns : goal.returns
returns c =
    let s = c in
    let a = s.args in
    let j = c.join_all in
    let r = c.step_apart in
    let e = ap (step a.m a.i) j.ensures.1 in (
      r.ensures.0 ∙ ap length e,
      λ few. joined-none _ ∙ settled-front _ j.new.gs r.new.gs r.result r.ensures.1 r.ensures.0 few
          ∙ e,
    )
