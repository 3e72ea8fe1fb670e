-- `group_apart::covered::step_split` meets its contract: where what remains of each group that conflicts is part of one
-- that gains the Set, those that stay and those that gain it are the step. Assumes nothing.
use mathlib.Core.Path.{◌≡◌, refl, sym, ap₂, subst, ◌∙◌}
use mathlib.Core.Bool.{true}
use mathlib.Core.List.{List}
use Prim.Native.Nat.{ℕ}
use native.Mathlib.Omega.{arith}
use lib.ListN.{length, take, length-append}
use lib.Seq.{length-take-le}
use Rattle.group_step.specs.GroupRows.{settled}
use Rattle.group_step.specs.StepForms.{staying, wholes, all_covered}
use Rattle.group_apart.proofs.PutApart.{first_part, second-part, apart-row}
use Rattle.group_apart.proofs.StepCovered.{both-parts, covered-step}
use Rattle.group_apart.proofs.covered.step_split.Goals as goal

-- what a step leaves that gives the groups l: their number r, and the row, which was `before`
abbrev Left : List ℕ → ℕ → List ℕ → List ℕ → Type 0
Left before r after l = (r ≡ length l) × (after ≡ settled l before)

pub returns : goal.returns
returns c =
    let a = c.args in
    let before = take a.n a.gs.now in
    let st = staying a.m before in
    let wh = wholes a.m a.k before in
    let p = c.put_apart in
    let out = p.new.out in
    let all = both-parts a.m a.k before ∙ length-take-le a.n a.gs.now (omega arith) in
    let first = first_part st wh _ out a.t a.n p.ensures c.requires.7 all in
    let second = second-part st wh _ out a.t a.n p.ensures c.requires.7 all in
    let r = c.are_covered in
    let covered : all_covered a.m a.k wh st ≡ true
    = ap₂ (all_covered a.m a.k) (sym second) (sym first)
    ∙ sym r.ensures
    ∙ c.if-not-are_covered.false in
    let y = c.copy_from_slice in
    subst (Left a.gs.now a.n y.new.self)
    (covered-step a.m a.k before c.requires.3 c.requires.4 c.requires.5 covered) (
      sym (length-append st wh ∙ all),
      y.ensures.after
          ∙ apart-row st wh _ out a.t a.n p.ensures c.requires.7 all a.gs.now (omega arith) refl,
    )
