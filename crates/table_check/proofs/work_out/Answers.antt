-- `table_check::work_out` meets its contract: the row starts with the empty group, in either way. Assumes nothing.
use Rattle.std.proofs.Common.{Option, Some, None, List, ℕ, sym, ◌∙◌}
use native.Mathlib.Omega.{arith}
use lib.ListN.{length-set}
use lib.Seq.{take-suc-set}
use Rattle.table_check.specs.CheckForms.{groups_in, ProperInTurn, WorkedOut, WorkedThrough}
use Rattle.table_check.proofs.SetsInTurn.{none-limited-turn}
use Rattle.table_check.proofs.work_out.Goals as goal

-- where 16 can be given to none
worked-through :
    (rs ms : List ℕ) (k : ℕ) (gs : List ℕ) (r : Option ℕ) → ProperInTurn rs ms k →
    WorkedOut (groups_in rs ms k) gs r → WorkedThrough rs ms k gs r
worked-through rs ms k gs None turn many = λ t. many
worked-through rs ms k gs (Some n) turn (few, front) = (few, turn, front)

pub step_plainly-requires : goal.step_plainly-requires
step_plainly-requires c =
    let s = c in
    let limited = c.is_any_limited in (
      simp length-set s.requires.2,
      take-suc-set s.args.gs.now 0 0 (omega (arith, s.requires.2)),
      s.requires.0,
      s.requires.1,
      none-limited-turn s.args.recs.now s.args.places.now s.args.k s.requires.0 s.requires.3
          (sym limited.ensures ∙ c.if-not-is_any_limited.true),
      sym limited.ensures ∙ c.if-not-is_any_limited.true,
      s.requires.4,
    )

pub shape_of-gs-then-not-is_any_limited : goal.shape_of-gs-then-not-is_any_limited
shape_of-gs-then-not-is_any_limited c =
    let r = c in
    let s = r in
    r.step_plainly.auto.gs ∙ length-set s.args.gs.now 0 _

pub returns-then-not-is_any_limited : goal.returns-then-not-is_any_limited
returns-then-not-is_any_limited c =
    let r = c in
    let limited = r.is_any_limited in
    let s = r in
    let a = s.args in
    let none = sym limited.ensures ∙ r.if-not-is_any_limited.true in
    let turn = none-limited-turn a.recs.now a.places.now a.k s.requires.0 s.requires.3 none in
    worked-through a.recs.now a.places.now a.k _ _ turn r.step_plainly.ensures

pub step_limited-requires : goal.step_limited-requires
step_limited-requires c =
    let back = c in
    let s = back in (
      simp length-set s.requires.2,
      take-suc-set s.args.gs.now 0 0 (omega (arith, s.requires.2)),
      s.requires.0,
      s.requires.1,
      s.requires.3,
      c.put_names.ensures,
    )

pub shape_of-gs : goal.shape_of-gs
shape_of-gs c =
    let r = c in
    let z = r in
    let s = z in
    r.step_limited.auto.gs ∙ length-set s.args.gs.now 0 _
