-- `group_limited::put_rows` meets its contract: after i places, the rows of their Sets are put down, where all of them
-- are proper. Assumes nothing.
use mathlib.Core.Path.{◌≡◌, refl, subst, ◌∙◌}
use Prim.Native.Nat.{ℕ, ◌-◌, ◌%◌, ◌≤◌, ◌<◌}
use native.Mathlib.Omega.{arith}
use lib.ListN.{length, get_or, length-set}
use Rattle.math_contexts.specs.Box.{Lawful}
use Rattle.edit_causal.specs.Conflict.{box_on}
use Rattle.edit_history.specs.EditsHeld.{record_at}
use Rattle.edit_history.proofs.EditsInPlaces.{sets-length}
use Rattle.group_limited.specs.LimitedForms.{RowsTell}
use Rattle.group_sight.specs.SightForms.{sets_in, most_recent, SeesTell}
use Rattle.group_limited.proofs.RowsInPlaces.{no_rows, rows_more, none-sees, sees_more}
use Rattle.group_limited.proofs.NamedInTurn.{lawful-to, left-where-proper}
use Rattle.group_limited.proofs.put_rows.Goals as goal

pub loop-i-init : goal.loop-i-init
loop-i-init c =
    let a = c.args in
    (refl, refl, refl, λ p. (no_rows a.plain.now a.ctx.now, none-sees a.sees.now))

pub sight_at-s-requires : goal.sight_at-s-requires
sight_at-s-requires c =
    let l = c.loop-i in
    let s = c in
    let more = c.loop-i-test.true in (
      omega (arith, s.requires.0, more),
      omega (arith, s.requires.1, more),
      omega (arith, s.requires.2, more),
      omega (arith, l.invariant.2, s.requires.5, more),
      λ j m. s.requires.6 j (omega (arith, more)),
    )

pub put_told-requires : goal.put_told-requires
put_told-requires c =
    let back = c in
    let far = back in
    let t = c in
    let l = back.loop-i in
    let s = far in
    let more = back.loop-i-test.true in (
      omega (arith, s.requires.0, more),
      omega (arith, l.invariant.0, s.requires.3, more),
      omega (arith, l.invariant.1, s.requires.4, more),
      t.sight_at-s.ensures.0,
    )

pub bounds-sees-i : goal.bounds-sees-i
bounds-sees-i c =
    let back = c in
    let far = back in
    let l = back.loop-i in
    let s = far in
    omega (arith, l.invariant.2, s.requires.5, back.loop-i-test.true)

pub loop-i-preserved : goal.loop-i-preserved
loop-i-preserved c =
    let back = c in
    let far = back in
    let p = c.put_told in
    let own = c.left_by-own in
    let sight = back.sight_at-s in
    let l = back.loop-i in
    let s = far in
    let a = s.args in
    let rs = a.recs.now in
    let ps = a.places.now in
    let more : l.i < a.k = back.loop-i-test.true in
    let fits : a.k ≤ length ps = s.requires.1 in
    let e = record_at rs (get_or ps l.i 0) in
    let size = sets-length rs ps l.i (omega arith) in (
      p.auto.plain ∙ l.invariant.0,
      p.auto.ctx ∙ l.invariant.1,
      length-set l.sees (l.i % most_recent) sight.result.seen ∙ l.invariant.2,
      λ proper.
          let (tell, sees) = l.invariant.3 proper in
          let whole = subst (Lawful (box_on (sets_in rs ps a.k))) (sets-length rs ps a.k fits) proper.lawful in
          let seen = sight.ensures.1 sees (lawful-to rs ps a.k fits l.i more e refl whole) in
          let its = own.ensures _ _ (omega (arith, size, s.requires.0)) tell seen
          ∙ left-where-proper rs ps a.k fits l.i more proper in (
            rows_more rs ps l.i (omega arith) sight.result.plain own.result l.plain l.ctx p.new.plain
                p.new.ctx tell seen.plain its p.ensures,
            sees_more rs ps l.i (omega arith) l.sees sight.result.seen sees seen.seen
                (omega (arith, l.invariant.2, s.requires.5)),
          ),
    )

pub returns : goal.returns
returns c proper =
    let l = c.loop-i in
    let a = c.args in
    let done : l.i ≡ a.k = omega arith in
    let rs = a.recs.now in
    let ps = a.places.now in
    let (tell, sees) = l.invariant.3 proper in (
      subst (λ (j : ℕ). RowsTell (sets_in rs ps j) l.plain l.ctx) done tell,
      subst (λ (j : ℕ). SeesTell (sets_in rs ps j) l.sees) done sees,
    )
