-- `edit_object::put_places` meets its contract: the places of the Sets passed stand at the front, and there is room
-- for one more as long as one is left. Assumes nothing.
use mathlib.Core.Path.{refl, sym, ap, ◌∙◌}
use native.Mathlib.Omega.{arith}
use borrow.Author.Rules.{rules}
use lib.ListN.{length, length-set}
use Rattle.edit_history.specs.EditsHeld.{is_set_on, sets_on}
use Rattle.edit_object.proofs.PlacesPassed.{place-more, no-place-more, one-counted, some_left, no-places}
use Rattle.edit_object.proofs.put_places.Goals as goal
use Rattle.edit_object.proofs.put_places.Goals.{then-is_set_at, else-is_set_at}

pub loop-i-init : goal.loop-i-init
unfolding sets_on
loop-i-init c =
    let a = c.args in
    let none = no-places a.recs.now (is_set_on a.s a.q) in
    (refl, none, ap length none)

pub bounds-out-w : goal.bounds-out-w
unfolding sets_on
bounds-out-w c =
    let l = c.loop-i in
    let a = c.args in
    let is = sym c.is_set_at.ensures ∙ c.if-is_set_at.true in
    let room = some_left a.recs.now (is_set_on a.s a.q) l.i a.n (omega arith) is in
    search rules

pub loop-i-preserved : goal.loop-i-preserved
unfolding sets_on
loop-i-preserved c =
    let l = c.loop-i in
    let a = c.args in
    let rs = a.recs.now in
    let on = is_set_on a.s a.q in
    let e = sym c.is_set_at.ensures in
    elim c.if-is_set_at.branch [
      | then-is_set_at v ↦ let is = e ∙ v.if-is_set_at.true in
          let room = some_left rs on l.i a.n (omega arith) is in
          rw (v.out-is, v.w-is) (
            simp length-set l.invariant.0,
            place-more rs on l.out l.w l.i (omega arith) is l.invariant.1,
            omega (arith, one-counted rs on l.i is),
          )
      | else-is_set_at v ↦ rw (v.out-is, v.w-is, no-place-more rs on l.i (e ∙ v.if-is_set_at.false)) (
        l.invariant.0,
        l.invariant.1,
        l.invariant.2,
      )
    ]
