-- `table_sets::by_mask::disputed_in` meets its contract: of the Sets passed, those in dispute among them are marked.
-- Assumes nothing.
use mathlib.Core.Path.{◌≡◌, refl, subst, ◌∙◌}
use Prim.Native.Nat.{ℕ, ◌<◌}
use native.Mathlib.Omega.{arith}
use lib.ListN.{length, get_or-replicate}
use Rattle.edit_record.specs.Layout.{keys}
use Rattle.table_sets.proofs.MarksByKey.{shifted_one}
use Rattle.table_sets.proofs.MarksByMask.{masked-none}
use Rattle.table_sets.proofs.DisputesByMarks.{MarkedTo, marked-none, marked-low, marked-same, marked_more}
use Rattle.table_sets.proofs.by_mask.disputed_in.Goals as goal
use Rattle.table_sets.proofs.by_mask.disputed_in.Goals.{then-m-ne0, else-m-ne0}

pub loop-i-init : goal.loop-i-init
loop-i-init c =
    let a = c.args in (
      refl,
      refl,
      masked-none a.recs.now a.places.now _ _ (λ x l. get_or-replicate keys x 0 0 l),
      marked-none a.recs.now a.places.now,
    )

pub mark_in_place-m-requires : goal.mark_in_place-m-requires
mark_in_place-m-requires c =
    let looped = c in
    let p = looped.requires in
    let l = looped.loop-i in (
      omega (arith, p.1),
      omega (arith, p.0),
      omega (arith, l.invariant.0),
      omega (arith, p.2, l.invariant.1),
      l.invariant.2,
      λ j m. p.3 l.i j (omega arith) m,
    )

pub loop-i-preserved : goal.loop-i-preserved
loop-i-preserved c =
    let taken = c in
    let looped = taken in
    let start = looped in
    let a = start.args in
    let p = start.requires in
    let l = looped.loop-i in
    let s = taken.mark_in_place-m in
    let rs = a.recs.now in
    let ps = a.places.now in
    let fits : l.i < length ps = omega (arith, p.0) in (
      s.auto.sets ∙ l.invariant.0,
      s.auto.tolds ∙ l.invariant.1,
      s.ensures.1,
      elim c.if-m-ne0.branch [
        | then-m-ne0 v ↦ rw (v.all-is, shifted_one l.i (omega (arith, p.1)))
            (marked_more rs ps l.i s.result l.all fits l.invariant.3 s.ensures.0 v.if-m-ne0.true)
        | else-m-ne0 v ↦ rw v.all-is (marked-same rs ps l.i s.result l.all fits l.invariant.3 s.ensures.0 v.if-m-ne0.false)
      ],
    )

pub returns : goal.returns
returns c =
    let l = c.loop-i in
    let a = c.args in
    let done : l.i ≡ a.t = omega arith in
    let all = subst (λ (i : ℕ). MarkedTo a.recs.now a.places.now i l.all) done l.invariant.3 in
    (all.marked, marked-low a.recs.now a.places.now a.t l.all all)
