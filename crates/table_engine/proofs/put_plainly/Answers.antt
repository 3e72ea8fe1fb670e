-- `table_engine::put_plainly` meets its contract: after i places their Sets have their masks, and stand among those of
-- their keys. Assumes nothing.
use mathlib.Core.Path.{◌≡◌, refl, sym, ap, ◌∙◌}
use Prim.Native.Nat.{ℕ, ◌-◌}
use native.Mathlib.Omega.{arith}
use lib.ListN.{length, get_or-replicate}
use Rattle.math_lists.specs.NumbersBelow.{mask}
use Rattle.edit_record.specs.Layout.{keys}
use Rattle.edit_causal.specs.Conflict.{conflicts_in}
use Rattle.edit_history.proofs.EditsInPlaces.{sets-length}
use Rattle.group_sight.specs.SightForms.{sets_in}
use Rattle.table_sets.proofs.MarksByMask.{masked-none}
use Rattle.table_sets.proofs.SetsTold.{tells-in-places}
use Rattle.table_engine.proofs.MasksOfSets.{row_small, masked-more}
use Rattle.table_engine.proofs.put_plainly.Goals as goal

pub loop-i-init : goal.loop-i-init
loop-i-init c =
    let a = c.args in (
      refl,
      λ i l. absurd (omega arith),
      refl,
      refl,
      masked-none a.recs.now a.places.now _ _ (λ x l. get_or-replicate keys x 0 0 l),
    )

pub mark_set-row-requires : goal.mark_set-row-requires
mark_set-row-requires c =
    let l = c.loop-i in
    let s = c in
    let a = s.args in (
      omega (arith, s.requires.1),
      omega (arith, s.requires.0),
      omega (arith, l.invariant.2),
      omega (arith, l.invariant.3, s.requires.1),
      l.invariant.4,
      λ j m. tells-in-places a.recs.now a.places.now a.k s.requires.0 s.requires.4 l.i j (omega arith) m,
    )

pub put_row-requires : goal.put_row-requires
put_row-requires c =
    let l = c.loop-i in
    let s = c in
    let a = s.args in (
      omega (arith, s.requires.1),
      omega (arith, l.invariant.0, s.requires.2),
      rw c.mark_set-row.ensures.0
          (row_small a.recs.now a.places.now a.k s.requires.0 s.requires.3 l.i (omega arith)),
    )

pub loop-i-preserved : goal.loop-i-preserved
loop-i-preserved c =
    let l = c.loop-i in
    let s = c in
    let a = s.args in
    let t = c.mark_set-row in
    let p = c.put_row in (
      p.auto.plain ∙ l.invariant.0,
      masked-more a.recs.now a.places.now a.k s.requires.0 s.requires.3 l.i (omega arith) _
          t.ensures.0 l.masks p.new.plain l.invariant.1 p.ensures.0 p.ensures.1,
      t.auto.sets ∙ l.invariant.2,
      t.auto.tolds ∙ l.invariant.3,
      t.ensures.1,
    )

pub returns : goal.returns
returns c i l =
    let s = c in
    let a = s.args in
    let rs = a.recs.now in
    let ps = a.places.now in
    let done : c.loop-i.i ≡ length (sets_in rs ps a.k) =
    sym (sets-length rs ps a.k s.requires.0 ∙ omega arith) in
    c.loop-i.invariant.1 i (omega arith) ∙ ap (λ (n : ℕ). mask n (conflicts_in (sets_in rs ps a.k) i)) done
