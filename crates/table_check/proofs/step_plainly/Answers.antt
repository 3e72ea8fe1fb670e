-- `table_check::step_plainly` meets its contract: after i Sets, their groups stand in front. Assumes nothing.
use mathlib.Core.Path.{◌≡◌, refl, sym, ap, ◌∙◌}
use Prim.Native.Nat.{◌+◌}
use native.Mathlib.Omega.{arith}
use lib.ListN.{length, get_or, take, get_or-replicate}
use Rattle.edit_causal.proofs.ConflictsAmongSets.{none-itself}
use Rattle.edit_history.specs.EditsHeld.{record_at}
use Rattle.edit_record.specs.Layout.{keys}
use Rattle.table_sets.proofs.MarksByMask.{masked-none}
use Rattle.table_check.specs.CheckForms.{joined_with}
use Rattle.table_check.proofs.RowWorkedOut.{groups_none, stepped-on, in-ascending, in-below, in-apart}
use Rattle.table_check.proofs.RowWorkedOut.{in-more}
use Rattle.table_check.proofs.JoinedLater.{joined-none}
use Rattle.table_check.proofs.SetsInTurn.{plain-are-all}
use Rattle.table_check.proofs.step_plainly.Goals as goal

pub loop-i-init : goal.loop-i-init
loop-i-init c =
    let s = c in
    let a = s.args in (
      s.requires.0,
      omega arith,
      joined-none _ ∙ s.requires.1 ∙ sym (groups_none a.recs.now a.places.now),
      refl,
      refl,
      masked-none a.recs.now a.places.now _ _ (λ x l. get_or-replicate keys x 0 0 l),
    )

pub mark_set-m-requires : goal.mark_set-m-requires
mark_set-m-requires c =
    let s = c in
    let l = c.loop-i in (
      omega (arith, s.requires.3),
      omega (arith, s.requires.2),
      omega (arith, l.invariant.3),
      omega (arith, s.requires.3, l.invariant.4),
      l.invariant.5,
      λ j m. s.requires.6 l.i j (omega arith) m,
    )

pub step_later-t-requires : goal.step_later-t-requires
step_later-t-requires c =
    let s = c in
    let a = s.args in
    let l = c.loop-i in (
      l.invariant.0,
      l.invariant.1,
      omega arith,
      rw l.invariant.2 (in-ascending a.recs.now a.places.now l.i),
      rw l.invariant.2 (in-below a.recs.now a.places.now l.i (omega arith)),
      rw l.invariant.2 (in-apart a.recs.now a.places.now l.i),
    )

pub returns-then-n-gt-GROUPS : goal.returns-then-n-gt-GROUPS
returns-then-n-gt-GROUPS c =
    let b = c in
    let s = b in
    let a = s.args in
    let l = b.loop-i in
    let r = c.step_later-t in
    let m = b.mark_set-m in
    let rs = a.recs.now in
    let ps = a.places.now in
    let e = record_at rs (get_or ps l.i 0) in
    let next = stepped-on rs ps l.i (joined_with l.common (take l.n l.gs)) (omega arith)
    (none-itself _ (s.requires.4.proper (l.i + 1) (omega arith))) l.invariant.2 e refl m.result
    (m.ensures.0 ∙ plain-are-all rs ps a.k s.requires.2 l.i (omega arith) e refl s.requires.5) in
    omega (
      arith,
      r.ensures.0,
      ap length next,
      in-more rs ps (l.i + 1) a.k (omega arith) (none-itself _ (s.requires.4.proper a.k (omega arith))),
    )

pub loop-i-preserved : goal.loop-i-preserved
loop-i-preserved c =
    let b = c in
    let s = b in
    let a = s.args in
    let l = b.loop-i in
    let r = c.step_later-t in
    let m = b.mark_set-m in
    let rs = a.recs.now in
    let ps = a.places.now in
    let e = record_at rs (get_or ps l.i 0) in
    let next = stepped-on rs ps l.i (joined_with l.common (take l.n l.gs)) (omega arith)
    (none-itself _ (s.requires.4.proper (l.i + 1) (omega arith))) l.invariant.2 e refl m.result
    (m.ensures.0 ∙ plain-are-all rs ps a.k s.requires.2 l.i (omega arith) e refl s.requires.5) in (
      r.auto.gs ∙ l.invariant.0,
      omega arith,
      r.ensures.1 (omega arith) ∙ next,
      m.auto.sets ∙ l.invariant.3,
      m.auto.tolds ∙ l.invariant.4,
      m.ensures.1,
    )

pub returns : goal.returns
returns c =
    let l = c.loop-i in
    let k : l.i ≡ c.args.k = omega arith in
    (l.invariant.1, c.join_all.ensures.1 ∙ rw (← k) l.invariant.2)
