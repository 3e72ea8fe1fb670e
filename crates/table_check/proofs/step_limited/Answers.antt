-- `table_check::step_limited` meets its contract: after i Sets, their groups stand in front and their rows are put
-- down. Assumes nothing.
use mathlib.Core.Path.{◌≡◌, refl, sym, ap, ◌∙◌}
use mathlib.Core.Bool.{false}
use Prim.Native.Nat.{◌+◌}
use native.Mathlib.Omega.{arith}
use lib.ListN.{length, get_or}
use Rattle.math_lists.proofs.Booleans.{clash}
use Rattle.edit_causal.proofs.ConflictsAmongSets.{none-itself}
use Rattle.edit_history.specs.EditsHeld.{record_at}
use Rattle.group_limited.specs.LimitedForms.{ToldOf}
use Rattle.group_sight.specs.SightForms.{sets_in}
use Rattle.group_limited.proofs.RowsInPlaces.{no_rows, rows_more, none-sees, sees_more}
use Rattle.group_limited.proofs.NamedInTurn.{nameless, lawful-to}
use Rattle.table_check.proofs.RowWorkedOut.{groups_none, stepped, in-ascending, in-below, in-apart, in-more}
use Rattle.table_check.proofs.RowWorkedOut.{settled-front}
use Rattle.table_check.proofs.SetsInTurn.{TakenInTurn, taken, next-nameless, turn-to}
use Rattle.table_check.proofs.step_limited.Goals as goal
use Rattle.table_check.proofs.step_limited.Goals.{After-told_at-t}

-- what is known once the next Set is told
next-told :
    (b : After-told_at-t) →
    let t = b.told_at-t.result in
    let y = b in
    let rs = y.args.recs.now in
    let ps = y.args.places.now in
    let i = y.loop-i.i in
    ToldOf (sets_in rs ps i) (record_at rs (get_or ps i 0)) t
    × (t.nameless ≡ nameless rs ps i)
    × (t.nameless ≡ false → TakenInTurn rs ps i t)
next-told b =
    let y = b in
    let l = y.loop-i in
    let s = y in
    let a = s.args in
    let rs = a.recs.now in
    let ps = a.places.now in
    let t = b.told_at-t.result in
    let law = lawful-to rs ps a.k s.requires.2 l.i (omega arith) _ refl s.requires.4 in
    let told = b.told_at-t.ensures.1 l.invariant.5 law l.invariant.4 in (
      told,
      next-nameless rs ps a.k s.requires.2 l.i (omega arith) s.requires.4 l.invariant.6 t told,
      taken rs ps a.k s.requires.2 l.i (omega arith) s.requires.4 l.invariant.6 t told,
    )

pub loop-i-init : goal.loop-i-init
loop-i-init c =
    let s = c in
    let a = s.args in (
      s.requires.0,
      omega arith,
      s.requires.1 ∙ sym (groups_none a.recs.now a.places.now),
      refl,
      no_rows a.rows.now.plain a.rows.now.contexts,
      none-sees a.rows.now.sees,
      λ j l. absurd (omega arith),
    )

pub told_at-t-requires : goal.told_at-t-requires
told_at-t-requires c =
    let l = c.loop-i in
    let s = c in
    let more = c.loop-i-test.true in (
      omega (arith, s.requires.3, more),
      omega (arith, s.requires.2, more),
      rw l.invariant.3 (λ j m. s.requires.5 j (omega (arith, more))),
    )

pub returns-then-t : goal.returns-then-t
returns-then-t c =
    let l = c.loop-i in
    let (_, own, _) = next-told (goal.at.returns-then-t c).After-told_at-t in
    λ turn. clash (sym own ∙ c.if-t.true) (turn.named l.i (omega arith))

pub step_apart-n-requires : goal.step_apart-n-requires
step_apart-n-requires c =
    let y = c in
    let l = y.loop-i in
    let a = y.args in (
      l.invariant.0,
      l.invariant.1,
      omega arith,
      rw l.invariant.2 (in-ascending a.recs.now a.places.now l.i),
      rw l.invariant.2 (in-below a.recs.now a.places.now l.i (omega arith)),
      rw l.invariant.2 (in-apart a.recs.now a.places.now l.i),
    )

pub returns-then-n-gt-GROUPS : goal.returns-then-n-gt-GROUPS
returns-then-n-gt-GROUPS c =
    let b = c in
    let (_, _, taken_next) = next-told (goal.at.returns-then-n-gt-GROUPS c).After-told_at-t in
    let x = taken_next c.if-t.false in
    let y = b in
    let l = y.loop-i in
    let s = y in
    let a = s.args in
    let rs = a.recs.now in
    let ps = a.places.now in
    let next = stepped rs ps l.i l.n l.gs (omega arith)
    (none-itself _ (x.turn.proper (l.i + 1) (omega arith))) l.invariant.2 _ refl _ x.conflicts in
    λ turn.
    let irr = none-itself _ (turn.proper a.k (omega arith)) in
    omega (arith, c.step_apart-n.ensures.0, ap length next, in-more rs ps (l.i + 1) a.k (omega arith) irr)

pub put_told-requires : goal.put_told-requires
put_told-requires c =
    let b = c in
    let y = b in
    let l = y.loop-i in
    let s = y in (
      omega (arith, s.requires.3, y.loop-i-test.true),
      omega (arith, s.requires.3, y.loop-i-test.true),
      omega (arith, s.requires.3, y.loop-i-test.true),
      b.told_at-t.ensures.0,
    )

pub offset_bounds-rows-i : goal.offset_bounds-rows-i
offset_bounds-rows-i c =
    let back = c in
    let y = back in
    let s = y in
    record { fits = omega (arith, y.loop-i-test.true, s.requires.3) }

pub bounds-rows-i : goal.bounds-rows-i
bounds-rows-i c =
    let back = c in
    let y = back in
    let s = y in
    omega (arith, y.loop-i-test.true)

pub loop-i-preserved : goal.loop-i-preserved
loop-i-preserved c =
    let p = c.put_told in
    let f = c.if-n-gt-GROUPS in
    let back = c in
    let r = back.step_apart-n in
    let b = back in
    let t = b.told_at-t.result in
    let (told, _, taken_next) = next-told (goal.at.loop-i-preserved c).After-told_at-t in
    let x = taken_next back.if-t.false in
    let y = b in
    let l = y.loop-i in
    let s = y in
    let a = s.args in
    let rs = a.recs.now in
    let ps = a.places.now in
    let next = stepped rs ps l.i l.n l.gs (omega arith)
    (none-itself _ (x.turn.proper (l.i + 1) (omega arith))) l.invariant.2 _ refl _ x.conflicts in (
      r.auto.gs ∙ l.invariant.0,
      omega (arith, f.false),
      settled-front _ l.gs r.new.gs r.result r.ensures.1 r.ensures.0 (omega (arith, f.false)) ∙ next,
      l.invariant.3,
      rows_more rs ps l.i (omega arith) t.row t.context l.rows.plain l.rows.contexts p.new.plain p.new.ctx
          l.invariant.4 told.row x.context p.ensures,
      sees_more rs ps l.i (omega arith) l.rows.sees t.seen l.invariant.5 told.seen (omega arith),
      x.free,
    )

pub returns : goal.returns
returns c =
    let l = c.loop-i in
    let s = c in
    let a = s.args in
    let k : l.i ≡ a.k = omega arith in (
      l.invariant.1,
      turn-to a.recs.now a.places.now a.k s.requires.2 a.k (omega arith) s.requires.4 (rw k at l.invariant.6),
      rw (← k) l.invariant.2,
    )
