-- `group_limited::are_named_with` meets its contract: 16 is given to none of the Sets passed, whose rows are put down.
-- Assumes nothing.
use mathlib.Core.Path.{◌≡◌, refl, sym, ◌∙◌}
use Prim.Native.Nat.{◌%◌, ◌≤◌, ◌<◌}
use native.Mathlib.Omega.{arith}
use lib.ListN.{length, get_or, length-set}
use Rattle.math_lists.proofs.Booleans.{clash}
use Rattle.edit_history.specs.EditsHeld.{record_at}
use Rattle.edit_history.proofs.EditsInPlaces.{sets-length}
use Rattle.group_sight.specs.SightForms.{most_recent}
use Rattle.group_limited.proofs.RowsInPlaces.{no_rows, rows_more, none-sees, sees_more}
use Rattle.group_limited.proofs.NamedInTurn.{lawful-to, left-where-named}
use Rattle.group_limited.proofs.NamedInTurn.{named-where-told, in-turn-on, in-turn-off, passed-one-more}
use Rattle.group_limited.proofs.are_named_with.Goals as goal

pub loop-i-init : goal.loop-i-init
loop-i-init c =
    let a = c.args in (
      refl,
      refl,
      refl,
      λ law. (no_rows a.plain.now a.ctx.now, none-sees a.sees.now, λ j l. absurd (omega arith)),
    )

pub sight_at-s-requires : goal.sight_at-s-requires
sight_at-s-requires c =
    let l = c.loop-i in
    let s = c in
    let more = c.loop-i-test.true in (
      omega (arith, s.requires.0, more),
      omega (arith, s.requires.1, more),
      omega (arith, s.requires.2, more),
      omega (arith, l.invariant.2, s.requires.5, more),
      λ j m. s.requires.6 j (omega (arith, more)),
    )

pub returns-then-is_nameless : goal.returns-then-is_nameless
returns-then-is_nameless c law =
    let back = c in
    let far = back in
    let q = c.is_nameless in
    let own = c.left_by-own in
    let sight = c.sight_at-s in
    let l = back.loop-i in
    let s = far in
    let a = s.args in
    let rs = a.recs.now in
    let ps = a.places.now in
    let more : l.i < a.k = back.loop-i-test.true in
    let fits : a.k ≤ length ps = s.requires.1 in
    let e = record_at rs (get_or ps l.i 0) in
    let size = sets-length rs ps l.i (omega arith) in
    let (tell, sees, before) = l.invariant.3 law in
    let seen = sight.ensures.1 sees (lawful-to rs ps a.k fits l.i more e refl law) in
    let its = own.ensures _ _ (omega (arith, size, s.requires.0)) tell seen in
    let told = named-where-told rs ps a.k fits l.i more q.result
    (q.ensures _ _ l.ctx tell seen its) law before in
    record {
      named = sym (in-turn-off rs ps a.k fits l.i more (sym told ∙ c.if-is_nameless.true));
      rows = λ h. clash h refl;
      seen = λ h. clash h refl;
    }

pub put_told-requires : goal.put_told-requires
put_told-requires c =
    let back = c in
    let far = back in
    let t = back in
    let l = back.loop-i in
    let s = far in
    let more = back.loop-i-test.true in (
      omega (arith, s.requires.0, more),
      omega (arith, l.invariant.0, s.requires.3, more),
      omega (arith, l.invariant.1, s.requires.4, more),
      t.sight_at-s.ensures.0,
    )

pub bounds-sees-i : goal.bounds-sees-i
bounds-sees-i c =
    let back = c in
    let far = back in
    let l = far.loop-i in
    let s = far in
    omega (arith, l.invariant.2, s.requires.5, far.loop-i-test.true)

pub loop-i-preserved : goal.loop-i-preserved
loop-i-preserved c =
    let back = c in
    let far = back in
    let p = c.put_told in
    let q = back.is_nameless in
    let own = back.left_by-own in
    let sight = back.sight_at-s in
    let l = far.loop-i in
    let s = far in
    let a = s.args in
    let rs = a.recs.now in
    let ps = a.places.now in
    let more : l.i < a.k = far.loop-i-test.true in
    let fits : a.k ≤ length ps = s.requires.1 in
    let e = record_at rs (get_or ps l.i 0) in
    let size = sets-length rs ps l.i (omega arith) in (
      p.auto.plain ∙ l.invariant.0,
      p.auto.ctx ∙ l.invariant.1,
      length-set l.sees (l.i % most_recent) sight.result.seen ∙ l.invariant.2,
      λ law.
          let (tell, sees, before) = l.invariant.3 law in
          let seen = sight.ensures.1 sees (lawful-to rs ps a.k fits l.i more e refl law) in
          let its = own.ensures _ _ (omega (arith, size, s.requires.0)) tell seen in
          let free = sym
          (named-where-told rs ps a.k fits l.i more q.result (q.ensures _ _ l.ctx tell seen its) law
          before)
          ∙ c.if-is_nameless.false in
          let context = its ∙ left-where-named rs ps a.k fits l.i more law before free in (
            rows_more rs ps l.i (omega arith) sight.result.plain own.result l.plain l.ctx p.new.plain
                p.new.ctx tell seen.plain context p.ensures,
            sees_more rs ps l.i (omega arith) l.sees sight.result.seen sees seen.seen
                (omega (arith, l.invariant.2, s.requires.5)),
            passed-one-more rs ps l.i free before,
          ),
    )

pub returns : goal.returns
returns c law =
    let l = c.loop-i in
    let a = c.args in
    let (tell, sees, before) = l.invariant.3 law in
    let k : l.i ≡ a.k = omega arith in
    record {
      named = sym (in-turn-on a.recs.now a.places.now a.k (omega arith) (λ j m. before j (omega arith)));
      rows = λ h. rw k at tell;
      seen = λ h. rw k at sees;
    }
