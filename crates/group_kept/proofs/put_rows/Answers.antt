-- `group_kept::put_rows` meets its contract: after i places, the rows of their Sets are put down, where these are
-- proper. Assumes nothing.
use mathlib.Core.Path.{◌≡◌, refl, sym, ap, subst, ◌∙◌}
use mathlib.Core.List.{List, [], ◌∷◌}
use Prim.Native.Nat.{◌<◌}
use native.Mathlib.Numerals.{add-one}
use native.Mathlib.Omega.{arith}
use lib.ListN.{length, get_or, drop}
use Rattle.edit_record.specs.declared.Edit.{Edit}
use Rattle.edit_causal.specs.ConflictForms.{Proper}
use Rattle.edit_history.specs.EditsHeld.{record_at}
use Rattle.edit_history.proofs.EditsInPlaces.{sets-length}
use Rattle.group_sight.specs.SightForms.{sets_in}
use Rattle.group_sight.proofs.OneMoreTaken.{sets_more}
use Rattle.group_limited.proofs.NamedInTurn.{first-proper}
use Rattle.group_limited.proofs.RowsInPlaces.{no_rows, none-sees}
use Rattle.group_kept.specs.KeptForms.{contexts_at, sees_at, RowsKept}
use Rattle.group_kept.proofs.put_rows.Goals as goal

pub loop-i-init : goal.loop-i-init
loop-i-init c =
    let rows = c.args.rows.now in (
      refl,
      λ p. record { tell = no_rows rows (drop contexts_at rows); sees = none-sees (drop sees_at rows) },
    )

pub noted_at-t-requires : goal.noted_at-t-requires
noted_at-t-requires c =
    let s = c in
    let l = c.loop-i in
    let more = c.loop-i-test.true in (
      omega (arith, s.requires.0, more),
      omega (arith, s.requires.1, more),
      omega (arith, s.requires.2, more),
      l.invariant.0 ∙ s.requires.3,
      λ j m. s.requires.4 j (omega (arith, more)),
    )

pub put_down-requires : goal.put_down-requires
put_down-requires c =
    let s = c in
    let l = c.loop-i in
    let more = c.loop-i-test.true in
    (omega (arith, s.requires.0, more), l.invariant.0 ∙ s.requires.3, c.noted_at-t.ensures.0)

pub loop-i-preserved : goal.loop-i-preserved
loop-i-preserved c =
    let s = c in
    let l = c.loop-i in
    let more = c.loop-i-test.true in
    let put = c.put_down in
    let rs = s.args.recs.now in
    let ps = s.args.places.now in
    let ms = sets_in rs ps l.i in
    let e = record_at rs (get_or ps l.i 0) in
    let there : l.i < length ps = omega (arith, more, s.requires.1) in
    let grown = ap (sets_in rs ps) (add-one l.i) ∙ sets_more rs ps l.i there in (
      put.auto.rows ∙ l.invariant.0,
      λ proper.
          let p = subst Proper grown proper in
          let before = l.invariant.1 (first-proper ms (e ∷ []) p) in
          subst (λ (xs : List Edit). RowsKept xs put.new.rows) (sym grown)
          (put.ensures ms e (sets-length rs ps l.i (omega (arith, there))) before
          (c.noted_at-t.ensures.1 p before)),
    )

pub returns : goal.returns
returns c proper =
    let l = c.loop-i in
    let a = c.args in
    let done : l.i ≡ a.k = omega arith in
    let kept : Proper (sets_in a.recs.now a.places.now a.k)
    → RowsKept (sets_in a.recs.now a.places.now a.k) l.rows
    = rw done at l.invariant.1 in
    kept proper
