-- `group_kept::noted_at` meets its contract. Assumes nothing.
use mathlib.Core.Path.{sym, subst, ◌∙◌}
use Prim.Native.Nat.{◌≤◌}
use native.Mathlib.Omega.{arith}
use lib.ListN.{length, get_or}
use Rattle.edit_history.specs.EditsHeld.{record_at}
use Rattle.edit_history.proofs.EditsInPlaces.{sets-length}
use Rattle.group_step.specs.GroupRows.{most_sets}
use Rattle.group_limited.specs.LimitedForms.{RowsTell}
use Rattle.group_sight.specs.SightForms.{sets_in, SeesTell}
use Rattle.group_kept.specs.KeptForms.{contexts_at, sees_at}
use Rattle.group_kept.proofs.OneSetMore.{rest-is, lawful-one-more, left-one-more}
use Rattle.group_kept.proofs.noted_at.Goals as goal

pub returns : goal.returns
returns c =
    let s = c in
    let a = s.args in
    let rs = a.recs.now in
    let ps = a.places.now in
    let rows = a.rows.now in
    let ms = sets_in rs ps a.i in
    let e = record_at rs (get_or ps a.i 0) in
    let sight = c.sight_at-s in (
      sight.ensures.0,
      λ proper kept.
          let seen = sight.ensures.1 (subst (SeesTell ms) (sym (rest-is sees_at rows)) kept.sees)
          (lawful-one-more ms e proper) in
          let few : length ms ≤ most_sets
          = omega (arith, sets-length rs ps a.i (omega (arith, s.requires.1)), s.requires.0) in
          record {
            row = seen.plain;
            context =
                c.left_by-own.ensures ms e few (subst (RowsTell ms rows) (sym (rest-is contexts_at rows)) kept.tell)
                seen
                ∙ left-one-more ms e proper;
            seen = seen.seen;
          },
    )
