-- `edit_next::is_next_in` meets its contract: a site that has no entry has none that is larger by one. Assumes
-- nothing.
use mathlib.Core.Path.{◌≡◌, sym, ◌∙◌}
use Prim.Native.Nat.{◌*◌, ◌+◌}
use native.Mathlib.Omega.{arith}
use lib.Dec.{eqb}
use lib.ListN.{get_or}
use borrow.Author.Tests.{eq-eqb}
use Rattle.math_lists.proofs.Booleans.{and-on}
use Rattle.edit_record.specs.Layout.{place_length, site_at}
use Rattle.edit_history.specs.EditsHeld.{record_at}
use Rattle.edit_history.proofs.FieldsInPlace.{site-in-place, entry-in-place}
use Rattle.edit_walk.specs.WalkForms.{same_but, is_next}
use Rattle.edit_next.proofs.is_next_in.Goals as goal

pub returns : goal.returns
unfolding is_next
returns c h =
    let z = c in
    let rs = z.args.recs.now in
    let r = z.args.r in
    let p = z.args.p in
    let own = get_or rs (p * place_length + site_at) 0 in
    let v = (record_at rs r).vector in
    let w = (record_at rs p).vector in
    let was = c.pair_at-had.ensures ∙ sym (entry-in-place rs r own (omega arith)) in
    let is = c.pair_at-has.ensures ∙ sym (entry-in-place rs p own (omega arith)) in
    let more : get_or w own 0 ≡ get_or v own 0 + 1 = omega (arith, was, is) in (
      omega arith,
      rw (site-in-place rs p)
          (and-on (eqb (get_or w own 0) (get_or v own 0 + 1)) (same_but v w own) (eq-eqb _ _ more)
          (sym c.is_same_in.ensures ∙ h)),
    )
