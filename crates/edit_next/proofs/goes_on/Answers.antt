-- `edit_next::goes_on` meets its contract: a record that passes is of a site that has a count, and without room for its
-- edit there is none for all. Assumes nothing.
use mathlib.Core.Path.{◌≡◌, refl, sym, ◌∙◌}
use mathlib.Core.Bool.{true}
use Prim.Native.Nat.{◌<◌, ◌+◌, ◌*◌}
use native.Mathlib.Omega.{arith}
use lib.ListN.{get_or}
use borrow.Author.Tests.{ltb-true, ltb-false}
use Rattle.math_lists.proofs.Booleans.{clash}
use Rattle.edit_record.specs.Layout.{most_sites, place_length, site_at}
use Rattle.edit_history.specs.EditsHeld.{record_at}
use Rattle.edit_walk.specs.WalkForms.{passes_against}
use Rattle.edit_history.proofs.FieldsInPlace.{site-in-place}
use Rattle.edit_walk.proofs.WalkKeeps.{refused, crowded, own-low}
use Rattle.edit_next.proofs.goes_on.Lts
use Rattle.edit_next.proofs.goes_on.Tie
use Rattle.edit_next.proofs.goes_on.Reads
use Rattle.edit_next.proofs.goes_on.Goals as goal

-- the record passes, so that its site has a count
passes-here : (c : (Lts.After-shared_slice_known5 Tie.the-claims Reads.Pre Reads.Post)) →
    let z = c.before.before.before.before.before.before.before in
    let a = z.args in
    passes_against a.sites a.held.now a.recs.now a.places.now (record_at a.recs.now a.i) ≡ true
passes-here c =
    let p = c.is_passing_next in
    sym p.ensures ∙ c.if-not-is_passing_next.false

own-counts : (c : (Lts.After-shared_slice_known5 Tie.the-claims Reads.Pre Reads.Post)) →
    let z = c.before.before.before.before.before.before.before in
    get_or z.args.recs.now (z.args.i * place_length + site_at) 0 < most_sites
own-counts c =
    let z = c.before.before.before.before.before.before.before in
    rw (site-in-place z.args.recs.now z.args.i) at (own-low z.requires.0 z.requires.4 (passes-here c))

pub is_passing_next-requires : goal.is_passing_next-requires
is_passing_next-requires c =
    let z = c.before.before.before.before.before in
    let w = z.requires.4 in (
      z.requires.2,
      z.requires.3,
      w.wide,
      record { few = z.requires.0; pass = w.pass; counted = w.counted; indexed = w.indexed },
    )

pub returns-then-not-is_passing_next : goal.returns-then-not-is_passing_next
returns-then-not-is_passing_next c =
    let z = c.before.before.before.before.before.before.before in
    let p = c.is_passing_next in
    let t = sym p.ensures ∙ c.if-not-is_passing_next.true in
    (λ h. clash h refl, λ h m l y roomy. refused z.requires.0 z.requires.4 m l t y)

pub overflow_cast-own : goal.overflow_cast-own
overflow_cast-own c = omega (arith, own-counts c.before)

pub offset_bounds-held-own : goal.offset_bounds-held-own
offset_bounds-held-own c = omega (arith, own-counts c.before)

pub bounds-held-own : goal.bounds-held-own
bounds-held-own c =
    let z = c.before.before.before.before.before.before.before.before.before in
    omega (arith, own-counts c.before.before, z.requires.4.wide)

pub offset_bounds-room-own : goal.offset_bounds-room-own
offset_bounds-room-own c = omega (arith, own-counts c.before.before)

pub bounds-room-own : goal.bounds-room-own
bounds-room-own c =
    let z = c.before.before.before.before.before.before.before.before.before.before in
    omega (arith, own-counts c.before.before.before, z.requires.1)

pub returns : goal.returns
returns c =
    let k = c.before.before.before in
    let z = k in
    let own = site-in-place z.args.recs.now z.args.i in (
      λ h. (passes-here k, rw own (ltb-true _ _ h)),
      λ h m l y. crowded z.requires.0 z.requires.4 (passes-here k) m l (rw own (ltb-false _ _ h)),
    )
