-- `table_soundness::gathering::gather` meets its contract: after i records it has what they give. Assumes nothing.
use mathlib.Core.Path.{◌≡◌, refl, sym, ◌∙◌}
use native.Mathlib.Omega.{arith}
use lib.ListN.{length}
use Rattle.edit_history.specs.EditsHeld.{most_records}
use Rattle.edit_history.proofs.FieldsInPlace.{kind-in-place}
use Rattle.edit_walk.proofs.WalkKeeps.{walking-starts}
use Rattle.table_soundness.proofs.CountingPasses.{counted_once, counted_most, creates-le}
use Rattle.table_soundness.proofs.SetTallies.{tallied}
use Rattle.table_soundness.proofs.SoundTests.{targeted}
use Rattle.table_soundness.proofs.GatheredSoFar.{gathering-starts, gathering-more}
use Rattle.table_soundness.proofs.GatheredSoFar.{next_fits, next-targeted}
use borrow.Author.Rules.{rules}
use Rattle.table_soundness.proofs.gathering.gather.Goals as goal

pub space_places-requires : goal.space_places-requires
space_places-requires c =
    let s = c in
    (s.requires.1, s.requires.4)

pub loop-i-init : goal.loop-i-init
loop-i-init c =
    let s = c in
    let a = s.args in (
      walking-starts a.sites _ a.recs.now _ c.space_places.ensures,
      rw s.requires.6 (gathering-starts a.recs.now _ a.earlier.now s.requires.5),
    )

pub is_next_right-requires : goal.is_next_right-requires
is_next_right-requires c =
    let at = c in
    let s = c in
    (s.requires.0, search rules, omega (arith, s.requires.2), omega (arith, s.requires.3), at.loop-i.invariant.0)

pub shape_of-places-then-not-is_next_right : goal.shape_of-places-then-not-is_next_right
shape_of-places-then-not-is_next_right c =
    let at = c in
    at.loop-i.invariant.0.spaced.entries ∙ sym c.requires.4

pub shape_of-earlier-then-not-is_next_right : goal.shape_of-earlier-then-not-is_next_right
shape_of-earlier-then-not-is_next_right c =
    let at = c in
    at.loop-i.invariant.1.long ∙ sym c.requires.5

pub shape_of-tallies-then-not-is_next_right : goal.shape_of-tallies-then-not-is_next_right
shape_of-tallies-then-not-is_next_right c =
    let at = c in
    let long : length c.args.tallies.now ≡ most_records = rw c.requires.6 refl in
    at.loop-i.invariant.1.aimed.0 ∙ sym long

pub returns-then-not-is_next_right : goal.returns-then-not-is_next_right
returns-then-not-is_next_right c =
    c.is_next_right.ensures.1 c.if-not-is_next_right.true _ c.loop-i-test.true

pub sum_more-sum-requires : goal.sum_more-sum-requires
sum_more-sum-requires c =
    let at = c in
    let s = c in
    let r = c.is_next_right in
    let goes = (r.ensures.0 (c.if-not-is_next_right.false)).0 in (
      at.loop-i.invariant.1.sum,
      omega (arith, s.requires.3),
      omega (arith, s.requires.2),
      next_fits s.requires.0 at.loop-i.invariant.0 goes,
    )

pub tally_set-requires : goal.tally_set-requires
tally_set-requires c =
    let at = c in
    let s = c in
    let r = c.is_next_right in
    let goes = (r.ensures.0 (c.if-not-is_next_right.false)).0 in (
      omega (arith, s.requires.2),
      omega (arith, s.requires.3),
      next-targeted s.requires.0 at.loop-i.invariant.0 goes,
      at.loop-i.invariant.1.aimed,
    )

pub overflow_cast-earlier : goal.overflow_cast-earlier
overflow_cast-earlier c =
    let late = c in
    let at = late in
    let few = creates-le c.args.recs.now at.loop-i.i in
    omega (arith, at.loop-i.invariant.1.made, few, c.requires.2)

pub bounds-earlier-i : goal.bounds-earlier-i
bounds-earlier-i c =
    let late = c in
    let at = late in
    omega (arith, at.loop-i.invariant.1.long, c.requires.2)

pub overflow_add-creates : goal.overflow_add-creates
overflow_add-creates c =
    let late = c in
    let at = late in
    let few = creates-le c.args.recs.now at.loop-i.i in
    omega (arith, at.loop-i.invariant.1.made, few, c.requires.2, c.from-creates.ensures, counted_most)

pub put_next-requires : goal.put_next-requires
put_next-requires c =
    let late = c in
    let at = late in
    let s = c in
    let r = late.is_next_right in
    let goes = (r.ensures.0 (late.if-not-is_next_right.false)).0 in
    let below = late.loop-i-test.true in (
      omega (arith, below, s.requires.2),
      omega (arith, below, s.requires.3),
      (s.args.sites, _, s.requires.0, at.loop-i.invariant.0, goes),
    )

pub loop-i-preserved : goal.loop-i-preserved
loop-i-preserved c =
    let late = c in
    let sums = late in
    let at = sums in
    let s = c in
    let rs = s.args.recs.now in
    let r = sums.is_next_right in
    let (goes, rest) = r.ensures.0 (sums.if-not-is_next_right.false) in
    let w = at.loop-i.invariant.0 in
    let on = c.put_next.ensures s.args.sites _ s.requires.0 w goes in
    let tallies = late.tally_set in
    let below = sums.loop-i-test.true in (
      on,
      rw (c.from-creates.ensures ∙ counted_once _, ← kind-in-place rs at.loop-i.i)
          (gathering-more s.requires.0 w goes at.loop-i.invariant.1 (omega (arith, below, s.requires.2)) rest
          sums.sum_more-sum.ensures tallies.ensures on),
    )

pub shape_of-places : goal.shape_of-places
shape_of-places c = c.loop-i.invariant.0.spaced.entries ∙ sym c.requires.4

pub shape_of-earlier : goal.shape_of-earlier
shape_of-earlier c = c.loop-i.invariant.1.long ∙ sym c.requires.5

pub shape_of-tallies : goal.shape_of-tallies
shape_of-tallies c =
    let s = c in
    let long : length s.args.tallies.now ≡ most_records = rw s.requires.6 refl in
    c.loop-i.invariant.1.aimed.0 ∙ sym long

pub returns : goal.returns
returns c =
    let s = c in
    let a = s.args in
    let l = c.loop-i in
    let k : l.i ≡ a.n = omega arith in
    let w = rw k at l.invariant.0 in
    let g = rw k at l.invariant.1 in
    let rs = a.recs.now in
    let targets = targeted a.sites rs a.n w.pass in (
      record {
        pass = w.pass;
        rests = g.rests;
        counted = w.counted;
        sum = g.sum;
        made = g.made;
        numbered = g.numbered;
        tallied = tallied rs l.places a.n w.indexed targets l.tallies s.requires.2 g.aimed;
      },
      w.indexed,
    )
