-- `block_trailer::is_unfit` meets its contract: the tests are the definition's, in its order, and what is lent of the
-- file for the walk is its stretch. Assumes nothing.
use mathlib.Core.Path.{◌≡◌, sym}
use mathlib.Core.Bool.{true, false, ◌||◌}
use Prim.Native.Nat.{◌≤◌}
use lib.ListN.{length}
use lib.Dec.{ltb}
use borrow.Author.Rules.{rules}
use borrow.Author.Tests.{ltb-false}
use Rattle.math_lists.proofs.Booleans.{neither}
use Rattle.edit_form.specs.OldForm.{long_form}
use Rattle.edit_history.specs.EditsHeld.{most_records}
use Rattle.block_trailer.specs.Trailer.{trailer_length}
use Rattle.block_trailer.proofs.LocatingOutcomes.{unfit_before, unfit-at-once, unfit-by-walk}
use Rattle.block_trailer.proofs.is_unfit.Lts
use Rattle.block_trailer.proofs.is_unfit.Tie
use Rattle.block_trailer.proofs.is_unfit.Reads
use Rattle.block_trailer.proofs.is_unfit.Goals as goal

-- the distance does not reach before the file's start
near : (c : (Lts.Else1 Tie.the-claims Reads.Pre Reads.Post)) → c.distance_at-distance.result ≤ c.trailer_at-at.result
near c =
    let d = c.before in
    let b = d in
    let r = b in
    let t = r in
    let n = length t.args.file.now in
    let far = ltb t.trailer_at-at.result d.distance_at-distance.result in
    ltb-false t.trailer_at-at.result d.distance_at-distance.result
    (neither
    (ltb n trailer_length || ltb most_records r.two_at-records.result || ltb long_form b.byte_at-form.result)
    far
    c.if-n-records.false
    ).1

pub returns-then-n-records : goal.returns-then-n-records
returns-then-n-records c =
    let d = c.before.before in
    let b = d in
    let r = b in
    let file = r.args.file.now in
    let tested : unfit_before file ≡ true =
    rw (
      ← r.trailer_at-at.ensures,
      ← r.two_at-records.ensures,
      ← b.byte_at-form.ensures,
      ← d.distance_at-distance.ensures,
    )
    c.if-n-records.true in
    sym (unfit-at-once file tested)

pub overflow_sub-start : goal.overflow_sub-start
overflow_sub-start c = near c.before

pub slice_bounds-is_filled-count : goal.slice_bounds-is_filled-count
slice_bounds-is_filled-count c = search (rules, near c.before)

pub slice_bounds-is_filled-start : goal.slice_bounds-is_filled-start
slice_bounds-is_filled-start c = search (rules, near c.before)

pub slice_bounds-is_filled-end : goal.slice_bounds-is_filled-end
slice_bounds-is_filled-end c = search (rules, c.trailer_at-at.ensures)

pub is_filled-requires : goal.is_filled-requires
is_filled-requires c = search (rules, near c.before.before)

pub returns : goal.returns
returns c =
    let i = c.before.before.before in
    let d = i in
    let b = d in
    let r = b in
    let file = r.args.file.now in
    let tested : unfit_before file ≡ false =
    rw (
      ← r.trailer_at-at.ensures,
      ← r.two_at-records.ensures,
      ← b.byte_at-form.ensures,
      ← d.distance_at-distance.ensures,
    )
    i.if-n-records.false in
    unfit-by-walk file c.is_filled.result tested
    (rw (
      ← r.trailer_at-at.ensures,
      ← r.two_at-records.ensures,
      ← b.byte_at-form.ensures,
      ← d.distance_at-distance.ensures,
    )
    c.is_filled.ensures)
