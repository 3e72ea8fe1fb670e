-- `table_replay::count_stretch` meets its contract: after i records the counts are theirs. A site without an entry is
-- counted nowhere. Assumes nothing.
use mathlib.Core.Path.{◌≡◌, refl, sym, ap, ◌∙◌}
use mathlib.Core.List.{List}
use Prim.Native.Nat.{ℕ, ◌+◌}
use native.Mathlib.Numerals.{add-one}
use native.Mathlib.Omega.{arith}
use lib.ListN.{get_or, set, length-set}
use lib.Seq.{set_out}
use borrow.Author.Rules.{rules}
use Rattle.edit_record.specs.Layout.{site_at}
use Rattle.edit_record.specs.RecordBytes.{decode_of}
use Rattle.edit_form.specs.OldForm.{start_of, stored_in}
use Rattle.edit_form.proofs.Stretches.{lent_is, next_start, start-inside, next-inside, lent-there}
use Rattle.edit_history.proofs.ByCounts.{counted_none, counted-few, counted-more}
use Rattle.table_given.specs.Replay.{edits_in}
use Rattle.table_replay.proofs.RoomForAll.{edits-in-length}
use Rattle.table_replay.proofs.count_stretch.Goals as goal
use Rattle.table_replay.proofs.count_stretch.Goals.{then-site-lt-SITES, else-site-lt-SITES}

pub loop-init : goal.loop-init
unfolding edits_in start_of
loop-init c = (refl, search rules, counted_none)

pub slice_bounds-rest-count : goal.slice_bounds-rest-count
slice_bounds-rest-count c =
    let a = c.args in
    let l = c.loop in
    start-inside a.form a.recs.now l.counter l.at l.invariant.0 a.n c.loop-test.true c.requires.1

pub slice_bounds-rest-start : goal.slice_bounds-rest-start
slice_bounds-rest-start c =
    let a = c.args in
    let l = c.loop in
    start-inside a.form a.recs.now l.counter l.at l.invariant.0 a.n c.loop-test.true c.requires.1

pub site_from-site-requires : goal.site_from-site-requires
site_from-site-requires c =
    let a = c.args in
    let l = c.loop in
    lent-there a.form a.recs.now l.counter l.at l.invariant.0 a.n c.loop-test.true c.requires.1

pub overflow_add-at : goal.overflow_add-at
overflow_add-at c =
    let a = c.args in
    let l = c.loop in
    let next = next-inside a.form a.recs.now l.counter l.at l.invariant.0 a.n c.loop-test.true c.requires.1
    c.length_from-at.result c.length_from-at.ensures in
    omega (arith, next)

pub overflow_add-counts : goal.overflow_add-counts
overflow_add-counts c =
    let a = c.args in
    let l = c.loop in
    let es = edits_in (stored_in a.form a.recs.now) l.counter in
    omega (
      arith,
      counted-few l.counts es l.invariant.1 l.invariant.2 c.site_from-site.result,
      edits-in-length (stored_in a.form a.recs.now) l.counter,
      c.requires.0,
      c.loop-test.true,
    )

pub loop-preserved : goal.loop-preserved
loop-preserved c =
    let a = c.args in
    let l = c.loop in
    let recs = a.recs.now in
    let rs = stored_in a.form recs in
    let site = c.site_from-site.result in
    let is : site ≡ get_or (rs l.counter) site_at 0
    = c.site_from-site.ensures
    ∙ ap (λ (b : List ℕ). get_or b site_at 0) (lent_is a.form recs l.counter l.at l.invariant.0 _ refl) in
    let more = get_or l.counts site 0 + 1 in
    let e : c.if-site-lt-SITES.counts ≡ set l.counts site more
    = elim c.if-site-lt-SITES.branch [
      | then-site-lt-SITES w ↦ w.counts-is
      | else-site-lt-SITES w ↦ w.counts-is ∙ sym (set_out l.counts site more (omega arith))
    ] in (
      rw (add-one l.counter)
          (next_start a.form recs l.counter l.at l.invariant.0 c.length_from-at.result c.length_from-at.ensures),
      rw e (simp length-set l.invariant.1),
      rw (add-one, e, is)
          (unfold edits_in in
          counted-more l.counts (edits_in rs l.counter) l.invariant.1 l.invariant.2 (decode_of (rs l.counter))),
    )

pub returns : goal.returns
returns c =
    let k : c.loop.counter ≡ c.args.n = omega arith in
    rw (← k) c.loop.invariant.2
