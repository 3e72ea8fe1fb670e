-- `edit_walk::count_sites` meets its contract: after i records the counts are theirs. A site without an entry is
-- counted nowhere. Assumes nothing.
use mathlib.Core.Path.{◌≡◌, sym, ◌∙◌}
use Prim.Native.Nat.{◌+◌}
use native.Mathlib.Numerals.{add-one}
use native.Mathlib.Omega.{arith}
use lib.ListN.{get_or, set, length-set}
use lib.Seq.{set_out}
use borrow.Author.Rules.{rules}
use Rattle.edit_history.specs.EditsHeld.{record_at, edits_of}
use Rattle.edit_history.proofs.EditsHeld.{edits-length}
use Rattle.edit_history.proofs.FieldsInPlace.{site-in-place}
use Rattle.edit_history.proofs.ByCounts.{counted_none, counted-few, counted-more}
use Rattle.edit_walk.proofs.count_sites.Goals as goal
use Rattle.edit_walk.proofs.count_sites.Goals.{then-site-lt-SITES, else-site-lt-SITES}

pub loop-i-init : goal.loop-i-init
unfolding edits_of
loop-i-init c = (search rules, counted_none)

pub overflow_add-counts : goal.overflow_add-counts
overflow_add-counts c =
    let l = c.loop-i in
    let rs = c.args.recs.now in
    omega (
      arith,
      counted-few l.counts (edits_of rs l.i) l.invariant.0 l.invariant.1 c.byte_at-site.result,
      edits-length rs l.i,
    )

pub loop-i-preserved : goal.loop-i-preserved
loop-i-preserved c =
    let l = c.loop-i in
    let rs = c.args.recs.now in
    let site = c.byte_at-site.result in
    let more = get_or l.counts site 0 + 1 in
    let e : c.if-site-lt-SITES.counts ≡ set l.counts site more
    = elim c.if-site-lt-SITES.branch [
      | then-site-lt-SITES w ↦ w.counts-is
      | else-site-lt-SITES w ↦ w.counts-is ∙ sym (set_out l.counts site more (omega arith))
    ] in (
      rw e (simp length-set l.invariant.0),
      rw (add-one, e, c.byte_at-site.ensures, ← site-in-place rs l.i)
          (unfold edits_of in counted-more l.counts (edits_of rs l.i) l.invariant.0 l.invariant.1 (record_at rs l.i)),
    )
