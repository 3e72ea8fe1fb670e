-- `table_soundness::gathering::tally_set` meets its contract: the tally of the target's place grows by one for a Set,
-- and past the last place there is nothing to tally. Assumes nothing.
use mathlib.Core.Path.{◌∙◌}
use mathlib.Core.Bool.{cond}
use Prim.Native.Nat.{◌+◌, ◌≤◌}
use native.Mathlib.Omega.{arith}
use lib.ListN.{get_or, length}
use lib.Seq.{set_out}
use Rattle.edit_record.specs.Answer1.{is_set}
use Rattle.edit_history.specs.EditsHeld.{record_at}
use Rattle.edit_history.proofs.FieldsInPlace.{kind-in-place, target-in-place, target-seq-in-place}
use Rattle.edit_walk.specs.WalkForms.{place_of}
use Rattle.table_soundness.proofs.CountingPasses.{counted_once, counted_most, aimed-low, aimed_more}
use borrow.Author.Rules.{rules}
use Rattle.table_soundness.proofs.gathering.tally_set.Goals as goal

pub bounds-tallies-p : goal.bounds-tallies-p
bounds-tallies-p c = search (rules, c.requires.3.0)

pub overflow_add-tallies : goal.overflow_add-tallies
overflow_add-tallies c =
    let s = c in
    let a = s.args in
    let p = c.place_at-p.result in
    omega (
      arith,
      aimed-low a.recs.now a.places.now a.tallies.now a.i p s.requires.0 s.requires.2 s.requires.3
          c.if-p-lt-RECORDS.true,
      c.from-more.ensures,
      counted_most c.is_set_kind.result,
    )

pub bounds-tallies-p-then-p-lt-RECORDS : goal.bounds-tallies-p-then-p-lt-RECORDS
bounds-tallies-p-then-p-lt-RECORDS c = search (rules, c.requires.3.0)

pub returns-then-p-lt-RECORDS : goal.returns-then-p-lt-RECORDS
returns-then-p-lt-RECORDS c =
    let s = c in
    let a = s.args in
    rw (
      c.from-more.ensures ∙ counted_once c.is_set_kind.result,
      c.is_set_kind.ensures,
      c.place_at-p.ensures,
      c.pair_at-seq.ensures,
      ← kind-in-place a.recs.now a.i,
      ← target-in-place a.recs.now a.i,
      ← target-seq-in-place a.recs.now a.i,
    )
    (aimed_more a.recs.now a.places.now a.tallies.now a.i s.requires.3)

pub returns-else-p-lt-RECORDS : goal.returns-else-p-lt-RECORDS
returns-else-p-lt-RECORDS c =
    let x = c in
    let s = c in
    let a = s.args in
    let rs = a.recs.now in
    let ts = a.tallies.now in
    let e = record_at rs a.i in
    let p = place_of a.places.now e.tsite.0 e.tseq.0 in
    let seq = x.pair_at-seq.ensures in
    let is = rw (seq, ← target-in-place rs a.i, ← target-seq-in-place rs a.i) at x.place_at-p.ensures in
    let past : length ts ≤ p = omega (arith, is, s.requires.3.0) in
    rw (set_out ts p (get_or ts p 0 + cond (is_set e) 1 0) past) at
    (aimed_more rs a.places.now ts a.i s.requires.3)
