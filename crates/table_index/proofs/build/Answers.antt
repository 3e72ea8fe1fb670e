-- `table_index::build` meets its contract: after i records, the index is that of the first i. Assumes nothing.
use mathlib.Core.Path.{◌≡◌}
use Prim.Native.Nat.{◌+◌}
use native.Mathlib.Omega.{arith}
use Rattle.edit_walk.specs.WalkForms.{count_in}
use Rattle.edit_walk.proofs.RoomInIndex.{spaced-before, spaced-same}
use Rattle.table_index.proofs.OneRecordMore.{index-starts, none-numbered}
use Rattle.table_index.proofs.build.Goals as goal

pub start_places-requires : goal.start_places-requires
start_places-requires c =
    let s = c in
    let (d, h, e) = s.requires.0 in
    omega (arith, h.few-records, e)

pub loop-i-init : goal.loop-i-init
loop-i-init c =
    let s = c in
    let spaced = c.start_places.ensures in (
      rw (s.requires.1, s.requires.2)
          (index-starts s.args.recs.now _ s.args.ix.now.numbers spaced.entries (omega arith)),
      none-numbered s.args.recs.now,
      spaced,
    )

pub add-m-requires : goal.add-m-requires
add-m-requires c =
    let at = c in
    let l = at.loop-i in
    let s = c in
    let (d, h, e) = s.requires.0 in (
      (d, h, omega (arith, e)),
      l.invariant.0,
      l.invariant.1,
      spaced-before s.args.recs.now l.ix.places (l.i + 1) s.args.n (omega arith) l.invariant.2,
    )

pub loop-i-preserved : goal.loop-i-preserved
loop-i-preserved c =
    let s8 = c in
    let m = s8.add-m.ensures in
    let at = s8 in
    let s = c in (
      m.0,
      m.1,
      spaced-same (count_in s.args.recs.now s.args.n) _ _ m.2 m.0.places-long at.loop-i.invariant.2,
    )

pub returns : goal.returns
returns c =
    let s = c in
    let k : c.loop-i.i ≡ s.args.n = omega arith in
    rw (← k) c.loop-i.invariant.0
