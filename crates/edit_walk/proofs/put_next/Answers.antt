-- `edit_walk::put_next` meets its contract: the record's site has a count and its edit a slot, and with both the walk
-- has one record more. Assumes nothing.
use mathlib.Core.Path.{◌≡◌}
use mathlib.Core.List.{List}
use Prim.Native.Nat.{ℕ, ◌+◌, ◌*◌, ◌<◌}
use native.Mathlib.Numerals.{add-one}
use native.Mathlib.Omega.{arith}
use lib.ListN.{length, get_or}
use Rattle.edit_record.specs.Layout.{most_sites, place_length, site_at, seq_at}
use Rattle.edit_record.specs.RecordBytes.{two}
use Rattle.edit_history.proofs.FieldsInPlace.{site-in-place, seq-in-place}
use Rattle.edit_walk.specs.WalkForms.{places_length, slot_of}
use Rattle.edit_walk.proofs.WalkKeeps.{walking-more, held-few, own-low, slot-more}
use Rattle.edit_walk.proofs.put_next.Lts
use Rattle.edit_walk.proofs.put_next.Tie
use Rattle.edit_walk.proofs.put_next.Reads
use Rattle.edit_walk.proofs.put_next.Goals as goal

module _ (s : (Lts.Start Tie.the-claims Reads.Pre Reads.Post)) where
  abbrev rs : List ℕ
  rs = s.args.recs.now

  abbrev here : ℕ
  here = s.args.i * place_length

  -- where the record has its site and its number
  abbrev own : ℕ
  own = get_or rs (here + site_at) 0

  abbrev slot : ℕ
  slot = slot_of s.args.places.now own (two rs (here + seq_at))

  own-counts : own < most_sites
  own-counts =
      let (sites, room, few, w, goes) = s.requires.2 in
      rw (site-in-place rs s.args.i) at (own-low few w goes.0)

  few-counted : get_or s.args.held.now own 0 < 65535
  few-counted =
      let (sites, room, few, w, goes) = s.requires.2 in
      omega (arith, held-few few w own, s.requires.0)

  slot-fits : slot < places_length
  slot-fits =
      let (sites, room, few, w, goes) = s.requires.2 in
      rw (site-in-place rs s.args.i, seq-in-place rs s.args.i) at (slot-more few w goes.0 goes.1)

  counts-long : length s.args.held.now ≡ most_sites
  counts-long = let (sites, room, few, w, goes) = s.requires.2 in w.wide

  places-long : length s.args.places.now ≡ places_length
  places-long = let (sites, room, few, w, goes) = s.requires.2 in w.spaced.entries

pub bounds-places-start : goal.bounds-places-start
bounds-places-start c =
    let s = c.before.before.before.before.before.before.before in
    omega (arith, slot-fits s, places-long s, c.pair_at-seq.ensures)

pub bounds-held-own : goal.bounds-held-own
bounds-held-own c =
    let s = c.before.before.before.before.before.before.before.before in
    omega (arith, own-counts s, counts-long s)

pub overflow_add-held : goal.overflow_add-held
overflow_add-held c = omega (arith, few-counted c.before.before.before.before.before.before.before.before)

pub bounds-held-own-2 : goal.bounds-held-own-2
bounds-held-own-2 c =
    let s = c.before.before.before.before.before.before.before.before in
    omega (arith, own-counts s, counts-long s)

pub returns : goal.returns
returns c sites room few w goes =
    let s = c.before.before.before.before.before.before.before.before in
    rw (
      add-one,
      ← site-in-place (rs s) s.args.i,
      c.pair_at-seq.ensures,
      ← seq-in-place (rs s) s.args.i,
    )
    (walking-more few w goes.0 goes.1)
