-- `table_plain::take_plain` meets its contract: what was found of the record is what taking it needs, and what it
-- writes is what that leaves. Assumes nothing.
use mathlib.Core.Path.{◌≡◌, ap, ◌∙◌}
use mathlib.Core.List.{List}
use Prim.Native.Nat.{ℕ, ◌≤◌}
use native.Mathlib.Omega.{arith}
use lib.ListN.{length}
use Rattle.edit_record.specs.Layout.{record_length}
use Rattle.table_soundness.proofs.SoundFacts.{sound-at}
use Rattle.table_arrival.specs.Arrival.{put_record}
use Rattle.table_plain.proofs.PlainGoes.{span-is, long-is, store_asks, not-stored, enters, stored-left}
use Rattle.table_plain.proofs.take_plain.Goals as goal
use Rattle.table_plain.proofs.take_plain.Goals.{Start}

-- ---- where things stand

long_of : (s : Start) → length s.args.rec.now ≡ record_length
long_of s =
    let a = s.args in
    long-is a.sites a.n a.m a.sum a.held.now a.records.now a.objects.now a.groups.now
    a.ix.now.places a.ix.now.numbers a.ix.now.counts a.ix.now.chains a.rec.now s.requires.0 a.a s.requires.1

there : (s : Start) → record_length ≤ length s.args.rec.now
there s = omega (arith, long_of s)

pub store-requires : goal.store-requires
store-requires c =
    let s = c in
    let a = s.args in (
      s.requires.0.few,
      there (goal.at.store-requires c).Start,
      store_asks a.sites a.n a.m a.sum a.held.now a.records.now a.objects.now a.groups.now
          a.ix.now.places a.ix.now.numbers a.ix.now.counts a.ix.now.chains a.rec.now s.requires.0 a.a s.requires.1,
    )

pub returns-then-not-store : goal.returns-then-not-store
returns-then-not-store c =
    let w = c in
    let s = c in
    let a = s.args in
    rw w.store.ensures.1
    (not-stored a.sites a.n a.m a.sum a.held.now a.records.now a.objects.now a.groups.now
    a.ix.now.places a.ix.now.numbers a.ix.now.counts a.ix.now.chains a.rec.now s.requires.0 a.a s.requires.1 _ _ _ _ _
    (rw (c.if-not-store.true) at w.store.ensures.0))

pub enter-requires : goal.enter-requires
enter-requires c =
    let w = c in
    let s = c in
    let a = s.args in (
      there (goal.at.enter-requires c).Start,
      rw w.store.ensures.1
          (enters a.sites a.n a.m a.sum a.held.now a.records.now a.objects.now a.groups.now
          a.ix.now.places a.ix.now.numbers a.ix.now.counts a.ix.now.chains a.rec.now s.requires.0 a.a s.requires.1 _ _ _ _ _
          (rw (c.if-not-store.false) at w.store.ensures.0)),
    )

pub whole_of-whole-requires : goal.whole_of-whole-requires
whole_of-whole-requires c = long_of (goal.at.whole_of-whole-requires c).Start

pub put_plain-requires : goal.put_plain-requires
put_plain-requires c =
    let s = c in
    (s.requires.0.few, (sound-at _ s.requires.0.takes.is_sound).records-long)

pub taken-requires : goal.taken-requires
taken-requires c =
    let s = c in
    let a = s.args in (
      long_of (goal.at.taken-requires c).Start,
      span-is a.sites a.n a.m a.sum a.held.now a.records.now a.objects.now a.groups.now
          a.ix.now.places a.ix.now.numbers a.ix.now.counts a.ix.now.chains a.rec.now s.requires.0 a.a s.requires.1,
      s.requires.1.create-room,
    )

pub returns : goal.returns
returns c =
    let w = c in
    let s = c in
    let a = s.args in
    let put = c.put_plain.ensures
    ∙ ap (λ (b : List ℕ). put_record a.records.now a.n b) c.whole_of-whole.ensures in
    let n = c.enter.ensures in
    let at = rw w.store.ensures.1 at n.1 in
    let x = c.taken.ensures in
    (stored-left a.sites a.n a.m a.sum a.held.now a.records.now a.objects.now a.groups.now
    a.ix.now.places a.ix.now.numbers a.ix.now.counts a.ix.now.chains a.rec.now s.requires.0 a.a s.requires.1 _ _ _ _ _
    (rw (c.if-not-store.false) at w.store.ensures.0) _ _ _ _ _ n.0 put at
    x.0 x.1)
