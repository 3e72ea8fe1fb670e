-- `table_next::take_short` meets its contract. Assumes nothing.
use mathlib.Core.Path.{refl}
use Prim.Native.Nat.{◌≤◌}
use native.Mathlib.Omega.{arith}
use lib.ListN.{length}
use Rattle.math_lists.proofs.Booleans.{clash, neither}
use Rattle.edit_record.specs.Layout.{record_length}
use Rattle.edit_record.specs.RecordBytes.{decode_of}
use Rattle.edit_record.specs.Answer1.{is_limited}
use Rattle.edit_record.proofs.RecordSpans.{span-least}
use Rattle.edit_history.specs.EditsHeld.{edits_of}
use Rattle.table_soundness.proofs.SoundFacts.{sound-at}
use Rattle.table_index.proofs.LookByIndex.{fit_of}
use Rattle.table_plain.proofs.PlainGoes.{look-asks}
use Rattle.table_next.proofs.LimitedTaken.{set-where, kept_either}
use borrow.Author.Rules.{rules}
use Rattle.table_next.proofs.short.take_short.Goals as goal
use Rattle.table_next.proofs.short.take_short.Goals.{Start}

there : (s : Start) → record_length ≤ length s.args.rec.now
there s = omega (arith, s.requires.0.whole, span-least s.args.rec.now)

pub look-requires : goal.look-requires
look-requires c =
    let s = c in
    let a = s.args in (
      look-asks a.sites a.n a.m a.sum a.held.now a.records.now a.objects.now a.groups.now s.requires.0.takes.is_sound,
      omega (arith, (sound-at _ s.requires.0.takes.is_sound).records-long),
      s.requires.0.takes.index,
      there (goal.at.look-requires c).Start,
      s.requires.0.takes.wide,
    )

pub returns-in_default : goal.returns-in_default
returns-in_default c =
    let s = c in (
      record { taken = λ y. clash y refl; tables = λ y. refl; index = λ y. (refl, refl, refl, refl) },
      s.requires.1,
    )

pub bounds-rec-0 : goal.bounds-rec-0
bounds-rec-0 c =
    let long = there (goal.at.bounds-rec-0 c).Start in
    search (rules, long)

pub take_limited-requires : goal.take_limited-requires
take_limited-requires c =
    let i = c in
    let s = c in
    let a = s.args in
    let f = c.in-Some.ensures in (
      s.requires.0,
      f,
      set-where a.sites a.n a.m a.records.now a.ix.now.places a.ix.now.numbers a.ix.now.counts
          (decode_of a.rec.now) c.in-Some.a f i.if-a-kind.true,
      s.requires.1,
    )

pub returns-then-a-kind : goal.returns-then-a-kind
returns-then-a-kind c = c.take_limited.ensures

pub take_plain-requires : goal.take_plain-requires
take_plain-requires c =
    let i = c in
    let s = c in
    let a = s.args in
    let f = c.in-Some.ensures in
    let (none, plain) = neither c.in-Some.a.limited (is_limited (decode_of a.rec.now)) i.if-a-kind.false in (
      s.requires.0,
      fit_of a.sites a.n a.m a.records.now a.ix.now.places a.ix.now.numbers a.ix.now.counts
          (decode_of a.rec.now)
          c.in-Some.a f plain none,
    )

pub returns : goal.returns
returns c =
    let t = c.take_plain in
    let a = c.args in (
      t.ensures,
      kept_either t.result (edits_of a.records.now a.n) (decode_of a.rec.now) a.kept.now.names a.kept.now.rows
          c.requires.1,
    )
