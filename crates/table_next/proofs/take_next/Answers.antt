-- `table_next::take_next` meets its contract: what an accepted record leaves holds what the index needs to take it
-- in. Assumes nothing.
use mathlib.Core.Path.{refl, sym, ◌∙◌}
use Prim.Native.Nat.{◌≤◌}
use native.Mathlib.Omega.{arith}
use lib.ListN.{length}
use Rattle.std.proofs.lemmas.Result.{err_from_is_err_and}
use Rattle.edit_record.specs.Layout.{record_length}
use Rattle.edit_record.specs.RecordBytes.{decode_of}
use Rattle.edit_record.proofs.RecordSpans.{span-least}
use Rattle.table_drawing.specs.Tables.{tables_of, held_by}
use Rattle.table_drawing.proofs.RefusalNumbers.{refused}
use Rattle.table_soundness.proofs.SoundFacts.{sound-at}
use Rattle.table_arrival.proofs.CodeInHand.{early-refused, holds}
use Rattle.table_arrival.proofs.SixByCounters.{none-of-three}
use Rattle.table_kept.proofs.KeptAlong.{kept_more}
use Rattle.table_plain.proofs.IndexGoesAlong.{counted-on, room-on, holds_on, index_on, numbered-on}
use Rattle.table_next.proofs.take_next.Goals as goal

pub returns-in_err-one_to_three : goal.returns-in_err-one_to_three
returns-in_err-one_to_three c =
    let a = c.args in
    let t = tables_of c.args.c c.args.records.now c.args.objects.now c.args.groups.now in
    let r = c.in_err-one_to_three.field-0.0 in
    let is = c.in_err-one_to_three.ensures.0 in
    let p = err_from_is_err_and c.from_residual.result c.from_residual.ensures.1 in
    rw (p.1, p.2) (
      record {
        outcome = rw is (early-refused t c.requires.0.is_sound a.rec.now (λ z. refused r (is ∙ z)));
        index = λ z. absurd (refused r z);
        starts = λ z. absurd (refused r z);
      },
      kept_more (held_by t) (decode_of a.rec.now) a.kept.now.names a.kept.now.rows c.requires.1,
    )

pub survey-v-requires : goal.survey-v-requires
survey-v-requires c =
    let t = tables_of c.args.c c.args.records.now c.args.objects.now c.args.groups.now in
    let b = c.args.rec.now in
    let (whole, timely) = none-of-three c.args.c b (sym c.in_ok-one_to_three.ensures.0) in
    let long : record_length ≤ length b = omega (arith, whole, span-least b) in (
      holds t c.requires.0.is_sound,
      omega (arith, (sound-at t c.requires.0.is_sound).records-long),
      c.requires.0.index,
      long,
      timely,
      c.requires.0.wide,
    )

pub judge-j-requires : goal.judge-j-requires
judge-j-requires c =
    let a = c.args in
    let t = tables_of c.args.c c.args.records.now c.args.objects.now c.args.groups.now in (
      record {
        counters = a.c;
        counts = a.ix.now.counts;
        holds = holds t c.requires.0.is_sound;
        all = refl;
        index = c.requires.0.index;
      },
      c.survey-v.ensures,
      c.requires.1,
    )

pub accept-requires : goal.accept-requires
accept-requires c =
    record {
      is_sound = c.requires.0.is_sound;
      timely = sym c.in_ok-one_to_three.ensures.0;
      surveyed = c.survey-v.ensures;
      judged = c.judge-j.ensures.0;
      rows = λ h. c.requires.0.apart;
    }

pub returns-in_err-after : goal.returns-in_err-after
returns-in_err-after c =
    let r = c.in_err-after.field-0.0 in
    let p = err_from_is_err_and c.from_residual-in_err-after.result c.from_residual-in_err-after.ensures.1 in
    rw (p.1, p.2) (
      record {
        outcome = c.in_err-after.ensures;
        index = λ z. absurd (refused r z);
        starts = λ z. absurd (refused r z);
      },
      c.judge-j.ensures.1,
    )

pub add-requires : goal.add-requires
add-requires c =
    let a = c.args in
    let t = tables_of c.args.c c.args.records.now c.args.objects.now c.args.groups.now in
    let b = a.rec.now in
    let sound = c.requires.0.is_sound in
    let wide = c.requires.0.wide in
    let ok = c.in_ok-after.ensures in (
      (c.in_ok-after.after, holds_on t sound wide b _ ok, omega (arith, counted-on t sound wide b _ ok)),
      index_on t sound wide b _ ok a.ix.now.places a.ix.now.numbers a.ix.now.counts a.ix.now.chains c.requires.0.index,
      numbered-on t sound wide b _ ok,
      room-on t sound wide b _ ok a.ix.now.places c.requires.0.room,
    )

pub returns : goal.returns
returns c =
    let t = tables_of c.args.c c.args.records.now c.args.objects.now c.args.groups.now in
    let b = c.args.rec.now in
    let ok = c.in_ok-after.ensures in (
      record {
        outcome = ok;
        index = λ y. rw (counted-on t c.requires.0.is_sound c.requires.0.wide b _ ok) c.add.ensures.0;
        starts = λ y. c.add.ensures.2;
      },
      c.judge-j.ensures.1,
    )
