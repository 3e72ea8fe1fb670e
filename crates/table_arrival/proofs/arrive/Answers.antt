-- `table_arrival::arrive` meets its contract. Assumes nothing.
use mathlib.Core.Path.{refl, sym, ap, ◌∙◌}
use mathlib.Core.Bool.{cond}
use Prim.Native.Nat.{ℕ}
use native.Mathlib.Omega.{arith}
use Rattle.math_lists.proofs.Booleans.{clash}
use Rattle.edit_history.specs.Answer16.{records_named}
use Rattle.edit_record.proofs.RecordSpans.{span-least}
use Rattle.table_drawing.specs.Tables.{tables_of}
use Rattle.table_drawing.proofs.RefusalNumbers.{refused}
use Rattle.table_soundness.proofs.SoundFacts.{but-at, but-off, named-decides}
use Rattle.table_arrival.specs.Arrival.{arrival_of}
use Rattle.table_arrival.proofs.CodeInHand.{but-holds, early-answered, not_named}
use Rattle.table_arrival.proofs.SixByCounters.{none-of-three}
use Rattle.table_arrival.proofs.arrive.Goals as goal

pub returns-then-not-is_sound_but_named : goal.returns-then-not-is_sound_but_named
unfolding arrival_of
returns-then-not-is_sound_but_named c =
    let t = tables_of c.args.c c.args.records.now c.args.objects.now c.args.groups.now in
    let y = c.is_sound_but_named in
    rw (sym (but-off t y.result y.ensures.0 c.if-not-is_sound_but_named.true))

pub refusal_where_named-requires : goal.refusal_where_named-requires
refusal_where_named-requires c =
    let t = tables_of c.args.c c.args.records.now c.args.objects.now c.args.groups.now in
    let yes = c.if-not-is_sound_but_named.false in
    let but = but-at t (sym c.is_sound_but_named.ensures.0 ∙ yes) in
    (but-holds t but, c.is_sound_but_named.ensures.1 yes)

pub returns-in-Err : goal.returns-in-Err
returns-in-Err c =
    let t = tables_of c.args.c c.args.records.now c.args.objects.now c.args.groups.now in
    let y = c.is_sound_but_named in
    let is = c.in-Err.ensures.0 in
    early-answered t y.result y.ensures.0 c.if-not-is_sound_but_named.false c.args.rec.now _
    (λ z. refused c.in-Err.r (is ∙ z))
    (c.refusal_where_named.ensures ∙ ap (λ (x : ℕ). cond (records_named t.records t.counters.records) x 8) is)

pub survey-v-requires : goal.survey-v-requires
survey-v-requires c =
    let t = tables_of c.args.c c.args.records.now c.args.objects.now c.args.groups.now in
    let b = c.args.rec.now in
    let yes = c.if-not-is_sound_but_named.false in
    let but = but-at t (sym c.is_sound_but_named.ensures.0 ∙ yes) in
    let (whole, in-turn) = none-of-three c.args.c b (sym c.in_default.ensures.0) in (
      but-holds t but,
      omega (arith, but.records-long),
      c.is_sound_but_named.ensures.1 yes,
      omega (arith, whole, span-least b),
      in-turn,
      c.in_default.ensures.1,
    )

pub judge-requires : goal.judge-requires
judge-requires c =
    let t = tables_of c.args.c c.args.records.now c.args.objects.now c.args.groups.now in
    let b = c.args.rec.now in
    let yes = c.if-not-is_sound_but_named.false in
    let but = but-at t (sym c.is_sound_but_named.ensures.0 ∙ yes) in
    let (whole, _) = none-of-three c.args.c b (sym c.in_default.ensures.0) in (
      but-holds t but,
      c.is_sound_but_named.ensures.1 yes,
      omega (arith, whole, span-least b),
      c.survey-v.ensures,
    )

pub returns-in_default-judge : goal.returns-in_default-judge
returns-in_default-judge c =
    let t = tables_of c.args.c c.args.records.now c.args.objects.now c.args.groups.now in
    let y = c.is_sound_but_named in
    not_named t y.result y.ensures.0 c.if-not-is_sound_but_named.false c.args.rec.now _
    c.in_default-judge.ensures.named refl

pub accept-requires : goal.accept-requires
accept-requires c =
    let t = tables_of c.args.c c.args.records.now c.args.objects.now c.args.groups.now in
    let y = c.is_sound_but_named in
    let j = c.in-Some.ensures in
    record {
      is_sound = sym (named-decides t y.result _ y.ensures.0 c.if-not-is_sound_but_named.false j.named);
      timely = sym c.in_default.ensures.0;
      surveyed = c.survey-v.ensures;
      judged = j.judged _ refl;
      rows = λ h. clash h refl;
    }

pub returns : goal.returns
unfolding arrival_of
returns c =
    let t = tables_of c.args.c c.args.records.now c.args.objects.now c.args.groups.now in
    let y = c.is_sound_but_named in
    let named = c.in-Some.ensures.named in
    rw (sym (named-decides t y.result _ y.ensures.0 c.if-not-is_sound_but_named.false named)) c.accept.ensures
