-- `table_arrival::judging::judge` meets its contract. Assumes nothing.
use mathlib.Core.Path.{◌≡◌, ◌∙◌}
use mathlib.Core.Bool.{true, false}
use borrow.Author.Tests.{ne_eqb}
use Rattle.edit_record.specs.Layout.{limited_kind}
use Rattle.edit_record.specs.RecordBytes.{decode_of}
use Rattle.edit_record.specs.Answer1.{is_limited}
use Rattle.edit_history.specs.EditsHeld.{edits_of}
use Rattle.table_arrival.proofs.JudgedPlainly.{judged-plainly, judged-of-none, tested-plainly}
use Rattle.table_arrival.proofs.JudgedByRows.{target-held, sets-counted}
use Rattle.table_arrival.proofs.judging.judge.Goals as goal

pub returns-in_default : goal.returns-in_default
returns-in_default c =
    let a = c.args in
    let e = decode_of a.rec.now in
    let j = c.judge_plainly in
    rw c.in_default.is
    (tested-plainly false a.recs.now a.c.records e 0 j.result j.ensures.0 j.ensures.1
    (judged-of-none (edits_of a.recs.now a.c.records) e 0))

pub judge_by_rows-requires : goal.judge_by_rows-requires
judge_by_rows-requires c =
    let a = c.args in
    let es = edits_of a.recs.now a.c.records in
    let e = decode_of a.rec.now in (
      c.requires.0,
      c.requires.1,
      c.requires.2,
      target-held es e a.v c.requires.3 c.in-Some.h c.in-Some.is,
      sets-counted es e a.v c.requires.3 c.in-Some.h c.in-Some.is,
    )

pub judge_by_rows-requires-then-h : goal.judge_by_rows-requires-then-h
judge_by_rows-requires-then-h c =
    let a = c.args in
    let es = edits_of a.recs.now a.c.records in
    let e = decode_of a.rec.now in (
      c.requires.0,
      c.requires.1,
      c.requires.2,
      target-held es e a.v c.requires.3 c.in-Some.h c.in-Some.is,
      sets-counted es e a.v c.requires.3 c.in-Some.h c.in-Some.is,
    )

pub returns : goal.returns
returns c =
    let a = c.args in
    let e = decode_of a.rec.now in
    let h = c.in-Some.h in
    let j = c.judge_plainly-2 in
    let own : is_limited e ≡ false
    = ne_eqb e.kind limited_kind (λ y. c.if-limited.false (c.byte_at-limited.ensures ∙ y)) in
    rw c.in-Some.is
    (tested-plainly true a.recs.now a.c.records e h.plain j.result j.ensures.0 j.ensures.1
    (judged-plainly (edits_of a.recs.now a.c.records) e h (c.requires.3.whole h c.in-Some.is) own c.if-h.false))
