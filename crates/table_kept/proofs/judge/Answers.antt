-- `table_kept::judge` meets its contract. Assumes nothing.
use mathlib.Core.Path.{sym, ap, ◌∙◌}
use mathlib.Core.Bool.{◌||◌}
use borrow.Author.Tests.{not-true}
use Rattle.std.specs.Prelude.{is_some}
use Rattle.math_lists.proofs.Booleans.{neither}
use Rattle.edit_record.specs.RecordBytes.{decode_of}
use Rattle.edit_record.specs.Answer1.{is_limited}
use Rattle.edit_history.specs.EditsHeld.{edits_of}
use Rattle.table_arrival.proofs.JudgedPlainly.{judged-plainly, judged-of-none}
use Rattle.table_kept.proofs.KeptAlong.{kept_more}
use Rattle.table_kept.proofs.judge.Goals as goal

pub returns-in_default : goal.returns-in_default
returns-in_default c =
    let a = c.args in
    let e = decode_of a.rec.now in
    let es = edits_of a.recs.now a.n in
    rw c.in_default.is (judged-of-none es e 0, kept_more es e a.names.now a.rows.now c.requires.2)

pub returns-then-not-limited-h : goal.returns-then-not-limited-h
returns-then-not-limited-h c =
    let a = c.args in
    let h = c.in-Some.h in
    let e = decode_of a.rec.now in
    let es = edits_of a.recs.now a.n in
    let (own, others) = neither (is_limited e) h.limited
    (not-true (is_limited e || h.limited) (rw c.byte_at-limited.ensures at c.if-not-limited-h.true-raw)) in
    rw c.in-Some.is (
      judged-plainly es e h (c.requires.1.whole h c.in-Some.is) own others,
      kept_more es e a.names.now a.rows.now c.requires.2,
    )

pub judge_by_rows-requires : goal.judge_by_rows-requires
judge_by_rows-requires c =
    let h = c.in-Some.h in (
      c.requires.0,
      sym c.requires.1.found ∙ ap is_some c.in-Some.is,
      c.requires.1.whole h c.in-Some.is,
      c.requires.2,
    )

pub returns : goal.returns
returns c = rw c.in-Some.is c.judge_by_rows.ensures
