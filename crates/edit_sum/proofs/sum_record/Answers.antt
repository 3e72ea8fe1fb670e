-- `edit_sum::sum_record` meets its contract: a record that is no limited Set has the words of the fields. Assumes
-- nothing.
use Rattle.std.proofs.Common.{◌∙◌, arith}
use Rattle.edit_record.proofs.AgreeingBytes.{limits-off, span-plain}
use Rattle.edit_sum.proofs.sum_record.Goals as goal

pub returns-then-byte_at-eq-LIMITED : goal.returns-then-byte_at-eq-LIMITED
returns-then-byte_at-eq-LIMITED c = c.sum_words.ensures ∙ rw c.span_of.ensures

pub sum_words-requires-2 : goal.sum_words-requires-2
sum_words-requires-2 c =
    let s = c in
    let rec = s.args.rec.now in
    omega (arith, s.requires, span-plain rec (limits-off rec _ c.byte_at.ensures c.if-byte_at-eq-LIMITED.false))

pub returns : goal.returns
returns c =
    let rec = c.args.rec.now in
    c.sum_words-2.ensures
    ∙ rw (span-plain rec (limits-off rec _ c.byte_at.ensures c.if-byte_at-eq-LIMITED.false))
