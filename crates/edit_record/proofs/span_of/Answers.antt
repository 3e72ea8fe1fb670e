-- `edit_record::span_of` meets its contract: the test is the definition's, and so are both numbers. Assumes nothing.
use mathlib.Core.Path.{sym}
use Rattle.edit_record.proofs.AgreeingBytes.{limits-on, limits-off, span-limited, span-plain}
use Rattle.edit_record.proofs.span_of.Goals as goal

pub returns-then-byte_at-eq-LIMITED : goal.returns-then-byte_at-eq-LIMITED
returns-then-byte_at-eq-LIMITED c =
    let at = c in
    let s = at.args.rec.now in
    rw c.two_at.ensures
    (sym (span-limited s (limits-on s at.byte_at.result at.byte_at.ensures c.if-byte_at-eq-LIMITED.true)))

pub returns : goal.returns
returns c =
    let at = c in
    let s = at.args.rec.now in
    sym (span-plain s (limits-off s at.byte_at.result at.byte_at.ensures c.if-byte_at-eq-LIMITED.false))
