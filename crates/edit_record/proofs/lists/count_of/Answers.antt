-- `edit_record::lists::count_of` meets its contract: the test is the definition's. Assumes nothing.
use mathlib.Core.Path.{◌∙◌}
use Rattle.edit_record.proofs.AgreeingBytes.{limits-on, limits-off}
use Rattle.edit_record.proofs.lists.count_of.Goals as goal

pub returns-then-byte_at-eq-LIMITED : goal.returns-then-byte_at-eq-LIMITED
returns-then-byte_at-eq-LIMITED c =
    let at = c in
    let s = at.args.rec.now in
    c.four_at.ensures ∙ rw (limits-on s at.byte_at.result at.byte_at.ensures c.if-byte_at-eq-LIMITED.true)

pub returns : goal.returns
returns c =
    let at = c in
    let s = at.args.rec.now in
    rw (limits-off s at.byte_at.result at.byte_at.ensures c.if-byte_at-eq-LIMITED.false)
