-- `edit_next::is_passing_after` meets its contract: where the record follows one before it, 1 and 5 decide.
-- Assumes nothing.
use Rattle.edit_record.specs.RecordBytes.{decode_of}
use Rattle.edit_next.proofs.NextDecides.{next-tells}
use Rattle.edit_next.proofs.is_passing_after.Goals as goal

pub returns-then-is_next_at : goal.returns-then-is_next_at
returns-then-is_next_at c =
    let s = c in
    let a = s.args in
    let e = decode_of a.rec.now in
    let (before, grown) = c.is_next_at.ensures c.if-is_next_at.true in
    let (_, next) = c.in-Some.ensures in
    next-tells a.sites s.requires.3 e c.in-Some.r before grown next
    c.is_fit_and_aimed.ensures
