-- `edit_next::is_passing_next` meets its contract: where the record follows one before it, 1 and 5 decide.
-- Assumes nothing.
use Prim.Native.Nat.{◌*◌}
use Rattle.edit_record.specs.Layout.{place_length}
use Rattle.edit_history.specs.EditsHeld.{record_at}
use Rattle.edit_next.proofs.NextDecides.{from_place, next-tells}
use Rattle.edit_next.proofs.is_passing_next.Goals as goal

pub returns-then-rec-eq-SET : goal.returns-then-rec-eq-SET
returns-then-rec-eq-SET c =
    let s = c in
    let a = s.args in
    let rs = a.recs.now in
    let rest = from_place rs (a.p * place_length) in
    let x = c in
    let (before, grown) = x.is_next_in.ensures c.if-is_next_in.true in
    let (_, next) = rw rest at c.in-Some.ensures in
    next-tells a.sites s.requires.3 (record_at rs a.p) c.in-Some.r before grown next
    (rw rest at c.is_set_fit_and_aimed.ensures)

pub returns-then-is_next_in : goal.returns-then-is_next_in
returns-then-is_next_in c =
    let s = c in
    let a = s.args in
    let rs = a.recs.now in
    let rest = from_place rs (a.p * place_length) in
    let x = c in
    let (before, grown) = x.is_next_in.ensures c.if-is_next_in.true in
    let (_, next) = rw rest at c.in-Some.ensures in
    next-tells a.sites s.requires.3 (record_at rs a.p) c.in-Some.r before grown next
    (rw rest at c.is_fit_and_aimed.ensures)
