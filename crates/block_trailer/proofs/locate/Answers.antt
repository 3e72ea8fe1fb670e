-- `block_trailer::locate` meets its contract: the stretch ends where the trailer starts, or is empty at the file's
-- start. Assumes nothing.
use Rattle.block_trailer.proofs.LocatingOutcomes.{start-before-end, stretch-is, empty-is}
use Rattle.block_trailer.proofs.locate.Goals as goal

pub slice_bounds-result-count : goal.slice_bounds-result-count
slice_bounds-result-count c =
    let said = c.in-Ok.ensures in
    start-before-end c.args.file.now said.0 said.1 c.trailer_at-end.ensures

pub slice_bounds-result-start : goal.slice_bounds-result-start
slice_bounds-result-start c =
    let said = c.in-Ok.ensures in
    start-before-end c.args.file.now said.0 said.1 c.trailer_at-end.ensures

pub returns-in-Ok : goal.returns-in-Ok
returns-in-Ok c =
    let said = c.in-Ok.ensures in
    (stretch-is c.args.file.now said.0 said.1 c.trailer_at-end.ensures, rw said.1)

pub returns-in-Err : goal.returns-in-Err
returns-in-Err c =
    let said = c.in-Err.ensures in
    (empty-is c.args.file.now c.in-Err.field-0 said.0 said.1, rw (← said.1))
