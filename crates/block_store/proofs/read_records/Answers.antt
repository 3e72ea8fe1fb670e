-- `block_store::read_records` meets its contract. Assumes nothing.
use mathlib.Core.Path.{refl}
use Rattle.table_drawing.specs.AnswerNumbers.{number_of}
use Rattle.table_drawing.proofs.RefusalNumbers.{refused}
use Rattle.table_given.proofs.ReplayGoes.{opened}
use Rattle.block_store.proofs.ReadingOutcomes.{all-taken, one-refused, lengths-stay}
use Rattle.block_store.proofs.read_records.Goals as goal

pub returns-in-Ok : goal.returns-in-Ok
returns-in-Ok c =
    let a = c.args in
    all-taken a.sites a.form a.stretch.now a.n 0 0 _ c.in-Ok.ensures refl

pub returns-in-Err : goal.returns-in-Err
returns-in-Err c =
    let a = c.args in
    let e = c.in-Err.e in
    let k = number_of e.refusal in
    let rs = a.stretch.now in
    let right = lengths-stay a.sites a.form rs a.n k e.index _ c.in-Err.ensures c.requires.1 in
    rw c.unwrap_or.ensures
    (one-refused a.sites a.form rs a.n k e.index _ c.in-Err.ensures (refused e.refusal) _
    (opened _ _ _ a.sites right c.requires.1 c.open-empty.ensures))
