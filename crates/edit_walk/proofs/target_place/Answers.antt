-- `edit_walk::target_place` meets its contract: the target's site and sequence number are three bytes of the table.
-- Assumes nothing.
use Rattle.edit_history.proofs.FieldsInPlace.{target-in-place, target-seq-in-place}
use Rattle.edit_walk.proofs.target_place.Goals as goal

pub returns : goal.returns
returns c =
    let a = c.args in
    let rs = a.recs.now in
    rw (
      c.place_at.ensures,
      c.two_at-seq.ensures,
      c.byte_at-site.ensures,
      target-in-place rs a.p,
      target-seq-in-place rs a.p,
    )
