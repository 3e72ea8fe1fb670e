-- `edit_walk::spot` meets its contract: the site and the sequence number are three bytes of the table. Assumes
-- nothing.
use Rattle.edit_history.proofs.FieldsInPlace.{site-in-place, seq-in-place}
use Rattle.edit_walk.proofs.spot.Goals as goal

pub returns : goal.returns
returns c =
    let a = c.args in
    let rs = a.recs.now in
    rw (
      c.slot_of.ensures,
      c.two_at-seq.ensures,
      c.byte_at-site.ensures,
      site-in-place rs a.p,
      seq-in-place rs a.p,
    )
