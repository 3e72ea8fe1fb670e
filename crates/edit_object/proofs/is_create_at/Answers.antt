-- `edit_object::is_create_at` meets its contract: the kind and the name are read where they stand. Assumes nothing.
use Rattle.edit_history.proofs.FieldsInPlace.{kind-in-place, site-in-place, seq-in-place}
use Rattle.edit_object.proofs.is_create_at.Goals as goal

pub returns : goal.returns
returns c =
    let site = c in
    let a = site.args in
    rw (
      c.is_same.ensures,
      c.two_at-seq.ensures,
      site.byte_at-site.ensures,
      site.byte_at-kind.ensures,
      kind-in-place a.recs.now a.p,
      site-in-place a.recs.now a.p,
      seq-in-place a.recs.now a.p,
    )
