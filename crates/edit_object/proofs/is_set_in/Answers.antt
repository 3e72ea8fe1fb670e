-- `edit_object::is_set_in` meets its contract. Assumes nothing.
use Rattle.edit_object.proofs.is_set_in.Goals as goal

pub returns : goal.returns
returns c =
    let z = c in
    rw (c.is_same.ensures, z.is_set_kind.ensures, z.pair_at-seq.ensures)
