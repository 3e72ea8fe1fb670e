-- `table_soundness::objects::object_sound` meets its contract. Assumes nothing.
use Rattle.table_soundness.specs.Sound.{object_sound}
use Rattle.table_soundness.proofs.objects.object_sound.Goals as goal

pub returns : goal.returns
unfolding object_sound
returns c =
    let s = c in
    rw (c.row_sound-row.ensures, c.entry_sound-entry.ensures)
    (rw (s.at16-many.ensures, s.at16-sets.ensures, s.at16-place.ensures))
