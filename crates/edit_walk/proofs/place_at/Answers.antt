-- `edit_walk::place_at` meets its contract. Assumes nothing.
use Rattle.edit_walk.proofs.place_at.Goals as goal

pub returns : goal.returns
returns c = rw (c.entry_at.ensures, c.slot_of-at.ensures)
