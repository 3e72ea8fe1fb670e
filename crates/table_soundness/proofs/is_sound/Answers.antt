-- `table_soundness::is_sound` meets its contract. Assumes nothing.
use Rattle.table_soundness.proofs.is_sound.Goals as goal

pub returns : goal.returns
returns c = c.is_sound_with.ensures.0
