-- `edit_history::is_repeated` meets its contract. Assumes nothing.
use Rattle.edit_history.proofs.is_repeated.Goals as goal

pub returns : goal.returns
returns c = rw c.held_from.ensures
