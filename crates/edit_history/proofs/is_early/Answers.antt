-- `edit_history::is_early` meets its contract. Assumes nothing.
use Rattle.edit_history.proofs.is_early.Goals as goal

pub returns : goal.returns
returns c = rw (c.is_ahead_elsewhere.ensures, c.held_from-own.ensures)
