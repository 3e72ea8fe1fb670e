-- `edit_causal::is_concurrent` meets its contract. Assumes nothing.
use Rattle.edit_causal.proofs.is_concurrent.Goals as goal

pub returns : goal.returns
returns c = cc
