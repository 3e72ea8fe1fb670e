-- `edit_causal::is_conflict` meets its contract. Assumes nothing.
use Rattle.edit_causal.proofs.is_conflict.Goals as goal

pub returns : goal.returns
returns c = cc
