-- `edit_causal::is_before` meets its contract. Assumes nothing.
use Rattle.edit_causal.proofs.is_before.Goals as goal

pub returns : goal.returns
returns c = cc
