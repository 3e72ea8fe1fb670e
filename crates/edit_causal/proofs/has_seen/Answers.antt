-- `edit_causal::has_seen` meets its contract. Assumes nothing.
use Rattle.edit_causal.proofs.has_seen.Goals as goal

pub returns : goal.returns
returns c = cc
