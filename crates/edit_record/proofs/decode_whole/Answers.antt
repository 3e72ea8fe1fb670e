-- `edit_record::decode_whole` meets its contract. Assumes nothing.
use Rattle.edit_record.proofs.decode_whole.Goals as goal

pub returns : goal.returns
returns c = cc
