-- `block_trailer::trailer_bytes` meets its contract: the bytes are those of the definition, one by one. Assumes
-- nothing.
use borrow.Author.Rules.{rules}
use Rattle.edit_record.specs.RecordBytes.{count_bytes}
use Rattle.block_trailer.specs.Trailer.{trailer_of}
use Rattle.block_trailer.proofs.trailer_bytes.Goals as goal

pub returns : goal.returns
unfolding trailer_of count_bytes
returns c = search rules
