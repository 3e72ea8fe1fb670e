-- `edit_record::writing::with_count` meets its contract. Assumes nothing.
use borrow.Author.Rules.{rules}
use Rattle.edit_record.specs.RecordBytes.{count_bytes}
use Rattle.edit_record.proofs.writing.with_count.Goals as goal

pub returns : goal.returns
unfolding count_bytes
returns c = search rules
