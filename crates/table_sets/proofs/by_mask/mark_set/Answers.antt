-- `table_sets::by_mask::mark_set` meets its contract: the bytes copied have its fields. Assumes nothing.
use borrow.Author.Rules.{rules}
use Rattle.table_sets.proofs.by_mask.mark_set.Goals as goal

pub mark_bytes-requires : goal.mark_bytes-requires
mark_bytes-requires c =
    let copied = c in
    let p = copied.requires in (
      p.0,
      p.1,
      p.2,
      p.3,
      p.4,
      copied.copy_at-rec.ensures,
      search rules,
      p.5,
    )
