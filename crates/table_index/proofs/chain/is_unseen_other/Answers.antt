-- `table_index::chain::is_unseen_other` meets its contract. Assumes nothing.
use Rattle.table_index.proofs.chain.is_unseen_other.Goals as goal

pub returns : goal.returns
returns c =
    rw (
      c.pair_at-seq.ensures,
      c.own_entry-seen.ensures,
      c.shown-y.ensures,
      c.value_of.ensures,
    )
