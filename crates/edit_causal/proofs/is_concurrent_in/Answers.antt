-- `edit_causal::is_concurrent_in` meets its contract. Assumes nothing.
use Rattle.edit_causal.proofs.is_concurrent_in.Goals as goal

pub returns : goal.returns
returns c =
    let z = c in
    rw (
      c.is_same-turned.ensures,
      c.is_same-same.ensures,
      c.own_entry-back.ensures,
      c.own_entry-seen.ensures,
      z.pair_at-p.ensures,
      z.pair_at-q.ensures,
    )
