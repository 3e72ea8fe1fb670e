-- `edit_causal::are_sets_on_one` meets its contract. Assumes nothing.
use Rattle.edit_causal.proofs.are_sets_on_one.Goals as goal

pub returns : goal.returns
returns c =
    let z = c in
    rw (
      c.is_same.ensures,
      c.is_set_kind-2.ensures,
      z.is_set_kind.ensures,
      z.pair_at-p.ensures,
      z.pair_at-q.ensures,
    )
