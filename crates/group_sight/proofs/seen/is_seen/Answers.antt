-- `group_sight::seen::is_seen` meets its contract. Assumes nothing.
use Rattle.group_sight.proofs.NamesOfSets.{same_name}
use Rattle.group_sight.proofs.seen.is_seen.Goals as goal

pub returns : goal.returns
returns c a b n m vector =
    let g = c.args in
    rw (c.entry_at-seen.ensures, same_name g.x g.y a b n m, n.site, n.seq, ← vector)
