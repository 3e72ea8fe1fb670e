-- `group_apart::step_known` meets its contract. Assumes nothing.
use Rattle.group_apart.proofs.step_known.Goals as goal

pub step_apart_at-requires : goal.step_apart_at-requires
step_apart_at-requires c =
    let (a, b, d, e, f, g, h) = c.requires in
    (a, b, d, e, f, g, h c.if-apart.true)
