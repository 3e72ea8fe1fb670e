-- `group_sight::seen::is_foe` meets its contract. Assumes nothing.
use Rattle.group_sight.proofs.FoesConflict.{same-aim}
use Rattle.group_sight.proofs.seen.is_foe.Goals as goal

pub returns : goal.returns
returns c a seen ek es eky eq ev =
    let z = c in
    let g = z.args in
    let aim = z.aim_of-aim in
    rw (
      same-aim aim.result g.s.aim g.site g.seq g.key aim.ensures.0 aim.ensures.2
          aim.ensures.1,
      z.is_set_kind.ensures,
      z.shown-y.ensures,
      seen,
      ek,
      es,
      eky,
      eq,
      ev,
    )
