-- `edit_walk::is_target_held` meets its contract. Assumes nothing.
use Rattle.edit_walk.specs.WalkForms.{target_held}
use Rattle.edit_walk.proofs.is_target_held.Goals as goal

pub returns : goal.returns
unfolding target_held
returns c =
    rw (
      c.kind_at-kind.ensures,
      c.place_at-p.ensures,
      c.held_from-have.ensures,
      c.own_entry-seen.ensures,
      c.pair_at-seq.ensures,
    )
