-- `group_limited::told_at` meets its contract. Assumes nothing.
use Rattle.edit_history.proofs.EditsInPlaces.{sets-length}
use Rattle.group_limited.proofs.told_at.Goals as goal

pub returns : goal.returns
returns c =
    let s = c in
    let a = s.args in
    let t = c.told_by.ensures in
    let sight = c.sight_at-s.ensures in (
      rw t.0 sight.0,
      λ sees law tell.
          t.1 _ _ (sets-length a.recs.now a.places.now a.n s.requires.1) tell (sight.1 sees law) law,
    )
