-- `group_limited::judge` meets its contract. Assumes nothing.
use Rattle.edit_history.proofs.EditsInPlaces.{sets-length}
use Rattle.group_limited.proofs.judge.Goals as goal

pub returns : goal.returns
returns c rows sees =
    let s = c in
    let a = s.args in
    let size = sets-length a.recs.now a.places.now a.k s.requires.1 in
    let sight = c.sight_of-s.ensures in
    record {
      nameless = λ p law. (c.told_by-t.ensures.1 _ _ size rows (sight.1 sees law) law).nameless p.named;
      conflicts = λ p law h. (c.told_by-t.ensures.1 _ _ size rows (sight.1 sees law) law).conflicts p.named h;
    }
