-- `edit_walk::start_places` meets its contract: the counts are the edits', so that what has room for them has room for
-- the edits. Assumes nothing.
use native.Mathlib.Omega.{arith}
use lib.ListN.{get_or}
use Rattle.edit_history.specs.EditsHeld.{edits_of}
use Rattle.edit_history.proofs.EditsHeld.{edits-length}
use Rattle.edit_walk.specs.WalkForms.{count_in}
use Rattle.edit_walk.proofs.RoomInIndex.{counted-in-all, spaced-less}
use Rattle.edit_walk.proofs.start_places.Goals as goal

pub space_places-requires : goal.space_places-requires
space_places-requires c =
    let s = c in
    let rs = s.args.recs.now in
    let counted = c.count_sites-counts in (
      omega (
        arith,
        counted-in-all counted.result (edits_of rs s.args.n) counted.ensures,
        edits-length rs s.args.n,
        s.requires.0,
      ),
      s.requires.1,
    )

pub returns : goal.returns
returns c =
    let s = c in
    let counted = c.count_sites-counts in
    spaced-less (λ t. get_or counted.result t 0) (count_in s.args.recs.now s.args.n) _
    (λ t l. omega (arith, counted.ensures t l)) c.space_places.ensures
