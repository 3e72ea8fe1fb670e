-- `edit_object::put_places` meets its contract: the places of the Sets passed stand at the front, and there is room
-- for one more as long as one is left. Assumes nothing.
use mathlib.Core.Path.{◌≡◌}
use mathlib.Core.List.{map}
use lib.ListN.{length, take}
use Rattle.edit_history.specs.EditsHeld.{record_at, edits_of, sets_on}
use Rattle.edit_object.proofs.put_places.Given as goal

abbrev pub invariant-loop-i : goal.invariant-loop-i
invariant-loop-i l =
    (length l.out ≡ length l.initial.out)
    × (map (record_at l.recs) (take l.w l.out) ≡ sets_on l.s l.q (edits_of l.recs l.i))
    × (l.w ≡ length (sets_on l.s l.q (edits_of l.recs l.i)))
