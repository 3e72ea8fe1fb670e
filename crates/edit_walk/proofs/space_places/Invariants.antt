-- `edit_walk::space_places` meets its contract: the sites below s have their starts, and `at` is the next one. Assumes
-- nothing.
use mathlib.Core.Path.{◌≡◌}
use mathlib.Core.List.{List}
use Prim.Native.Nat.{ℕ, ◌+◌}
use lib.ListN.{length, get_or}
use Rattle.math_lists.specs.NumbersBelow.{sum}
use Rattle.edit_record.specs.Layout.{most_sites}
use Rattle.edit_walk.specs.WalkForms.{places_length}
use Rattle.edit_walk.proofs.RoomInIndex.{Started}
use Rattle.edit_walk.proofs.space_places.Given as goal

abbrev pub room_of : List ℕ → ℕ → ℕ
room_of counts s = get_or counts s 0

abbrev pub invariant-loop-s : goal.invariant-loop-s
invariant-loop-s l =
    (length l.places ≡ places_length)
    × (l.at ≡ most_sites + sum l.s (room_of l.n-items))
    × Started (room_of l.n-items) l.places l.s
