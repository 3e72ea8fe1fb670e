-- `edit_record::writing::with_list` meets its contract: the bytes of the count and of the first i members stand.
-- Assumes nothing.
use mathlib.Core.Path.{◌≡◌}
use mathlib.Core.List.{◌++◌}
use Prim.Native.Nat.{◌+◌, ◌*◌}
use lib.ListN.{length, take}
use Rattle.edit_record.specs.Layout.{members_at, place_length}
use Rattle.edit_record.specs.RecordBytes.{four_bytes}
use Rattle.edit_record.proofs.writing.with_list.Given as goal

abbrev pub invariant-loop-i : goal.invariant-loop-i
invariant-loop-i l =
    (length l.out ≡ place_length)
    × (take (members_at + 4 * l.i) l.out ≡ take members_at l.initial.out ++ four_bytes (take l.i l.m-items))
