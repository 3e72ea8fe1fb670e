-- `group_sight::listed_among` meets its contract: after i members, those of them are told. Assumes nothing.
use mathlib.Core.Path.{◌≡◌}
use mathlib.Core.List.{map}
use lib.ListN.{get_or, take}
use Rattle.math_lists.specs.NumbersBelow.{mask}
use Rattle.math_lists.specs.SortedLists.{any, elem}
use Rattle.edit_record.specs.RecordBytes.{decode_of}
use Rattle.edit_record.specs.Answer1.{name_in}
use Rattle.group_sight.specs.SightForms.{is_unseen}
use Rattle.group_sight.proofs.listed_among.Given as goal

abbrev pub invariant-loop-i : goal.invariant-loop-i
invariant-loop-i l =
    (l.named ≡ mask l.k (λ j. elem (get_or l.names j 0) (map name_in (take l.i (decode_of l.rec).members))))
    × (l.strange ≡ any (is_unseen l.names l.k l.seen) (map name_in (take l.i (decode_of l.rec).members)))
