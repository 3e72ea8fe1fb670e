-- `edit_fit::are_members_wrong` meets its contract: `found` is what both tests say of the first i members,
-- and `last` the name of the one before. Assumes nothing.
use mathlib.Core.Path.{◌≡◌}
use Prim.Native.Nat.{◌<◌, ◌-◌}
use lib.ListN.{get_or, drop}
use Rattle.edit_record.specs.Layout.{most_members, members_at}
use Rattle.edit_record.specs.RecordBytes.{first_fours}
use Rattle.edit_record.specs.Answer1.{name_in}
use Rattle.edit_record.proofs.MembersTested.{is_wrong_among}
use Rattle.edit_fit.proofs.are_members_wrong.Given as goal

abbrev pub invariant-loop-i : goal.invariant-loop-i
invariant-loop-i l =
    (l.found ≡ is_wrong_among l.k (first_fours most_members l.k (drop members_at l.rec)) l.i)
    × (0 < l.i → l.last ≡ name_in (get_or (first_fours most_members l.k (drop members_at l.rec)) (l.i - 1) 0))
