-- `edit_record::lists::first_members` meets its contract: after i turns the first i members are written. Assumes
-- nothing.
use mathlib.Core.Path.{◌≡◌}
use lib.ListN.{drop}
use Rattle.edit_record.specs.Layout.{most_members, members_at}
use Rattle.edit_record.specs.RecordBytes.{first_fours}
use Rattle.edit_record.proofs.lists.first_members.Given as goal

abbrev pub invariant-loop-i : goal.invariant-loop-i
invariant-loop-i l = l.m ≡ first_fours most_members l.i (drop members_at l.rec)
