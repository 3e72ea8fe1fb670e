-- `edit_record::lists::members_of` meets its contract: the test is the definition's, and of more members than there are
-- places those that have one are read. Assumes nothing.
use mathlib.Core.Path.{sym, ◌∙◌}
use lib.ListN.{drop}
use Rattle.edit_record.specs.Layout.{members_at, most_members}
use Rattle.edit_record.proofs.FoursInBytes.{fours-none, fours-min}
use Rattle.edit_record.proofs.AgreeingBytes.{limits-on, limits-off}
use Rattle.edit_record.proofs.lists.members_of.Goals as goal

pub returns-then-byte_at-ne-LIMITED : goal.returns-then-byte_at-ne-LIMITED
returns-then-byte_at-ne-LIMITED c =
    let at = c in
    let s = at.args.rec.now in
    rw (limits-off s at.byte_at.result at.byte_at.ensures c.if-byte_at-ne-LIMITED.true)
    (sym (fours-none most_members (drop members_at s)))

pub returns : goal.returns
returns c =
    let s = drop members_at c.args.rec.now in
    let k = c.two_at-k.result in
    rw (limits-on c.args.rec.now c.byte_at.result c.byte_at.ensures c.if-byte_at-ne-LIMITED.false, ← c.two_at-k.ensures)
    (c.first_members.ensures
    ∙ rw c.min.ensures (fours-min most_members k s))
