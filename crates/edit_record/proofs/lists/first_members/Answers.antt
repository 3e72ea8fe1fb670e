-- `edit_record::lists::first_members` meets its contract: after i turns the first i members are written. Assumes
-- nothing.
use mathlib.Core.Path.{◌≡◌, sym, ◌∙◌}
use Prim.Native.Nat.{◌*◌}
use native.Mathlib.Numerals.{add-one}
use native.Mathlib.Omega.{arith}
use lib.ListN.{drop}
use Rattle.edit_record.specs.Layout.{most_members, members_at}
use Rattle.edit_record.specs.RecordBytes.{four}
use Rattle.edit_record.proofs.FoursInBytes.{four-drop, fours-none, fours-more}
use Rattle.edit_record.proofs.lists.first_members.Goals as goal

pub loop-i-init : goal.loop-i-init
loop-i-init c = sym (fours-none most_members (drop members_at c.args.rec.now))

pub loop-i-preserved : goal.loop-i-preserved
loop-i-preserved c =
    let l = c.loop-i in
    let s = c.args.rec.now in
    let e : c.four_at.result ≡ four (drop members_at s) (4 * l.i) = c.four_at.ensures
    ∙ sym (four-drop members_at s (4 * l.i)) in
    (rw (add-one, l.invariant, e) (fours-more most_members l.i (drop members_at s) (omega arith)))
