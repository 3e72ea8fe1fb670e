-- `table_soundness::objects::slot_sound` meets its contract: the place is used. Assumes nothing.
use mathlib.Core.Path.{sym}
use mathlib.Core.Bool.{◌||◌}
use Prim.Native.Nat.{◌+◌, ◌*◌, ◌^◌}
use native.Mathlib.Omega.{arith}
use lib.Dec.{eqb, leb, ltb}
use lib.ListN.{get_or}
use Rattle.group_step.specs.GroupRows.{most_groups}
use Rattle.table_soundness.proofs.SoundTests.{used-place}
use Rattle.table_soundness.proofs.objects.slot_sound.Goals as goal

pub returns : goal.returns
returns c =
    let a = c.args in
    let gs = a.groups.now in
    let at = a.o * most_groups + a.i in
    let here = get_or gs at 0 in
    rw (c.is_below-below.ensures, c.at64-next.ensures, c.at64-here.ensures)
    (sym (used-place a.g a.i (eqb here 0) (ltb here (2 ^ a.k))
    (leb a.g (a.i + 1) || ltb here (get_or gs (at + 1) 0)) (omega arith)))
