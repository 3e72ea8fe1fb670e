-- `list_line::tests::pieces_are_put` is proved: the name was put in its place before. Assumes nothing.
use native.Mathlib.Omega.{arith}
use Rattle.list_line.proofs.tests.pieces_are_put.Goals as goal

pub put_member-n-requires : goal.put_member-n-requires
put_member-n-requires g c =
    (omega arith, omega (arith, c.put_setting.auto.out), c.put_names.ensures 0 (omega arith))

pub put_member-requires : goal.put_member-requires
put_member-requires g c =
    (omega arith, omega (arith, c.put_setting.auto.out, c.put_member-n.auto.out), c.put_names.ensures 0 (omega arith))
