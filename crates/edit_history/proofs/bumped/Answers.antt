-- `edit_history::bumped` meets its contract: past the last entry nothing is set. Assumes nothing.
use mathlib.Core.Path.{sym}
use Prim.Native.Nat.{◌+◌, ◌≤◌}
use native.Mathlib.Omega.{arith}
use lib.Seq.{set_out}
use lib.ListN.{get_or, length}
use Rattle.edit_history.proofs.bumped.Goals as goal

pub returns-else-i-lt-SITES : goal.returns-else-i-lt-SITES
returns-else-i-lt-SITES c =
    let a = c.args in
    let h : length a.v ≤ a.s.0 = omega arith in
    sym (set_out a.v a.s.0 (get_or a.v a.s.0 0 + 1) h)
