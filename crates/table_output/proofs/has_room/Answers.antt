-- `table_output::has_room` meets its contract: the sum that might wrap is not formed. Assumes nothing.
use mathlib.Core.Path.{sym}
use Prim.Native.Nat.{◌+◌, ◌-◌}
use native.Mathlib.Omega.{arith}
use lib.Dec.{leb}
use borrow.Author.Tests.{leb-true, le-leb, lt-leb}
use Rattle.math_lists.proofs.Booleans.{same_test}
use Rattle.table_output.proofs.has_room.Goals as goal

pub returns-then-n-start : goal.returns-then-n-start
returns-then-n-start c = sym (lt-leb (c.args.start + c.args.bytes) c.args.n (omega arith))

pub returns : goal.returns
returns c =
    let a = c.args in
    same_test (leb a.bytes (a.n - a.start)) (leb (a.start + a.bytes) a.n)
    (λ h. le-leb (a.start + a.bytes) a.n (omega (arith, leb-true a.bytes (a.n - a.start) h)))
    (λ h. le-leb a.bytes (a.n - a.start) (omega (arith, leb-true (a.start + a.bytes) a.n h)))
