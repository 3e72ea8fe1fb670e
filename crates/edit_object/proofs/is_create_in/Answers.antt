-- `edit_object::is_create_in` meets its contract. Assumes nothing.
use native.Mathlib.Omega.{arith}
use borrow.Author.Tests.{lt-ltb, le-ltb}
use Rattle.edit_object.proofs.is_create_in.Goals as goal

pub returns-then-n-p : goal.returns-then-n-p
returns-then-n-p c =
    let a = c.args in
    rw (le-ltb a.p a.n c.if-n-p.true)

pub returns : goal.returns
returns c =
    let a = c.args in
    rw (lt-ltb a.p a.n (omega arith)) c.is_create_at.ensures
