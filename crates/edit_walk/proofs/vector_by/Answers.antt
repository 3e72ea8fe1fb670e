-- `edit_walk::vector_by` meets its contract. Assumes nothing.
use mathlib.Core.Path.{◌≡◌}
use native.Mathlib.Omega.{arith}
use borrow.Author.Tests.{ne_eqb}
use Rattle.edit_walk.specs.WalkForms.{vector_by}
use Rattle.edit_walk.proofs.vector_by.Goals as goal

pub returns-then-q-eq0 : goal.returns-then-q-eq0
unfolding vector_by
returns-then-q-eq0 c =
    let k : c.args.q.0 ≡ 0 = omega arith in
    rw k

pub returns : goal.returns
unfolding vector_by
returns c =
    let q = c.args.q.0 in
    rw (ne_eqb q 0 (λ e. omega arith), c.vector_at.ensures, c.place_at-p.ensures)
