-- `edit_fit::is_nonzero_past` meets its contract: `found` is what the definition says of the first i entries, of
-- which those before n do not count. Assumes nothing.
use mathlib.Core.Path.{sym, ◌∙◌}
use native.Mathlib.Numerals.{add-one}
use native.Mathlib.Omega.{arith}
use Rattle.math_lists.specs.NumbersBelow.{some}
use Rattle.edit_record.proofs.NumbersInBytes.{entry-in-record}
use Rattle.edit_record.proofs.EntriesPastSites.{none_before, one-past, all_past}
use Rattle.edit_fit.proofs.is_nonzero_past.Invariants.{vector_in}
use Rattle.edit_fit.proofs.is_nonzero_past.Goals as goal

pub loop-i-init : goal.loop-i-init
loop-i-init c =
    let a = c.args in
    (omega arith, λ l. omega arith, sym (none_before a.n a.n (vector_in a.rec.now) (omega arith)))

pub loop-i-preserved : goal.loop-i-preserved
unfolding some
loop-i-preserved c =
    let a = c.args in
    let i = c.loop-i.i in
    let v = vector_in a.rec.now in (
      omega arith,
      λ l. absurd (omega arith),
      rw (
        add-one,
        c.loop-i.invariant.2,
        one-past a.n i v c.loop-i.invariant.0,
        c.pair_at.ensures,
        entry-in-record a.rec.now i (omega arith),
      ),
    )

pub returns : goal.returns
returns c =
    let a = c.args in
    c.loop-i.invariant.2
    ∙ all_past a.n c.loop-i.i (vector_in a.rec.now) (omega arith) c.loop-i.invariant.1
