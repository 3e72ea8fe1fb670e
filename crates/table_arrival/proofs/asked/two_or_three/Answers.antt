-- `table_arrival::asked::two_or_three` meets its contract. Assumes nothing.
use mathlib.Core.Path.{sym, ◌∙◌}
use Rattle.table_arrival.specs.Answers6and7.{first_of}
use Rattle.table_arrival.proofs.asked.two_or_three.Goals as goal

pub returns-then-is_repeated : goal.returns-then-is_repeated
unfolding first_of
returns-then-is_repeated c =
    let repeated = rw c.pair_at-q.ensures at c.is_repeated.ensures in
    rw (sym repeated ∙ c.if-is_repeated.true)

pub returns-then-is_early : goal.returns-then-is_early
unfolding first_of
returns-then-is_early c =
    let repeated = rw c.pair_at-q.ensures at c.is_repeated.ensures in
    let early = rw (c.pair_at-q.ensures, c.vector_of-v.ensures) at c.is_early.ensures in
    rw (sym repeated ∙ c.if-is_repeated.false, sym early ∙ c.if-is_early.true)

pub returns : goal.returns
unfolding first_of
returns c =
    let repeated = rw c.pair_at-q.ensures at c.is_repeated.ensures in
    let early = rw (c.pair_at-q.ensures, c.vector_of-v.ensures) at c.is_early.ensures in
    rw (sym repeated ∙ c.if-is_repeated.false, sym early ∙ c.if-is_early.false)
