-- `table_engine::decided` meets its contract. Assumes nothing.
use mathlib.Core.Path.{refl}
use native.Mathlib.Omega.{arith}
use borrow.Author.Tests.{ne_eqb, eq-eqb, lt-ltb, le-ltb}
use Rattle.group_step.specs.GroupRows.{most_groups}
use Rattle.table_engine.specs.Enumeration.{most_decided}
use Rattle.table_engine.specs.EngineForms.{refusal_of}
use Rattle.table_engine.proofs.decided.Goals as goal

pub returns-then-not-named : goal.returns-then-not-named
unfolding refusal_of
returns-then-not-named c = (rw (c.if-not-named.true), tt)

pub returns-then-long-ne-GROUPS : goal.returns-then-long-ne-GROUPS
unfolding refusal_of
returns-then-long-ne-GROUPS c = (rw (c.if-not-named.false, ne_eqb c.args.long most_groups c.if-long-ne-GROUPS.true), tt)

pub returns-then-not-held : goal.returns-then-not-held
unfolding refusal_of
returns-then-not-held c = (
  rw (
    c.if-not-named.false,
    eq-eqb c.args.long most_groups (omega arith),
    c.if-not-held.true,
  ),
  tt,
)

pub returns-then-k-gt-DECIDED : goal.returns-then-k-gt-DECIDED
unfolding refusal_of
returns-then-k-gt-DECIDED c = (
  rw (
    c.if-not-named.false,
    eq-eqb c.args.long most_groups (omega arith),
    c.if-not-held.false,
    lt-ltb most_decided c.args.k c.if-k-gt-DECIDED.true,
  ),
  tt,
)

pub returns : goal.returns
unfolding refusal_of
returns c = (
  rw (
    c.if-not-named.false,
    eq-eqb c.args.long most_groups (omega arith),
    c.if-not-held.false,
    le-ltb most_decided c.args.k (omega arith),
  ),
  refl,
)
