-- `table_index::chain::limit_after` meets its contract. Assumes nothing.
use borrow.Author.Tests.{eq-eqb, ne_eqb}
use Rattle.edit_record.specs.Layout.{limited_kind}
use Rattle.table_index.proofs.chain.limit_after.Goals as goal

pub returns-then-kind-eq-LIMITED : goal.returns-then-kind-eq-LIMITED
returns-then-kind-eq-LIMITED c = rw (eq-eqb c.args.kind limited_kind c.if-kind-eq-LIMITED.true)

pub returns : goal.returns
returns c = rw (ne_eqb c.args.kind limited_kind c.if-kind-eq-LIMITED.false)
