-- `table_arrival::asked::answer_where_named` meets its contract. Assumes nothing.
use mathlib.Core.Path.{sym, ◌∙◌}
use Rattle.table_arrival.proofs.asked.answer_where_named.Goals as goal

pub are_all_named-requires : goal.are_all_named-requires
are_all_named-requires c =
    let h = c.requires.0 in
    (h.few-records, h.few-sets)

pub returns-then-are_all_named : goal.returns-then-are_all_named
returns-then-are_all_named c =
    let h = c.requires.0 in
    let named = c.are_all_named.ensures c.args.c.sites h.few-sites h.pass c.requires.1 in
    rw (sym named ∙ c.if-are_all_named.true)

pub returns-else-are_all_named : goal.returns-else-are_all_named
returns-else-are_all_named c =
    let h = c.requires.0 in
    let named = c.are_all_named.ensures c.args.c.sites h.few-sites h.pass c.requires.1 in
    rw (sym named ∙ c.if-are_all_named.false)
