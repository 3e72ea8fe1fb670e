-- `group_context::names_version` meets its contract: a plain Set is not asked. Assumes nothing.
use mathlib.Core.Path.{◌≡◌, subst, sym, ap, ◌∙◌}
use mathlib.Core.Bool.{true, false}
use lib.Dec.{eqb}
use Rattle.math_contexts.specs.MaskForms.{mask_names}
use Rattle.group_context.specs.RowsOfBox.{NextOf, what_is_left}
use Rattle.group_context.proofs.ContextByListed.{names-by-listed}
use Rattle.group_context.proofs.ListedByRows.{listed-is}
use Rattle.group_context.proofs.names_version.Goals as goal

pub returns-then-not-limited : goal.returns-then-not-limited
unfolding mask_names
returns-then-not-limited c b n cs next its law =
    let a = c.args in
    let plain : b.limited n ≡ false = sym next.limits ∙ c.if-not-limited.true in
    rw plain

pub returns : goal.returns
unfolding what_is_left
returns c b n cs next its law =
    let a = c.args in
    let yes = c.if-not-limited.false in
    let calm = c.clear_of-calm in
    let limits : b.limited n ≡ true = sym next.limits ∙ yes in
    ap (eqb a.named) c.without.ensures
    ∙ listed-is (subst (NextOf b n a.plain.now cs a.seen a.named) yes next) a.c (rw limits at its)
    calm.result calm.ensures.1
    ∙ names-by-listed b n law limits
