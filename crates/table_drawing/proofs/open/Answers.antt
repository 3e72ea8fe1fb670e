-- `table_drawing::open` meets its contract: each of its three ends is that outcome. Assumes nothing.
use mathlib.Core.Path.{sym, ◌∙◌}
use Rattle.table_drawing.specs.Tables.{tables_of}
use Rattle.table_drawing.proofs.OpeningOutcomes.{refused-lengths, refused-sites, opened}
use Rattle.table_drawing.proofs.open.Goals as goal

pub returns-then-not-lengths_right : goal.returns-then-not-lengths_right
returns-then-not-lengths_right c =
    let a = c.args in
    refused-lengths (tables_of a.c a.records.now a.objects.now a.groups.now) a.n
    (sym c.lengths_right.ensures ∙ c.if-not-lengths_right.true)

pub returns-then-not-sites_right : goal.returns-then-not-sites_right
returns-then-not-sites_right c =
    let a = c.args in
    refused-sites (tables_of a.c a.records.now a.objects.now a.groups.now) a.n
    (sym c.lengths_right.ensures ∙ c.if-not-lengths_right.false)
    (sym c.sites_right.ensures ∙ c.if-not-sites_right.true)

pub returns : goal.returns
returns c =
    let a = c.args in
    opened (tables_of a.c a.records.now a.objects.now a.groups.now) a.n
    (sym c.lengths_right.ensures ∙ c.if-not-lengths_right.false)
    (sym c.sites_right.ensures ∙ c.if-not-sites_right.false)
    (c.fill.ensures.after (λ _ e. e)) (c.fill-2.ensures.after (λ _ e. e)) (c.fill-3.ensures.after (λ _ e. e))
