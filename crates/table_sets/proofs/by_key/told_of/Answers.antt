-- `table_sets::by_key::told_of` meets its contract. Assumes nothing.
use mathlib.Core.Path.{ap₂, ◌∙◌}
use Prim.Native.Nat.{ℕ}
use Rattle.edit_causal.specs.ShownValue.{shown_value}
use Rattle.table_sets.proofs.MarksByKey.{told_is}
use borrow.Author.Rules.{rules}
use Rattle.table_sets.proofs.by_key.told_of.Goals as goal

pub returns : goal.returns
returns c e f same =
    told_is e _ _ _ (c.byte_at-site.ensures ∙ f.site)
    (c.pair_at-seq.ensures ∙ f.seq)
    (c.shown-value.ensures ∙ ap₂ (λ (k v : ℕ). shown_value k v) same (c.value_of-sent.ensures ∙ f.value))
    (search rules) (search rules) (search rules)
