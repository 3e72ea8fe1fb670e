-- `table_arrival::refusal` meets its contract. Assumes nothing.
use mathlib.Core.Path.{sym, ap, ◌∙◌}
use mathlib.Core.Bool.{not}
use Rattle.math_lists.proofs.Booleans.{not-not}
use Rattle.table_arrival.proofs.refusal.Goals as goal

pub returns : goal.returns
returns c =
    rw (
      c.is_full-six.ensures,
      c.sets_of.ensures,
      not-not c.is_none.result ∙ ap not (sym c.is_none.ensures),
      c.is_aimed_kind.ensures,
      c.byte_at-kind.ensures,
    ) at
    c.first_reason.ensures
