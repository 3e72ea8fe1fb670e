-- `group_kept::told_with` meets its contract. Assumes nothing.
use mathlib.Core.Path.{sym, subst, ◌∙◌}
use Rattle.group_limited.specs.LimitedForms.{RowsTell}
use Rattle.group_sight.specs.SightForms.{SeesTell}
use Rattle.group_kept.specs.KeptForms.{contexts_at, sees_at}
use Rattle.group_kept.proofs.OneSetMore.{rest-is}
use Rattle.group_kept.proofs.told_with.Goals as goal

pub returns : goal.returns
returns c =
    let sight = c.sight_with-s in
    let a = c.args in
    let rows = a.rows.now in (
      c.told_by.ensures.0 ∙ sight.ensures.0,
      λ ms size names kept its law.
          c.told_by.ensures.1 ms _ size (subst (RowsTell ms rows) (sym (rest-is contexts_at rows)) kept.tell)
          (sight.ensures.1 ms size names its (subst (SeesTell ms) (sym (rest-is sees_at rows)) kept.sees) law) law,
    )
