-- `group_sight::name_at` meets its contract: site and sequence number are read where they stand.
-- Assumes nothing.
use mathlib.Core.Path.{sym, ◌∙◌}
use Rattle.edit_history.specs.EditsHeld.{record_at}
use Rattle.edit_history.proofs.FieldsInPlace.{site-in-place, seq-in-place}
use Rattle.group_sight.proofs.NamesOfSets.{name-is}
use borrow.Author.Rules.{rules}
use Rattle.group_sight.proofs.name_at.Goals as goal

pub returns : goal.returns
returns c =
    let a = c.args in
    let rs = a.recs.now in
    name-is (record_at rs a.p) _ _ (c.byte_at-site.ensures ∙ sym (site-in-place rs a.p))
    (c.two_at-seq.ensures ∙ sym (seq-in-place rs a.p)) (search rules) (search rules)
