-- `group_limited::is_any_limited` meets its contract: whether one of the Sets in the first places is limited. Assumes
-- nothing.
use Rattle.std.proofs.Common.{◌∙◌, Bool, take, ℕ, rules, tests}
use Rattle.std.proofs.lemmas.Iterator.{YieldsList-from_slice}
use Rattle.std.proofs.lemmas.Iterator.Search.{any_from_yields_List}
use Rattle.edit_record.specs.Answer1.{is_limited}
use Rattle.edit_history.specs.EditsHeld.{record_at}
use Rattle.group_sight.proofs.OneMoreTaken.{any-of-map}
use Rattle.group_limited.proofs.is_any_limited.Goals as goal

pub returns : goal.returns
returns c =
    let rs = c.args.recs.now in
    let ps = take c.args.k c.args.places.now in
    let test : ℕ → Bool = λ p. is_limited (record_at rs p) in
    any_from_yields_List test _ _ _ c.any.ensures.ran (YieldsList-from_slice ps cc) (λ x b q k. search (rules, tests))
    ∙ any-of-map is_limited (record_at rs) ps
