-- `group_apart::covered::is_part_of_any` meets its contract: the library's search asks as `any` does. Assumes nothing.
use Rattle.std.proofs.Common.{◌≡◌, ◌∙◌, rules, tests}
use Rattle.std.specs.List.{list_any, between}
use Rattle.std.proofs.lemmas.Iterator.{YieldsList-from_slice}
use Rattle.std.proofs.lemmas.Iterator.Search.{any_from_yields_List}
use Rattle.std.proofs.lemmas.Slice.{between_is}
use Rattle.group_step.specs.StepForms.{part_of}
use Rattle.group_step.proofs.Chains.{any_is}
use Rattle.group_apart.proofs.covered.is_part_of_any.Goals as goal

pub returns : goal.returns
returns c =
    let a = c.args in
    let left = between a.t a.n a.s.now in
    let e : c.any.result ≡ list_any (part_of a.x) left
    = any_from_yields_List (part_of a.x) _ _ c.any.result c.any.ensures.ran
    (YieldsList-from_slice left cc) (λ x b q k. search (rules, tests)) in
    e ∙ rw (between_is a.s.now a.t a.n) (any_is (part_of a.x) _)
