-- Demand 3 with layer edits: the order of the objects is the same in every order of the same edits. Assumes that no
-- identity stands twice and that of any two edits one ranks before the other.
use mathlib.Core.Path.{◌≡◌, ap, fun_ext, ◌∙◌}
use mathlib.Core.Bool.{Bool}
use mathlib.Core.List.{List}
use Rattle.math_lists.specs.SortedLists.{filter}
use Rattle.math_lists.proofs.Booleans.{clash}
use Rattle.math_lists.proofs.SortedLists.{asc-unique}
use Rattle.math_lists.proofs.PutInOrder.{OneWay}
use Rattle.edit_record.specs.declared.Edit.{Edit}
use Rattle.edit_record.specs.Answer1.{is_create, is_top}
use Rattle.edit_causal.specs.TotalOrder.{ranks_before}
use Rattle.edit_history.specs.EditsHeld.{creates}
use Rattle.math_lists.specs.Rearranged.{Rearranged, then}
use Rattle.group_true.specs.Identities.{AllDiffer}
use Rattle.math_lists.proofs.Rearranged.{turned, same-members, chosen-rearranged}
use Rattle.math_lists.proofs.PairsInList.{pairs-rearranged}
use Rattle.list_version.proofs.RanksStrict.{not_itself_lem, ranks-through}
use Rattle.list_order.specs.Layers.{in_order, last_on, deciding, standing}
use Rattle.list_order.specs.Moves.{layered_order}
use Rattle.math_lists.proofs.PutTogether.{gathered-rearranged}
use Rattle.list_order.proofs.Comparing.{one-way-turned}
use Rattle.list_order.proofs.Standing.{standing-any-order}
use Rattle.list_order.proofs.Deciding.{Ranked, AllRanked, counted-sorted, deciding-ranked}

module _ (es fs : List Edit) (r : Rearranged es fs) (ranked : AllRanked es) where
  -- the edits of any choice, in the total order
  counted-any-order : (counts : Edit → Bool) → in_order (filter counts es) ≡ in_order (filter counts fs)
  counted-any-order counts =
      asc-unique Ranked (λ x h. clash h (not_itself_lem x)) ranks-through (in_order (filter counts es))
      (in_order (filter counts fs)) (counted-sorted counts es ranked)
      (counted-sorted counts fs (pairs-rearranged (OneWay ranks_before) one-way-turned r ranked))
      (same-members same) (same-members (turned same))
    where
      same : Rearranged (in_order (filter counts es)) (in_order (filter counts fs))
      same =
          unfold in_order in
          then (gathered-rearranged ranks_before (filter counts es))
          (then (chosen-rearranged counts r) (turned (gathered-rearranged ranks_before (filter counts fs))))

  deciding-any-order : (c : Edit) → deciding es c ≡ deciding fs c
  unfolding deciding
  deciding-any-order c = ap (last_on c c) (counted-any-order is_top)

  pub layered-any-order : AllDiffer es → layered_order es ≡ layered_order fs
  unfolding layered_order creates
  layered-any-order u =
      standing-any-order (deciding es) (chosen-rearranged is_create r) (deciding-ranked es u ranked)
      ∙ ap (λ (last : Edit → Edit). standing last (filter is_create fs)) (fun_ext deciding-any-order)
