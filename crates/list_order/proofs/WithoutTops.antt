-- The rest, and all objects of a drawing without to-top edits, have document 01's order. Where it says so it assumes
-- that no identity stands twice and that of any two edits one ranks before the other, as in sound tables.
use mathlib.Core.Path.{◌≡◌, ap, ap₂, fun_ext, ◌∙◌}
use mathlib.Core.Bool.{Bool, false, not}
use mathlib.Core.List.Memᴰ
use mathlib.Core.List.{List, [], append-nil}
use borrow.Author.Tests.{not-true}
use Rattle.math_lists.specs.SortedLists.{any, filter, gather_by}
use Rattle.math_lists.proofs.PutInOrder.{gathered-same}
use Rattle.edit_record.specs.declared.Edit.{Edit}
use Rattle.edit_record.specs.Answer1.{is_create, is_top}
use Rattle.edit_causal.specs.TotalOrder.{ranks_before}
use Rattle.edit_history.specs.EditsHeld.{creates}
use Rattle.math_lists.specs.Rearranged.{Mem}
use Rattle.group_true.specs.Identities.{AllDiffer}
use Rattle.math_lists.proofs.ListMembers.{chosen_at}
use Rattle.list_order.specs.Layers.{in_order, last_on, deciding, by_last, standing}
use Rattle.list_order.specs.Moves.{layered_order}
use Rattle.math_lists.proofs.Choices.{none-chosen, no-chosen, all-chosen}
use Rattle.list_order.proofs.Comparing.{create-not-top}
use Rattle.list_order.proofs.Standing.{standing-chosen}
use Rattle.list_order.proofs.Deciding.{AllRanked, rest-by-create, deciding-ranked}

-- objects that no to-top decides
plain-standing :
    {A : Type 0} (last : A → Edit) (xs : List A) → ((x : A) → Mem x xs → is_top (last x) ≡ false) →
    standing last xs ≡ by_last last xs
unfolding standing gather_by
plain-standing last xs h =
    rw (
      no-chosen (λ x. is_top (last x)) xs h,
      all-chosen (λ x. not (is_top (last x))) xs (λ x m. ap not (h x m)),
    )
    (append-nil (by_last last xs))

-- ---- the rest

pub rest-in-order :
    (es : List Edit) → AllDiffer es → AllRanked es →
    filter (λ c. not (is_top (deciding es c))) (layered_order es)
    ≡ in_order (filter (λ c. not (is_top (deciding es c))) (creates es))
unfolding layered_order in_order
rest-in-order es u ranked =
    let last = deciding es in
    let f : Edit → Bool = λ c. not (is_top (last c)) in
    let at : (c : Edit) → Mem c (filter f (creates es)) → is_top (last c) ≡ false
    = λ c m. not-true (is_top (last c)) (chosen_at f c (creates es) m).1 in
    standing-chosen last f (creates es) (deciding-ranked es u ranked)
    ∙ plain-standing last (filter f (creates es)) at
    ∙ gathered-same (λ a b. ranks_before (last a) (last b)) ranks_before (λ c. is_top (last c) ≡ false)
    (λ a b p q. ap₂ ranks_before (rest-by-create es a p) (rest-by-create es b q)) []
    (filter f (creates es)) (λ c m. absurd (Memᴰ.not-nil m)) at

-- ---- all objects

-- every Create decides
no-tops-decide : (es : List Edit) → any is_top es ≡ false → (c : Edit) → deciding es c ≡ c
unfolding deciding in_order gather_by last_on
no-tops-decide es none c = ap (λ (ls : List Edit). last_on c c (in_order ls)) (none-chosen is_top es none)

pub no-tops-no-change : (es : List Edit) → any is_top es ≡ false → layered_order es ≡ in_order (creates es)
unfolding layered_order creates in_order
no-tops-no-change es none =
    ap (λ (last : Edit → Edit). standing last (filter is_create es)) (fun_ext (no-tops-decide es none))
    ∙ plain-standing (λ c. c) (filter is_create es) (λ c m. create-not-top c (chosen_at is_create c es m).1)
