-- The order of the list as Req 08 had it, when to-bottom had its effect, and what Req 12 made of it: the order of now
-- is that order of the edits without the to-bottom ones, so of a drawing without them it is the order before. No one
-- need believe the definitions here. Assumes nothing.
use mathlib.Core.Path.{◌≡◌, sym, ap, ap₂, fun_ext, ◌∙◌}
use mathlib.Core.Logic.{inl, inr}
use mathlib.Core.Bool.{Bool, true, false, not, ◌||◌, or-false}
use mathlib.Core.List.{List, [], ◌++◌}
use native.Mathlib.Omega.{arith}
use borrow.Author.Tests.{eqb-true, not-true}
use Rattle.math_lists.specs.SortedLists.{any, filter, gather_by}
use Rattle.math_lists.proofs.Booleans.{clash, off}
use Rattle.edit_record.specs.declared.Edit.{Edit}
use Rattle.edit_record.specs.Layout.{create_kind, top_kind, bottom_kind}
use Rattle.edit_record.specs.Answer1.{is_create, is_top, is_bottom, is_layer}
use Rattle.edit_causal.specs.TotalOrder.{ranks_before}
use Rattle.edit_history.specs.EditsHeld.{creates}
use Rattle.math_lists.specs.Rearranged.{Mem}
use Rattle.math_lists.proofs.ListMembers.{any-on, chosen_at}
use Rattle.list_order.specs.Layers.{in_order, last_on, deciding, by_last, standing}
use Rattle.list_order.specs.Moves.{layered_order}
use Rattle.math_lists.proofs.Choices.{no-chosen, chosen-same, chosen-twice}
use Rattle.list_order.proofs.Deciding.{deciding-cases}

-- ---- the order before

-- the last layer edit on the object of c in the total order, or its Create if it has none
unfoldable pub deciding_before : List Edit → Edit → Edit
deciding_before es c = last_on c c (in_order (filter is_layer es))

-- an object whose last layer edit is to-bottom stands first, the latest of these foremost; to-top ones stand last, the
-- latest rearmost; the rest keep document 01's order between them
unfoldable pub standing_before : (Edit → Edit) → List Edit → List Edit
standing_before last cs =
    gather_by (λ a b. ranks_before (last b) (last a)) [] (filter (λ c. is_bottom (last c)) cs)
    ++ (by_last last (filter (λ c. not (is_layer (last c))) cs) ++ by_last last (filter (λ c. is_top (last c)) cs))

unfoldable pub order_before : List Edit → List Edit
order_before es = standing_before (deciding_before es) (creates es)

-- ---- kinds

top-not-bottom : (e : Edit) → is_top e ≡ true → is_bottom e ≡ false
top-not-bottom e h =
    off (is_bottom e) (λ k. omega (arith, eqb-true e.kind top_kind h, eqb-true e.kind bottom_kind k))

pub create-not-bottom : (e : Edit) → is_create e ≡ true → is_bottom e ≡ false
create-not-bottom e h =
    off (is_bottom e) (λ k. omega (arith, eqb-true e.kind create_kind h, eqb-true e.kind bottom_kind k))

only-top : (e : Edit) → is_bottom e ≡ false → is_layer e ≡ is_top e
only-top e h = ap (λ (b : Bool). is_top e || b) h ∙ or-false (is_top e)

-- ---- without to-bottom edits

-- where none of them decides, the first of the three parts is empty and the other two are those of now
in-two-parts :
    (last : Edit → Edit) (cs : List Edit) → ((c : Edit) → Mem c cs → is_bottom (last c) ≡ false) →
    standing_before last cs ≡ standing last cs
unfolding standing_before standing gather_by
in-two-parts last cs h =
    ap₂
    (λ (bs ms : List Edit).
    gather_by (λ a b. ranks_before (last b) (last a)) [] bs
    ++ (by_last last ms ++ by_last last (filter (λ c. is_top (last c)) cs)))
    (no-chosen (λ c. is_bottom (last c)) cs h)
    (chosen-same (λ c. not (is_layer (last c))) (λ c. not (is_top (last c))) cs
    (λ c m. ap not (only-top (last c) (h c m))))

module _ (es : List Edit) (none : (e : Edit) → Mem e es → is_bottom e ≡ false) where
  decides-as-before : (c : Edit) → deciding_before es c ≡ deciding es c
  unfolding deciding_before deciding
  decides-as-before c =
      ap (λ (ls : List Edit). last_on c c (in_order ls))
      (chosen-same is_layer is_top es (λ e m. only-top e (none e m)))

  orders-as-before : layered_order es ≡ order_before es
  unfolding layered_order order_before creates
  orders-as-before =
      sym (ap (λ (last : Edit → Edit). standing_before last (filter is_create es)) (fun_ext decides-as-before)
      ∙ in-two-parts (deciding es) (filter is_create es) no-bottom)
    where
      no-bottom : (c : Edit) → Mem c (filter is_create es) → is_bottom (deciding es c) ≡ false
      no-bottom c m = elim (deciding-cases es c) [
        | inl e ↦ rw e (create-not-bottom c (chosen_at is_create c es m).1)
        | inr (k, t, on) ↦ top-not-bottom (deciding es c) t
      ]

-- ---- Req 12

-- a drawing without kind 5 stands as before
pub as_before : (es : List Edit) → any is_bottom es ≡ false → layered_order es ≡ order_before es
as_before es none = orders-as-before es (λ e m. off (is_bottom e) (λ h. clash (any-on is_bottom m h) none))

-- the edits but those of kind 5
abbrev pub left_in : List Edit → List Edit
left_in es = filter (λ e. not (is_bottom e)) es

pub left-same :
    (p : Edit → Bool) → ((e : Edit) → p e ≡ true → is_bottom e ≡ false) → (es : List Edit) →
    filter p (left_in es) ≡ filter p es
left-same p fit es = chosen-twice p (λ e. not (is_bottom e)) es (λ e h. ap not (fit e h))

-- they are all that the order hangs on
leaves-order : (es : List Edit) → layered_order (left_in es) ≡ layered_order es
unfolding layered_order deciding creates
leaves-order es =
    ap₂ (λ (ls cs : List Edit). standing (λ c. last_on c c (in_order ls)) cs)
    (left-same is_top top-not-bottom es) (left-same is_create create-not-bottom es)

-- every drawing stands as its edits but those of kind 5 stood before
pub bottoms-left-out : (es : List Edit) → layered_order es ≡ order_before (left_in es)
bottoms-left-out es =
    sym (leaves-order es)
    ∙ orders-as-before (left_in es)
    (λ e m. not-true (is_bottom e) (chosen_at (λ e. not (is_bottom e)) e es m).1)
