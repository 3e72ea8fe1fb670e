-- Worked orders, computed: three boxes by three sites, and layer edits on them, in the order of the list and by moves.
-- Assumes nothing.
use mathlib.Core.Path.{◌≡◌, refl}
use mathlib.Core.List.{List, [], ◌∷◌, map}
use Prim.Native.Nat.{ℕ}
use Rattle.math_lists.specs.NumbersBelow.{sum}
use Rattle.math_lists.specs.SortedLists.{filter, insert_by, gather_by}
use Rattle.edit_record.specs.declared.Edit.{Edit}
use Rattle.edit_record.specs.Layout.{create_kind, top_kind, bottom_kind}
use Rattle.edit_causal.specs.TotalOrder.{vector_sum}
use Rattle.edit_history.specs.EditsHeld.{creates}
use Rattle.list_order.specs.Layers.{in_order, last_on, deciding, standing}
use Rattle.list_order.specs.Moves.{layered_order, move, moves, moved}
use Rattle.list_order.proofs.OrderBefore.{deciding_before, standing_before, order_before}

-- an edit of a kind by site s, its sequence number q and vector v, on the box of site t
abbrev edit : ℕ → ℕ → ℕ → List ℕ → ℕ → ℕ → Edit
edit k s q v t p =
    record {
      kind = k;
      site = record { 0 = s };
      seq = record { 0 = q };
      vector = v;
      tsite = record { 0 = t };
      key = 0;
      tseq = record { 0 = p };
      value = 0;
      count = 0;
      members = [];
    }

-- each site makes a box, unseen by the others: 0.1, 1.1 and 2.1 stand in this order
abbrev boxes : List Edit
boxes =
    edit create_kind 2 1 (0 ∷ 0 ∷ 1 ∷ []) 0 0
    ∷ edit create_kind 0 1 (1 ∷ 0 ∷ 0 ∷ []) 0 0
    ∷ edit create_kind 1 1 (0 ∷ 1 ∷ 0 ∷ []) 0 0
    ∷ []

-- 0.2 takes the box of site 0 to the top; 1.2, unseen by it and of the same sum, that of site 1
abbrev two : List Edit
two =
    edit top_kind 1 2 (1 ∷ 2 ∷ 1 ∷ []) 1 1
    ∷ edit top_kind 0 2 (2 ∷ 1 ∷ 1 ∷ []) 0 1
    ∷ boxes

-- 2.2 has seen that and takes the box of site 0 to the top again
abbrev three : List Edit
three = edit top_kind 2 2 (2 ∷ 2 ∷ 2 ∷ []) 0 1 ∷ two

-- then 0.3 takes it to the bottom, and stands among the edits held without an effect
abbrev four : List Edit
four = edit bottom_kind 0 3 (3 ∷ 2 ∷ 2 ∷ []) 0 1 ∷ three

-- and 1.3 takes the box of site 2 to the top
abbrev five : List Edit
five = edit top_kind 1 3 (3 ∷ 3 ∷ 2 ∷ []) 2 1 ∷ four

-- the sites of the boxes in an order
abbrev sites_of : List Edit → List ℕ
sites_of cs = map (λ c. c.site.0) cs

-- the boxes stand so in the order that f gives
abbrev Orders : (List Edit → List Edit) → Type 0
Orders f =
    (sites_of (f boxes) ≡ 0 ∷ 1 ∷ 2 ∷ [])
    × (sites_of (f two) ≡ 2 ∷ 0 ∷ 1 ∷ [])
    × (sites_of (f three) ≡ 2 ∷ 1 ∷ 0 ∷ [])
    × (sites_of (f four) ≡ 2 ∷ 1 ∷ 0 ∷ [])
    × (sites_of (f five) ≡ 1 ∷ 0 ∷ 2 ∷ [])

pub worked-orders : Orders layered_order
unfolding layered_order standing deciding last_on in_order creates filter insert_by gather_by vector_sum sum
worked-orders = (refl, refl, refl, refl, refl)

pub worked-moves : Orders moved
unfolding moved moves move in_order creates filter insert_by gather_by vector_sum sum
worked-moves = (refl, refl, refl, refl, refl)

-- before Req 12 the to-bottom of 0.3 had its effect
pub worked-before : sites_of (order_before four) ≡ 0 ∷ 2 ∷ 1 ∷ []
unfolding order_before standing_before deciding_before last_on in_order creates filter insert_by gather_by vector_sum sum
worked-before = refl
