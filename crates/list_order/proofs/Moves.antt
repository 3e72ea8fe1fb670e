-- The theorem of the moves: starting from document 01's order and making the moves one by one in the total order gives
-- the order of the list. After each move every Create stands by the last move made of it, and a move made later puts
-- its object behind all others. Assumes what `Deciding` assumes.
use mathlib.Core.Path.{◌≡◌, sym, ◌∙◌}
use mathlib.Core.Bool.{Bool, true, false, not, not-not, cond}
use mathlib.Core.List.Memᴰ
use mathlib.Core.List.{List, [], ◌∷◌}
use borrow.Author.Tests.{not-true}
use Rattle.math_lists.specs.SortedLists.{filter, Asc}
use Rattle.math_lists.proofs.Booleans.{clash}
use Rattle.edit_record.specs.declared.Edit.{Edit}
use Rattle.edit_record.specs.Answer1.{is_create, is_top}
use Rattle.edit_causal.specs.TotalOrder.{ranks_before}
use Rattle.edit_history.specs.EditsHeld.{creates}
use Rattle.math_lists.specs.Rearranged.{Mem, Rearranged, then}
use Rattle.group_true.specs.Identities.{AllDiffer}
use Rattle.math_lists.proofs.Rearranged.{unchanged, turned, same-members}
use Rattle.math_lists.proofs.ListMembers.{here, chosen_at}
use Rattle.math_lists.proofs.PairsInList.{pairs-chosen, pairs-weaken}
use Rattle.group_true.proofs.Identities.{one-edit}
use Rattle.list_order.specs.Layers.{is_on, in_order, last_on, deciding}
use Rattle.list_order.specs.Moves.{layered_order, without, alone, move, moves, moved}
use Rattle.math_lists.proofs.Choices.{pairs-append}
use Rattle.math_lists.proofs.PutTogether.{gathered-rearranged, two-parts}
use Rattle.list_order.proofs.Comparing.{not-before-itself, create-not-top, level_before, top-last}
use Rattle.list_order.proofs.Standing.{Goes, one-standing, standing-rearranged, standing-goes}
use Rattle.list_order.proofs.Deciding.{Ranked, AllRanked, counted-sorted, counted-at, one-aim, deciding-ranked}

-- ---- the moves leave the same Creates

move-rearranged : (e : Edit) (xs : List Edit) → Rearranged (move e xs) xs
unfolding move
move-rearranged e xs = two-parts (λ c. not (is_on c e)) (λ c. is_on c e) xs (λ c. sym (not-not (is_on c e)))

moves-rearranged : (xs ls : List Edit) → Rearranged (moves xs ls) xs
unfolding moves
moves-rearranged xs [] = unchanged xs
moves-rearranged xs (e ∷ ls) = then (moves-rearranged (move e xs) ls) (move-rearranged e xs)

-- ---- a move puts its object behind all others

-- the deciding edits M after the move e
abbrev after : (Edit → Edit) → Edit → Edit → Edit
after M e c = cond (is_on c e) e (M c)

module _ (es : List Edit) (u : AllDiffer es) where
  module _ (M : Edit → Edit) (xs : List Edit) (e : Edit) (a : Asc (Goes M) xs)
      (held : (x : Edit) → Mem x xs → Mem x es)
      (later : (x : Edit) → Mem x xs → is_top (M x) ≡ true → Ranked (M x) e) where
    off_at : (x : Edit) → Mem x (without e xs) → Mem x xs × (is_on x e ≡ false)
    off_at x m =
        let (k, h) = chosen_at (λ c. not (is_on c e)) x xs m in
        (k, not-true (is_on x e) h)

    on-at : (x : Edit) → Mem x (alone e xs) → Mem x xs × (is_on x e ≡ true)
    on-at x m = chosen_at (λ c. is_on c e) x xs m

    without-stands : Asc (Goes (after M e)) (without e xs)
    without-stands =
        pairs-weaken (Goes M) (Goes (after M e)) (without e xs)
        (λ x y m k h. rw ((off_at x m).1, (off_at y k).1) h)
        (pairs-chosen (Goes M) (λ c. not (is_on c e)) xs a)

    -- there is one at most
    alone-stands : Asc (Goes (after M e)) (alone e xs)
    alone-stands =
        pairs-weaken (Goes M) (Goes (after M e)) (alone e xs)
        (λ x y m k h.
        let (mx, ox) = on-at x m in
        let (my, oy) = on-at y k in
        let same : x ≡ y = one-edit es u x y (held x mx) (held y my) (one-aim x y e ox oy) in
        absurd (not-before-itself (M y) (rw same at h)))
        (pairs-chosen (Goes M) (λ c. is_on c e) xs a)

    move-stands : is_top e ≡ true → Asc (Goes (after M e)) (move e xs)
    unfolding move
    move-stands t =
        pairs-append (Goes (after M e)) (without e xs) (alone e xs) without-stands alone-stands
        (λ x y m k.
        let (mx, ox) = off_at x m in
        rw (ox, (on-at y k).1) (top-last (M x) e t (later x mx)))

  -- ---- and so do all of them

  moves-stand :
      (M : Edit → Edit) (xs ls : List Edit) → Asc (Goes M) xs → ((x : Edit) → Mem x xs → Mem x es) →
      Asc Ranked ls → ((e : Edit) → Mem e ls → is_top e ≡ true) →
      ((x e : Edit) → Mem x xs → Mem e ls → is_top (M x) ≡ true → Ranked (M x) e) →
      Asc (Goes (λ c. last_on c (M c) ls)) (moves xs ls)
  unfolding moves last_on
  moves-stand M xs [] a held up tops later = a
  moves-stand M xs (e ∷ ls) a held (above, up) tops later =
      moves-stand (after M e) (move e xs) ls
      (move-stands M xs e a held (λ x m. later x e m here) (tops e here))
      (λ x m. held x (stays x m)) up (λ f m. tops f (Memᴰ.tail m))
      (λ x f m k. go x f (is_on x e) (above f k) (later x f (stays x m) (Memᴰ.tail k)))
    where
      stays : (x : Edit) → Mem x (move e xs) → Mem x xs
      stays x m = same-members (move-rearranged e xs) x m

      go : (x f : Edit) (b : Bool) → Ranked e f → (is_top (M x) ≡ true → Ranked (M x) f) →
          is_top (cond b e (M x)) ≡ true → Ranked (cond b e (M x)) f
      go x f true r h l = r
      go x f false r h l = h l

-- ---- the theorem

module _ (es : List Edit) (u : AllDiffer es) (ranked : AllRanked es) where
  create-at : (x : Edit) → Mem x (in_order (creates es)) → Mem x es × (is_create x ≡ true)
  unfolding creates
  create-at x m = counted-at is_create es x m

  start-stands : Asc (Goes (λ c. c)) (in_order (creates es))
  unfolding creates
  start-stands =
      pairs-weaken Ranked (Goes (λ c. c)) (in_order (creates es))
      (λ x y m k h.
      level_before x y (create-not-top x (create-at x m).1 ∙ sym (create-not-top y (create-at y k).1)) h)
      (counted-sorted is_create es ranked)

  moved-stands : Asc (Goes (λ c. deciding es c)) (moved es)
  unfolding moved deciding
  moved-stands =
      moves-stand es u (λ c. c) (in_order (creates es)) (in_order (filter is_top es)) start-stands
      (λ x m. (create-at x m).0) (counted-sorted is_top es ranked) (λ e m. (counted-at is_top es e m).1)
      (λ x e m k t. clash t (create-not-top x (create-at x m).1))

  pub theorem-of-the-moves : moved es ≡ layered_order es
  unfolding moved layered_order in_order
  theorem-of-the-moves =
      one-standing (deciding es) (moved es) (layered_order es)
      (then (moves-rearranged (in_order (creates es)) (in_order (filter is_top es)))
      (then (gathered-rearranged ranks_before (creates es))
      (turned (standing-rearranged (deciding es) (creates es)))))
      moved-stands
      (standing-goes (deciding es) (creates es) (deciding-ranked es u ranked))
