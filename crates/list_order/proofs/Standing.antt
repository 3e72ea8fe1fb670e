-- Objects in the order of the list, in two parts as Req 12 says it, are those that come of comparing two at a time by
-- what decides their places; so the order of the list is known by what stands in it. Assumes, where it says so, that of
-- any two deciding edits one ranks before the other.
use mathlib.Core.Path.{◌≡◌, sym, ap, ap₂, ◌∙◌}
use mathlib.Core.Bool.{Bool, true, not, not-not}
use mathlib.Core.List.Memᴰ
use mathlib.Core.List.{List, [], ◌++◌, map, map-append}
use borrow.Author.Tests.{not-true}
use Rattle.math_lists.specs.SortedLists.{filter, Asc, gather_by}
use Rattle.math_lists.proofs.SortedLists.{asc-unique}
use Rattle.math_lists.proofs.PutInOrder.{OneWay, gathered-sorted, gathered-same, gathered-made}
use Rattle.edit_record.specs.declared.Edit.{Edit}
use Rattle.edit_record.specs.Answer1.{is_top}
use Rattle.edit_causal.specs.TotalOrder.{ranks_before}
use Rattle.math_lists.specs.Rearranged.{Mem, Rearranged, then}
use Rattle.math_lists.proofs.Rearranged.{turned, same-members, chosen-rearranged}
use Rattle.math_lists.proofs.ListMembers.{chosen_at}
use Rattle.math_lists.proofs.PairsInList.{pairs-chosen, pairs-weaken, pairs-rearranged}
use Rattle.list_version.proofs.RanksStrict.{ranks-through}
use Rattle.list_order.specs.Layers.{by_last, standing}
use Rattle.list_order.specs.LayerForms.{goes_before}
use Rattle.math_lists.proofs.Choices.{chosen-same, chosen-made, pairs-append}
use Rattle.math_lists.proofs.PutTogether.{joined-rearranged, gathered-rearranged, two-parts}
use Rattle.list_order.proofs.Comparing.{not-before-itself, goes_through, one-goes, one-way-turned}
use Rattle.list_order.proofs.Comparing.{level_before, rest-first}

-- ---- the two parts

abbrev is_rest : Edit → Bool
is_rest m = not (is_top m)

-- the objects whose deciding edits pass p
abbrev part : {A : Type 0} → (Edit → Bool) → (A → Edit) → List A → List A
part p last xs = by_last last (filter (λ x. p (last x)) xs)

-- ---- objects by other names

module _ {A B : Type 0} (f : A → B) (last : B → Edit) (xs : List A) where
  part-made : (p : Edit → Bool) → map f (part p (λ x. last (f x)) xs) ≡ part p last (map f xs)
  part-made p =
      gathered-made f (λ a b. ranks_before (last a) (last b)) [] (filter (λ x. p (last (f x))) xs)
      ∙ ap (by_last last) (chosen-made f (λ x. p (last x)) xs)

  pub standing-made : map f (standing (λ x. last (f x)) xs) ≡ standing last (map f xs)
  unfolding standing
  standing-made =
      let g : A → Edit = λ x. last (f x) in
      map-append f (part is_rest g xs) (part is_top g xs)
      ∙ ap₂ (λ (us vs : List B). us ++ vs) (part-made is_rest) (part-made is_top)

-- ---- the same deciding edits

module _ {A : Type 0} (last last' : A → Edit) (xs : List A) (same : (x : A) → Mem x xs → last x ≡ last' x) where
  part_same : (p : Edit → Bool) → part p last xs ≡ part p last' xs
  part_same p =
      gathered-same (λ a b. ranks_before (last a) (last b)) (λ a b. ranks_before (last' a) (last' b)) (λ x. Mem x xs)
      (λ x y m k. ap₂ ranks_before (same x m) (same y k)) [] (filter (λ x. p (last x)) xs)
      (λ x m. absurd (Memᴰ.not-nil m)) (λ x m. (chosen_at (λ x. p (last x)) x xs m).0)
      ∙ ap (by_last last') (chosen-same (λ x. p (last x)) (λ x. p (last' x)) xs (λ x m. ap p (same x m)))

  pub standing-same : standing last xs ≡ standing last' xs
  unfolding standing
  standing-same = ap₂ (λ (us vs : List A). us ++ vs) (part_same is_rest) (part_same is_top)

-- ---- the same objects

module _ {A : Type 0} (last : A → Edit) where
  part-rearranged : (p : Edit → Bool) (xs : List A) → Rearranged (part p last xs) (filter (λ x. p (last x)) xs)
  part-rearranged p xs = gathered-rearranged (λ a b. ranks_before (last a) (last b)) (filter (λ x. p (last x)) xs)

  pub standing-rearranged : (xs : List A) → Rearranged (standing last xs) xs
  unfolding standing
  standing-rearranged xs =
      then (joined-rearranged (part-rearranged is_rest xs) (part-rearranged is_top xs))
      (two-parts (λ x. is_rest (last x)) (λ x. is_top (last x)) xs (λ x. sym (not-not (is_top (last x)))))

  -- ---- each before all that follow it

  -- one of the two deciding edits ranks before the other
  abbrev pub OneRanks : A → A → Type 0
  OneRanks a b = OneWay ranks_before (last a) (last b)

  -- a stands before b
  abbrev pub Goes : A → A → Type 0
  Goes a b = goes_before (last a) (last b) ≡ true

  -- such a list is known by what stands in it
  pub one-standing : (xs ys : List A) → Rearranged xs ys → Asc Goes xs → Asc Goes ys → xs ≡ ys
  one-standing xs ys r a b =
      asc-unique Goes (λ x h. not-before-itself (last x) h) (λ x y z. goes_through (last x) (last y) (last z)) xs ys a b
      (same-members r) (same-members (turned r))

  part_at : (p : Edit → Bool) (xs : List A) (x : A) → Mem x (part p last xs) → p (last x) ≡ true
  part_at p xs x m = (chosen_at (λ x. p (last x)) x xs (same-members (part-rearranged p xs) x m)).1

  part-stands :
      (p : Edit → Bool) → ((m n : Edit) → p m ≡ true → p n ≡ true → is_top m ≡ is_top n) → (xs : List A) →
      Asc OneRanks xs → Asc Goes (part p last xs)
  part-stands p level xs ranked =
      pairs-weaken (λ x y. ranks_before (last x) (last y) ≡ true) Goes (part p last xs)
      (λ x y m k h. level_before (last x) (last y) (level (last x) (last y) (part_at p xs x m) (part_at p xs y k)) h)
      (gathered-sorted (λ a b. ranks_before (last a) (last b)) (λ x y z. ranks-through (last x) (last y) (last z)) []
      (filter (λ x. p (last x)) xs) tt (pairs-chosen OneRanks (λ x. p (last x)) xs ranked)
      (λ x y m w. absurd (Memᴰ.not-nil w)))

  module _ (xs : List A) (ranked : Asc OneRanks xs) where
    pub standing-goes : Asc Goes (standing last xs)
    unfolding standing
    standing-goes =
        pairs-append Goes (part is_rest last xs) (part is_top last xs)
        (part-stands is_rest (λ m n p q. not-true (is_top m) p ∙ sym (not-true (is_top n) q)) xs ranked)
        (part-stands is_top (λ m n p q. p ∙ sym q) xs ranked)
        (λ x y m k.
        rest-first (last x) (last y) (not-true (is_top (last x)) (part_at is_rest xs x m)) (part_at is_top xs y k))

    -- ---- by comparing

    pub standing-by-comparing : gather_by (λ a b. goes_before (last a) (last b)) [] xs ≡ standing last xs
    standing-by-comparing =
        one-standing (gather_by (λ a b. goes_before (last a) (last b)) [] xs) (standing last xs)
        (then (gathered-rearranged (λ a b. goes_before (last a) (last b)) xs) (turned (standing-rearranged xs)))
        (gathered-sorted (λ a b. goes_before (last a) (last b)) (λ x y z. goes_through (last x) (last y) (last z)) []
        xs tt
        (pairs-weaken OneRanks (OneWay (λ a b. goes_before (last a) (last b))) xs
        (λ a b m k w. one-goes (last a) (last b) w) ranked)
        (λ x y m w. absurd (Memᴰ.not-nil w)))
        standing-goes

  -- ---- all objects in another order, and some of them

  pub standing-any-order :
      {xs ys : List A} → Rearranged xs ys → Asc OneRanks xs → standing last xs ≡ standing last ys
  standing-any-order {xs} {ys} r ranked =
      one-standing (standing last xs) (standing last ys)
      (then (standing-rearranged xs) (then r (turned (standing-rearranged ys)))) (standing-goes xs ranked)
      (standing-goes ys
      (pairs-rearranged OneRanks (λ a b. one-way-turned (last a) (last b)) r ranked))

  pub standing-chosen :
      (f : A → Bool) (xs : List A) → Asc OneRanks xs → filter f (standing last xs) ≡ standing last (filter f xs)
  standing-chosen f xs ranked =
      one-standing (filter f (standing last xs)) (standing last (filter f xs))
      (then (chosen-rearranged f (standing-rearranged xs)) (turned (standing-rearranged (filter f xs))))
      (pairs-chosen Goes f (standing last xs) (standing-goes xs ranked))
      (standing-goes (filter f xs) (pairs-chosen OneRanks f xs ranked))

-- what is chosen keeps its order where neither it nor what decides its places changes
pub chosen-keep-order :
    {A : Type 0} (f : A → Bool) (last last' : A → Edit) (xs ys : List A) → Asc (OneRanks last) xs →
    Asc (OneRanks last') ys → filter f ys ≡ filter f xs →
    ((x : A) → Mem x xs → f x ≡ true → last' x ≡ last x) →
    filter f (standing last' ys) ≡ filter f (standing last xs)
chosen-keep-order f last last' xs ys ranked ranked' e same =
    standing-chosen last' f ys ranked'
    ∙ ap (standing last') e
    ∙ standing-same last' last (filter f xs) (λ x m. let (k, h) = chosen_at f x xs m in same x k h)
    ∙ sym (standing-chosen last f xs ranked)
