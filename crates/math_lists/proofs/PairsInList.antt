-- R between each element of a list and each later one. Where the laws say so, R goes both ways. Assumes nothing else.
use mathlib.Core.Path.{◌≡◌, sym, ◌∙◌}
use mathlib.Core.Logic.{◌⊎◌, inl, inr}
use mathlib.Core.Bool.{Bool, true, false, cond}
use mathlib.Core.List.Memᴰ
use mathlib.Core.List.{List, [], ◌∷◌, ◌++◌, map}
use Prim.Native.Nat.{ℕ, zero, suc, ◌<◌}
use native.Mathlib.Omega.{arith}
use lib.ListN.{length, get_or}
use Rattle.math_lists.specs.SortedLists.{filter, Asc}
use Rattle.math_lists.specs.Rearranged.{Mem, Rearranged, none, skip, swap, then}
use Rattle.math_lists.proofs.ListMembers.{here, chosen_at, mem-place}
use Rattle.math_lists.proofs.Rearranged.{turned, same-members}

module _ {A : Type 0} (R : A → A → Type 0) where
  -- ---- parts of a list

  pub pairs-snoc : (xs : List A) (e : A) → Asc R xs → ((x : A) → Mem x xs → R x e) → Asc R (xs ++ (e ∷ []))
  pairs-snoc [] e a h = ((λ y w. absurd (Memᴰ.not-nil w)), tt)
  pairs-snoc (x ∷ xs) e (a, a') h = (
    (λ y w. elim (Memᴰ.append_cases xs w)
        [ inl u ↦ a y u | inr v ↦ rw (Memᴰ.eq_of_singleton v) (h x here) ]),
    pairs-snoc xs e a' (λ z w. h z (Memᴰ.tail w)),
  )

  pub pairs-cross : (us vs : List A) → Asc R (us ++ vs) → (x y : A) → Mem x us → Mem y vs → R x y
  pairs-cross [] vs a x y m k = absurd (Memᴰ.not-nil m)
  pairs-cross (u ∷ us) vs (a, a') x y m k =
      elim (Memᴰ.cases_cons m)
      [ inl q ↦ rw q (a y (Memᴰ.append_right us k)) | inr n ↦ pairs-cross us vs a' x y n k ]

  -- between the i-th and a later one
  pub pairs-at :
      (d : A) (xs : List A) → Asc R xs → (i j : ℕ) → i < j → j < length xs → R (get_or xs i d) (get_or xs j d)
  pairs-at d [] a i j l m = absurd (omega arith)
  pairs-at d (x ∷ xs) (a, a') i zero l m = absurd (omega arith)
  pairs-at d (x ∷ xs) (a, a') zero (suc j) l m = a (get_or xs j d) (mem-place d xs j (omega arith))
  pairs-at d (x ∷ xs) (a, a') (suc i) (suc j) l m = pairs-at d xs a' i j (omega arith) (omega arith)

  pub pairs-front : (us vs : List A) → Asc R (us ++ vs) → Asc R us
  pairs-front [] vs a = tt
  pairs-front (u ∷ us) vs (a, a') = ((λ y m. a y (Memᴰ.append_left vs m)), pairs-front us vs a')

  pub pairs-chosen : (f : A → Bool) (xs : List A) → Asc R xs → Asc R (filter f xs)
  unfolding filter
  pairs-chosen f [] a = tt
  pairs-chosen f (x ∷ xs) (a, a') = go (f x) (pairs-chosen f xs a')
    where
      go : (b : Bool) → Asc R (filter f xs) → Asc R (cond b (x ∷ filter f xs) (filter f xs))
      go true ih = ((λ y m. a y (chosen_at f y xs m).0), ih)
      go false ih = ih

  pub pairs-weaken :
      (S : A → A → Type 0) (xs : List A) → ((x y : A) → Mem x xs → Mem y xs → R x y → S x y) → Asc R xs → Asc S xs
  pairs-weaken S [] h a = tt
  pairs-weaken S (x ∷ xs) h (a, a') = (
    (λ y m. h x y here (Memᴰ.tail m) (a y m)),
    pairs-weaken S xs (λ y z m k. h y z (Memᴰ.tail m) (Memᴰ.tail k)) a',
  )

  -- what is made of each element
  pub pairs_made : {B : Type 0} (f : B → A) (xs : List B) → Asc (λ x y. R (f x) (f y)) xs → Asc R (map f xs)
  pairs_made f [] a = tt
  pairs_made f (x ∷ xs) (a, a') = (
    (λ y m. let (z, n, e) = Memᴰ.of_map f xs m in rw (← e) (a z n)),
    pairs_made f xs a',
  )

  -- ---- where R goes both ways

  module _ (both_ways : (x y : A) → R x y → R y x) where
    pub pairs-rearranged : {xs ys : List A} → Rearranged xs ys → Asc R xs → Asc R ys
    pairs-rearranged none a = a
    pairs-rearranged (skip r) (a, a') = ((λ y m. a y (same-members (turned r) y m)), pairs-rearranged r a')
    pairs-rearranged (swap {x} {y}) (a, (b, c)) = (
      (λ z m. elim (Memᴰ.cases_cons m) [ inl e ↦ rw e (both_ways x y (a y here)) | inr n ↦ b z n ]),
      ((λ z m. a z (Memᴰ.tail m)), c),
    )
    pairs-rearranged (then r s) a = pairs-rearranged s (pairs-rearranged r a)

    -- two elements are one, or R is between them
    pub pairs-two : (xs : List A) → Asc R xs → (x y : A) → Mem x xs → Mem y xs → (x ≡ y) ⊎ R x y
    pairs-two [] a x y m n = absurd (Memᴰ.not-nil m)
    pairs-two (z ∷ zs) (a, a') x y m n =
        go (Memᴰ.cases_cons m) (Memᴰ.cases_cons n) (pairs-two zs a' x y)
      where
        go : (x ≡ z) ⊎ Mem x zs → (y ≡ z) ⊎ Mem y zs → (Mem x zs → Mem y zs → (x ≡ y) ⊎ R x y) → (x ≡ y) ⊎ R x y
        go (inl e) (inl f) ih = inl (e ∙ sym f)
        go (inl e) (inr l) ih = inr (rw e (a y l))
        go (inr k) (inl f) ih = inr (both_ways y x (rw f (a x k)))
        go (inr k) (inr l) ih = ih k l
