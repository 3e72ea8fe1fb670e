-- A list that is put in an order, or taken apart by tests and put together again, is rearranged. Assumes nothing.
use mathlib.Core.Path.{◌≡◌}
use mathlib.Core.Bool.{Bool, true, false, not, cond}
use mathlib.Core.List.{List, [], ◌∷◌, ◌++◌, append-nil}
use Rattle.math_lists.specs.SortedLists.{filter, insert_by, gather_by}
use Rattle.math_lists.specs.Rearranged.{Rearranged, none, skip, swap, then}
use Rattle.math_lists.proofs.Rearranged.{unchanged}

module _ {A : Type 0} where
  -- ---- one list after the other

  behind : (us : List A) {vs ws : List A} → Rearranged vs ws → Rearranged (us ++ vs) (us ++ ws)
  behind [] r = r
  behind (u ∷ us) r = skip (behind us r)

  pub joined-rearranged :
      {us vs us' vs' : List A} → Rearranged us us' → Rearranged vs vs' → Rearranged (us ++ vs) (us' ++ vs')
  joined-rearranged none s = s
  joined-rearranged (skip r) s = skip (joined-rearranged r s)
  joined-rearranged (swap {x} {y} {xs}) s = then swap (skip (skip (behind xs s)))
  joined-rearranged {vs' = vs'} (then r t) s = then (joined-rearranged r s) (joined-rearranged t (unchanged vs'))

  middle-first : (us vs : List A) (x : A) → Rearranged (us ++ (x ∷ vs)) (x ∷ (us ++ vs))
  middle-first [] vs x = unchanged (x ∷ vs)
  middle-first (u ∷ us) vs x = then (skip (middle-first us vs x)) swap

  -- ---- put in an order

  module _ (before : A → A → Bool) where
    insert-rearranged : (x : A) (ys : List A) → Rearranged (insert_by before x ys) (x ∷ ys)
    unfolding insert_by
    insert-rearranged x [] = unchanged (x ∷ [])
    insert-rearranged x (y ∷ ys) = go (before x y) (insert-rearranged y ys) (insert-rearranged x ys)
      where
        go : (b : Bool) → Rearranged (insert_by before y ys) (y ∷ ys) → Rearranged (insert_by before x ys) (x ∷ ys) →
            Rearranged (cond b (x ∷ insert_by before y ys) (y ∷ insert_by before x ys)) (x ∷ y ∷ ys)
        go true p q = skip p
        go false p q = then (skip q) swap

    gathered-with : (sorted xs : List A) → Rearranged (gather_by before sorted xs) (xs ++ sorted)
    unfolding gather_by
    gathered-with sorted [] = unchanged sorted
    gathered-with sorted (x ∷ xs) =
        then (gathered-with (insert_by before x sorted) xs)
        (then (behind xs (insert-rearranged x sorted)) (middle-first xs sorted x))

    pub gathered-rearranged : (xs : List A) → Rearranged (gather_by before [] xs) xs
    gathered-rearranged xs = rw append-nil at (gathered-with [] xs)

  -- ---- taken apart

  pub two-parts :
      (f g : A → Bool) (xs : List A) → ((x : A) → g x ≡ not (f x)) → Rearranged (filter f xs ++ filter g xs) xs
  unfolding filter
  two-parts f g [] h = none
  two-parts f g (x ∷ xs) h = rw (h x) (go (f x) (two-parts f g xs h))
    where
      go : (b : Bool) → Rearranged (filter f xs ++ filter g xs) xs →
          Rearranged
          (cond b (x ∷ filter f xs) (filter f xs) ++ cond (not b) (x ∷ filter g xs) (filter g xs)) (x ∷ xs)
      go true ih = skip ih
      go false ih = then (middle-first (filter f xs) (filter g xs) x) (skip ih)
