-- What is chosen from a list of any type: nothing, all, the same by two tests, and of what is made of each element; and
-- pairs in lists that are joined or made. Assumes nothing.
use mathlib.Core.Path.{◌≡◌, refl, ◌∙◌}
use mathlib.Core.Logic.{inl, inr}
use mathlib.Core.Bool.{Bool, true, false, cond}
use mathlib.Core.List.Memᴰ
use mathlib.Core.List.{List, [], ◌∷◌, ◌++◌, map, append-nil}
use Rattle.math_lists.specs.SortedLists.{any, filter, Asc}
use Rattle.math_lists.proofs.Booleans.{clash, neither}
use Rattle.math_lists.proofs.GrownAtEnd.{filter-snoc}
use Rattle.math_lists.specs.Rearranged.{Mem}
use Rattle.math_lists.proofs.ListMembers.{here}

module _ {A : Type 0} where
  -- ---- nothing, and all

  pub none-chosen : (f : A → Bool) (xs : List A) → any f xs ≡ false → filter f xs ≡ []
  unfolding any filter
  none-chosen f [] h = refl
  none-chosen f (x ∷ xs) h = let (p, q) = neither (f x) (any f xs) h in rw p (none-chosen f xs q)

  pub no-chosen : (f : A → Bool) (xs : List A) → ((x : A) → Mem x xs → f x ≡ false) → filter f xs ≡ []
  unfolding filter
  no-chosen f [] h = refl
  no-chosen f (x ∷ xs) h = rw (h x here) (no-chosen f xs (λ y m. h y (Memᴰ.tail m)))

  pub all-chosen : (f : A → Bool) (xs : List A) → ((x : A) → Mem x xs → f x ≡ true) → filter f xs ≡ xs
  unfolding filter
  all-chosen f [] h = refl
  all-chosen f (x ∷ xs) h = rw (h x here, all-chosen f xs (λ y m. h y (Memᴰ.tail m)))

  pub not-chosen-snoc : (f : A → Bool) (xs : List A) (x : A) → f x ≡ false → filter f (xs ++ (x ∷ [])) ≡ filter f xs
  not-chosen-snoc f xs x h = filter-snoc f xs x ∙ rw h (append-nil (filter f xs))

  -- ---- the same

  pub chosen-same : (f g : A → Bool) (xs : List A) → ((x : A) → Mem x xs → f x ≡ g x) → filter f xs ≡ filter g xs
  unfolding filter
  chosen-same f g [] h = refl
  chosen-same f g (x ∷ xs) h = rw (h x here, chosen-same f g xs (λ y m. h y (Memᴰ.tail m)))

  -- what passes f of what passes g is what passes f, where f is the narrower test
  pub chosen-twice :
      (f g : A → Bool) (xs : List A) → ((x : A) → f x ≡ true → g x ≡ true) → filter f (filter g xs) ≡ filter f xs
  unfolding filter
  chosen-twice f g [] h = refl
  chosen-twice f g (x ∷ xs) h = go (g x) refl (f x) refl (chosen-twice f g xs h)
    where
      go : (b : Bool) → g x ≡ b → (a : Bool) → f x ≡ a → filter f (filter g xs) ≡ filter f xs →
          filter f (cond b (x ∷ filter g xs) (filter g xs)) ≡ cond (f x) (x ∷ filter f xs) (filter f xs)
      go true p a q ih = rw ih
      go false p true q ih = clash (h x q) p
      go false p false q ih = rw q ih

  -- ---- R between each element and each later one

  pub pairs-append :
      (R : A → A → Type 0) (us vs : List A) → Asc R us → Asc R vs →
      ((x y : A) → Mem x us → Mem y vs → R x y) → Asc R (us ++ vs)
  pairs-append R [] vs a b h = b
  pairs-append R (u ∷ us) vs (a, a') b h = (
    (λ y w. elim (Memᴰ.append_cases us w) [ inl m ↦ a y m | inr m ↦ h u y here m ]),
    pairs-append R us vs a' b (λ x y m k. h x y (Memᴰ.tail m) k),
  )

-- ---- of what f makes of each element

module _ {A B : Type 0} (f : A → B) where
  pub chosen-made : (p : B → Bool) (xs : List A) → map f (filter (λ x. p (f x)) xs) ≡ filter p (map f xs)
  unfolding filter
  chosen-made p [] = refl
  chosen-made p (x ∷ xs) = go (p (f x)) (chosen-made p xs)
    where
      go : (b : Bool) → map f (filter (λ x. p (f x)) xs) ≡ filter p (map f xs) →
          map f (cond b (x ∷ filter (λ x. p (f x)) xs) (filter (λ x. p (f x)) xs))
          ≡ cond b (f x ∷ filter p (map f xs)) (filter p (map f xs))
      go true ih = rw ih
      go false ih = ih

  pub pairs-unmade : (R : B → B → Type 0) (xs : List A) → Asc R (map f xs) → Asc (λ x y. R (f x) (f y)) xs
  pairs-unmade R [] a = tt
  pairs-unmade R (x ∷ xs) (a, a') = ((λ y m. a (f y) (Memᴰ.map f m)), pairs-unmade R xs a')
