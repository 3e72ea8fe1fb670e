-- Lists that grow at their end: what a choice makes of more elements; what a test, a choice and its length make of one
-- element more; and a test over a choice that holds all which pass. Assumes nothing.
use mathlib.Core.Path.{◌≡◌, refl, ap, ◌∙◌}
use mathlib.Core.Bool.{Bool, true, false, ◌||◌, cond, or-false}
use mathlib.Core.List.{List, [], ◌∷◌, ◌++◌}
use Prim.Native.Nat.{◌+◌, ◌≤◌}
use native.Mathlib.Omega.{arith}
use lib.ListN.{length, length-append}
use Rattle.math_lists.proofs.Booleans.{clash}
use Rattle.math_lists.proofs.Elements.{any_append}
use Rattle.math_lists.specs.SortedLists.{any, filter}

module _ {A : Type 0} where
  -- ---- more elements

  pub filter-append : (f : A → Bool) (xs more : List A) → filter f (xs ++ more) ≡ filter f xs ++ filter f more
  unfolding filter
  filter-append f [] more = refl
  filter-append f (y ∷ ys) more = go (f y) (filter-append f ys more)
    where
      go : (b : Bool) → filter f (ys ++ more) ≡ filter f ys ++ filter f more →
          cond b (y ∷ filter f (ys ++ more)) (filter f (ys ++ more))
          ≡ cond b (y ∷ filter f ys) (filter f ys) ++ filter f more
      go true ih = rw ih
      go false ih = ih

  -- ---- one element more

  pub any_snoc : (f : A → Bool) (xs : List A) (x : A) → any f (xs ++ (x ∷ [])) ≡ (any f xs || f x)
  unfolding any
  any_snoc f xs x = any_append f xs (x ∷ []) ∙ ap (λ (b : Bool). any f xs || b) (or-false (f x))

  pub filter-snoc :
      (f : A → Bool) (xs : List A) (x : A) → filter f (xs ++ (x ∷ [])) ≡ filter f xs ++ cond (f x) (x ∷ []) []
  unfolding filter
  filter-snoc f xs x = filter-append f xs (x ∷ [])

  -- a list to whose end one element is added, or none
  pub length-maybe : (xs : List A) (b : Bool) (x : A) → length (xs ++ cond b (x ∷ []) []) ≡ length xs + cond b 1 0
  length-maybe xs true x = length-append xs (x ∷ [])
  length-maybe xs false x = length-append xs []

  pub filter-length-snoc :
      (f : A → Bool) (xs : List A) (x : A) →
      length (filter f (xs ++ (x ∷ []))) ≡ length (filter f xs) + cond (f x) 1 0
  filter-length-snoc f xs x = ap length (filter-snoc f xs x) ∙ length-maybe (filter f xs) (f x) x

  -- a choice is no longer than what it is taken from
  pub filter-few : (f : A → Bool) (xs : List A) → length (filter f xs) ≤ length xs
  unfolding filter
  filter-few f [] = omega arith
  filter-few f (x ∷ xs) = go (f x) (filter-few f xs)
    where
      go : (b : Bool) → length (filter f xs) ≤ length xs →
          length (cond b (x ∷ filter f xs) (filter f xs)) ≤ length (x ∷ xs)
      go true h = omega arith
      go false h = omega arith

  -- ---- a test over a choice

  pub any-filter :
      (f g : A → Bool) (xs : List A) → ((x : A) → f x ≡ true → g x ≡ true) → any f (filter g xs) ≡ any f xs
  unfolding any filter
  any-filter f g [] h = refl
  any-filter f g (x ∷ xs) h = go (g x) refl (f x) refl (any-filter f g xs h)
    where
      go : (b : Bool) → g x ≡ b → (a : Bool) → f x ≡ a → any f (filter g xs) ≡ any f xs →
          any f (cond b (x ∷ filter g xs) (filter g xs)) ≡ (f x || any f xs)
      go true p a q ih = rw ih
      go false p true q ih = clash (h x q) p
      go false p false q ih = rw q ih
