-- What the library's `list_any` and `count_by` say of a list, in the words of this project. Assumes nothing.
use mathlib.Core.Path.{◌≡◌, refl, ap, ◌∙◌}
use mathlib.Core.Bool.{Bool, true, false, ◌||◌, cond}
use mathlib.Core.List.{List, [], ◌∷◌}
use Prim.Native.Nat.{◌+◌}
use native.Mathlib.Omega.{arith}
use lib.ListN.{length}
use Rattle.std.specs.List.{list_any, count_by}
use Rattle.std.proofs.lemmas.List.Sums.{sum_by-cons}
use Rattle.math_lists.specs.SortedLists.{any, filter}

pub any_is : {A : Type 0} (p : A → Bool) (xs : List A) → list_any p xs ≡ any p xs
unfolding any
any_is p [] = refl
any_is p (x ∷ xs) = ap (λ (b : Bool). p x || b) (any_is p xs)

pub count_is : {A : Type 0} (p : A → Bool) (xs : List A) → count_by p xs ≡ length (filter p xs)
unfolding filter
count_is p [] = refl
count_is {A} p (x ∷ xs) = sum_by-cons (λ (y : A). cond (p y) 1 0) x xs ∙ go (p x) (count_is p xs)
  where
    go : (b : Bool) → count_by p xs ≡ length (filter p xs) →
        cond b 1 0 + count_by p xs ≡ length (cond b (x ∷ filter p xs) (filter p xs))
    go true e = omega arith
    go false e = omega arith
