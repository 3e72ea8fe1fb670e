-- The largest number of those that f gives of some edits: of one edit more, and of the same edits in any order.
-- Assumes nothing.
use mathlib.Core.Path.{◌≡◌, refl, ◌∙◌}
use mathlib.Core.Bool.{Bool, true, false, cond}
use mathlib.Core.List.{List, [], ◌∷◌, ◌++◌}
use Prim.Native.Nat.{ℕ, max}
use native.Mathlib.Omega.{arith}
use Rattle.math_lists.specs.SortedLists.{insert_by, gather_by}
use Rattle.edit_record.specs.declared.Edit.{Edit}
use Rattle.list_objects.specs.ObjectForms.{largest_of}

module _ (f : Edit → ℕ) where
  -- ---- one edit more

  pub largest-snoc : (es : List Edit) (e : Edit) → largest_of f (es ++ (e ∷ [])) ≡ max (largest_of f es) (f e)
  unfolding largest_of
  largest-snoc [] e = omega arith
  largest-snoc (x ∷ es) e = rw (largest-snoc es e) (omega arith)

  -- ---- put in an order

  module _ (before : Edit → Edit → Bool) where
    largest-insert : (x : Edit) (ys : List Edit) → largest_of f (insert_by before x ys) ≡ max (f x) (largest_of f ys)
    unfolding largest_of insert_by
    largest-insert x [] = refl
    largest-insert x (y ∷ ys) = go (before x y) (largest-insert y ys) (largest-insert x ys)
      where
        go : (b : Bool) → largest_of f (insert_by before y ys) ≡ max (f y) (largest_of f ys) →
            largest_of f (insert_by before x ys) ≡ max (f x) (largest_of f ys) →
            largest_of f (cond b (x ∷ insert_by before y ys) (y ∷ insert_by before x ys))
            ≡ max (f x) (max (f y) (largest_of f ys))
        go true p q = rw p
        go false p q = rw q (omega arith)

    pub largest-gathered :
        (sorted xs : List Edit) → largest_of f (gather_by before sorted xs) ≡ max (largest_of f sorted) (largest_of f xs)
    unfolding largest_of gather_by
    largest-gathered sorted [] = omega arith
    largest-gathered sorted (x ∷ xs) =
        largest-gathered (insert_by before x sorted) xs ∙ rw (largest-insert x sorted) (omega arith)
