-- What a list and a rearrangement of it have in common. Assumes nothing.
use mathlib.Core.Path.{◌≡◌, refl, ap, ◌∙◌}
use mathlib.Core.Logic.{◌⊎◌, inl, inr}
use mathlib.Core.Bool.{Bool, true, false, cond}
use mathlib.Core.List.Memᴰ
use mathlib.Core.List.{List, [], ◌∷◌, map}
use Prim.Native.Nat.{suc}
use lib.ListN.{length}
use Rattle.math_lists.specs.SortedLists.{any, filter}
use Rattle.math_lists.proofs.Booleans.{same_test}
use Rattle.math_lists.specs.Rearranged.{Mem, Rearranged, none, skip, swap, then}
use Rattle.math_lists.proofs.ListMembers.{any-on, any_at}

module _ {A : Type 0} where
  -- ---- any list, and back again

  pub unchanged : (xs : List A) → Rearranged xs xs
  unchanged [] = none
  unchanged (x ∷ xs) = skip (unchanged xs)

  pub turned : {xs ys : List A} → Rearranged xs ys → Rearranged ys xs
  turned none = none
  turned (skip r) = skip (turned r)
  turned swap = swap
  turned (then r s) = then (turned s) (turned r)

  -- ---- the same elements

  pub same_length : {xs ys : List A} → Rearranged xs ys → length xs ≡ length ys
  same_length none = refl
  same_length (skip r) = ap suc (same_length r)
  same_length swap = refl
  same_length (then r s) = same_length r ∙ same_length s

  pub same-members : {xs ys : List A} → Rearranged xs ys → (x : A) → Mem x xs → Mem x ys
  same-members none x m = m
  same-members (skip r) x m =
      elim (Memᴰ.cases_cons m)
      [ inl e ↦ Memᴰ.head e | inr n ↦ Memᴰ.tail (same-members r x n) ]
  same-members (swap {x = a} {y = b} {xs = xs}) x m = go (Memᴰ.cases_cons m)
    where
      go : (x ≡ a) ⊎ Mem x (b ∷ xs) → Mem x (b ∷ a ∷ xs)
      go (inl e) = Memᴰ.tail (Memᴰ.head e)
      go (inr n) =
          elim (Memᴰ.cases_cons n)
          [ inl e ↦ Memᴰ.head e | inr k ↦ Memᴰ.tail (Memᴰ.tail k) ]
  same-members (then r s) x m = same-members s x (same-members r x m)

  -- what some element passes is the same in both
  pub any-rearranged : (f : A → Bool) {xs ys : List A} → Rearranged xs ys → any f xs ≡ any f ys
  any-rearranged f {xs} {ys} r =
      same_test (any f xs) (any f ys) (λ h. let (x, m, p) = any_at f xs h in any-on f (same-members r x m) p)
      (λ h. let (x, m, p) = any_at f ys h in any-on f (same-members (turned r) x m) p)

  -- ---- what is chosen of the elements, and what is made of each

  pub chosen-rearranged : (f : A → Bool) {xs ys : List A} → Rearranged xs ys → Rearranged (filter f xs) (filter f ys)
  unfolding filter
  chosen-rearranged f none = none
  chosen-rearranged f (skip {x} {xs} {ys} r) = go (f x) (chosen-rearranged f r)
    where
      go : (b : Bool) → Rearranged (filter f xs) (filter f ys) →
          Rearranged (cond b (x ∷ filter f xs) (filter f xs)) (cond b (x ∷ filter f ys) (filter f ys))
      go true ih = skip ih
      go false ih = ih
  chosen-rearranged f (swap {x} {y} {xs}) = go (f x) (f y)
    where
      zs : List A
      zs = filter f xs

      go : (a b : Bool) → Rearranged (cond a (x ∷ cond b (y ∷ zs) zs) (cond b (y ∷ zs) zs))
          (cond b (y ∷ cond a (x ∷ zs) zs) (cond a (x ∷ zs) zs))
      go true true = swap
      go true false = unchanged (x ∷ zs)
      go false true = unchanged (y ∷ zs)
      go false false = unchanged zs
  chosen-rearranged f (then r s) = then (chosen-rearranged f r) (chosen-rearranged f s)

pub made-rearranged : {A B : Type 0} (f : A → B) {xs ys : List A} → Rearranged xs ys → Rearranged (map f xs) (map f ys)
made-rearranged f none = none
made-rearranged f (skip r) = skip (made-rearranged f r)
made-rearranged f swap = swap
made-rearranged f (then r s) = then (made-rearranged f r) (made-rearranged f s)
