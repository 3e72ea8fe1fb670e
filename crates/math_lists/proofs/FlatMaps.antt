-- What f makes of each element of a list, one after the other: where only the elements count, and how long it is in any
-- order of them. Assumes nothing.
use mathlib.Core.Path.{◌≡◌, refl, sym, ap₂, ◌∙◌}
use mathlib.Core.Bool.{true}
use mathlib.Core.List.Memᴰ
use mathlib.Core.List.{List, [], ◌∷◌, ◌++◌, map, flat_map, append_assoc}
use Prim.Native.Nat.{ℕ, zero, suc, ◌+◌}
use native.Mathlib.Omega.{arith}
use lib.ListN.{length, length-append}
use Rattle.math_lists.specs.NumbersBelow.{sum, keep}
use Rattle.math_lists.specs.Rearranged.{Mem, Rearranged, none, skip, swap, then}

-- ---- the same elements

pub flat-same :
    {A B : Type 0} (f g : A → List B) (xs : List A) → ((x : A) → Mem x xs → f x ≡ g x) → flat_map f xs ≡ flat_map g xs
unfolding flat_map
flat-same f g [] h = refl
flat-same {A} {B} f g (x ∷ xs) h =
    ap₂ (λ (a b : List B). a ++ b) (h x (Memᴰ.head refl)) (flat-same f g xs (λ y m. h y (Memᴰ.tail m)))

pub flat-made :
    {A B C : Type 0} (f : B → List C) (h : A → B) (xs : List A) → flat_map f (map h xs) ≡ flat_map (λ x. f (h x)) xs
unfolding flat_map
flat-made f h [] = refl
flat-made f h (x ∷ xs) = rw (flat-made f h xs)

pub flat-joined :
    {A B : Type 0} (f : A → List B) (xs ys : List A) → flat_map f (xs ++ ys) ≡ flat_map f xs ++ flat_map f ys
unfolding flat_map
flat-joined f [] ys = refl
flat-joined f (x ∷ xs) ys = rw (flat-joined f xs ys) (sym (append_assoc (f x) (flat_map f xs) (flat_map f ys)))

-- ---- how long

module _ {A B : Type 0} (f : A → List B) where
  flat_append : (xs ys : List A) → length (flat_map f (xs ++ ys)) ≡ length (flat_map f xs) + length (flat_map f ys)
  unfolding flat_map
  flat_append [] ys = omega arith
  flat_append (x ∷ xs) ys =
      omega (
        arith,
        length-append (f x) (flat_map f (xs ++ ys)),
        length-append (f x) (flat_map f xs),
        flat_append xs ys,
      )

  -- in any order of the elements
  pub flat-rearranged : {xs ys : List A} → Rearranged xs ys → length (flat_map f xs) ≡ length (flat_map f ys)
  unfolding flat_map
  flat-rearranged none = refl
  flat-rearranged (skip {x} {xs} {ys} r) =
      omega (arith, flat-rearranged r, length-append (f x) (flat_map f xs), length-append (f x) (flat_map f ys))
  flat-rearranged (swap {x} {y} {xs}) =
      omega (
        arith,
        length-append (f x) (f y ++ flat_map f xs),
        length-append (f y) (flat_map f xs),
        length-append (f y) (f x ++ flat_map f xs),
        length-append (f x) (flat_map f xs),
      )
  flat-rearranged (then r s) = flat-rearranged r ∙ flat-rearranged s

pub flat-below :
    {B : Type 0} (f : ℕ → List B) (n : ℕ) → length (flat_map f (keep n (λ i. true))) ≡ sum n (λ i. length (f i))
unfolding keep sum
flat-below f zero = unfold flat_map in refl
flat-below f (suc n) =
    flat_append f (keep n (λ i. true)) (n ∷ [])
    ∙ rw (flat-below f n) (unfold flat_map in omega (arith, length-append (f n) []))
