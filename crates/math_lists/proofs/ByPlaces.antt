-- The elements of a list by their places: zeros, what is made of each, elements that pass a test, what it is for a list
-- to be ascending, and that two lists which test the same are the same. Assumes nothing.
use mathlib.Core.Path.{◌≡◌, refl, sym}
use mathlib.Core.Logic.{◌⊎◌, inl, inr}
use mathlib.Core.Bool.{Bool, true, false, cond}
use mathlib.Core.List.Memᴰ
use mathlib.Core.List.{List, [], ◌∷◌, map}
use Prim.Native.Nat.{ℕ, zero, suc, ◌≤◌, ◌<◌}
use native.Mathlib.Omega.{arith}
use native.Mathlib.Decide.{dec_lt}
use lib.Dec.{eqb}
use lib.ListN.{length, get_or, replicate}
use lib.Seq.{ext_get_or}
use borrow.Author.Tests.{eqb-true}
use Rattle.math_lists.proofs.Booleans.{clash, either, or_left, or_right, eqb-self, both, and-on}
use Rattle.math_lists.specs.SortedLists.{any, elem, filter, Ascending}
use Rattle.math_lists.specs.NumbersBelow.{all, same_list}
use Rattle.math_lists.proofs.NumbersBelow.{all-on, all-at}

-- ---- zeros

pub zero-anywhere : (n i : ℕ) → ◌≡◌ {A = ℕ} (get_or (replicate n 0) i 0) 0
zero-anywhere zero i = refl
zero-anywhere (suc n) zero = refl
zero-anywhere (suc n) (suc i) = zero-anywhere n i

-- ---- what is made of each element

pub map-place :
    {A B : Type 0} (f : A → B) (l : List A) (i : ℕ) (a : A) (b : B) → i < length l →
    get_or (map f l) i b ≡ f (get_or l i a)
map-place f [] i a b h = absurd (omega arith)
map-place f (x ∷ l) zero a b h = refl
map-place f (x ∷ l) (suc i) a b h = map-place f l i a b (omega arith)

-- ---- elements

pub elem-place : (x : ℕ) (l : List ℕ) → elem x l ≡ true → (i : ℕ) × (i < length l) × (get_or l i 0 ≡ x)
unfolding any
elem-place x [] h = clash h refl
elem-place x (y ∷ l) h = go (either (eqb x y) (elem x l) h) (elem-place x l)
  where
    go : (eqb x y ≡ true) ⊎ (elem x l ≡ true) →
        (elem x l ≡ true → (i : ℕ) × (i < length l) × (get_or l i 0 ≡ x)) →
        (i : ℕ) × (i < suc (length l)) × (get_or (y ∷ l) i 0 ≡ x)
    go (inl e) ih = (zero, omega arith, sym (eqb-true x y e))
    go (inr q) ih = let (i, m, e) = ih q in (suc i, omega arith, e)

pub place-elem : (l : List ℕ) (i : ℕ) → i < length l → elem (get_or l i 0) l ≡ true
unfolding any
place-elem [] i h = absurd (omega arith)
place-elem (y ∷ l) zero h = or_left (eqb y y) (elem y l) (eqb-self y)
place-elem (y ∷ l) (suc i) h = or_right (eqb (get_or l i 0) y) (elem (get_or l i 0) l) (place-elem l i (omega arith))

module _ {A : Type 0} (f : A → Bool) (d : A) where
  pub any-place-on : (xs : List A) (i : ℕ) → i < length xs → f (get_or xs i d) ≡ true → any f xs ≡ true
  unfolding any
  any-place-on [] i l h = absurd (omega arith)
  any-place-on (x ∷ xs) zero l h = or_left (f x) (any f xs) h
  any-place-on (x ∷ xs) (suc i) l h = or_right (f x) (any f xs) (any-place-on xs i (omega arith) h)

  pub any-place-at : (xs : List A) → any f xs ≡ true → (i : ℕ) × (i < length xs) × (f (get_or xs i d) ≡ true)
  unfolding any
  any-place-at [] h = clash h refl
  any-place-at (x ∷ xs) h = go (either (f x) (any f xs) h) (any-place-at xs)
    where
      go : (f x ≡ true) ⊎ (any f xs ≡ true) → (any f xs ≡ true → (i : ℕ) × (i < length xs) × (f (get_or xs i d) ≡ true)) →
          (i : ℕ) × (i < suc (length xs)) × (f (get_or (x ∷ xs) i d) ≡ true)
      go (inl p) ih = (zero, omega arith, p)
      go (inr q) ih = let (i, l, p) = ih q in (suc i, omega arith, p)

-- an element that was chosen passes, and has its place in the whole list
pub filter-place :
    {A : Type 0} (f : A → Bool) (d : A) (xs : List A) (i : ℕ) → i < length (filter f xs) →
    (j : ℕ) × (j < length xs) × (get_or xs j d ≡ get_or (filter f xs) i d) × (f (get_or (filter f xs) i d) ≡ true)
unfolding filter
filter-place f d [] i l = absurd (omega arith)
filter-place {A} f d (x ∷ xs) i l = go (f x) refl i l (filter-place f d xs)
  where
    go : (b : Bool) → f x ≡ b → (i : ℕ) → i < length (cond b (x ∷ filter f xs) (filter f xs)) →
        ((i : ℕ) → i < length (filter f xs) →
        (j : ℕ) × (j < length xs) × (get_or xs j d ≡ get_or (filter f xs) i d) × (f (get_or (filter f xs) i d) ≡ true)) →
        (j : ℕ) × (j < suc (length xs))
        × (get_or (x ∷ xs) j d ≡ get_or (cond b (x ∷ filter f xs) (filter f xs)) i d)
        × (f (get_or (cond b (x ∷ filter f xs) (filter f xs)) i d) ≡ true)
    go true p zero l ih = (zero, omega arith, refl, p)
    go true p (suc i) l ih = let (j, m, e, q) = ih i (omega arith) in (suc j, omega arith, e, q)
    go false p i l ih = let (j, m, e, q) = ih i l in (suc j, omega arith, e, q)

-- ---- ascending

pub ascending-on :
    (l : List ℕ) → ((i : ℕ) → suc i < length l → get_or l i 0 < get_or l (suc i) 0) → Ascending l
ascending-on [] h = tt
ascending-on (x ∷ []) h = ((λ y w. absurd (Memᴰ.not-nil w)), tt)
ascending-on (x ∷ y ∷ l) h =
    let first : x < y = h zero (omega arith) in
    let (above, rest) = ascending-on (y ∷ l) (λ i k. h (suc i) (omega arith)) in (
      (λ z w. elim (Memᴰ.cases_cons w) [ inl e ↦ rw e first | inr v ↦ omega (arith, above z v) ]),
      (above, rest),
    )

pub ascending-at :
    (l : List ℕ) → Ascending l → (i : ℕ) → suc i < length l → get_or l i 0 < get_or l (suc i) 0
ascending-at [] a i h = absurd (omega arith)
ascending-at (x ∷ []) a i h = absurd (omega arith)
ascending-at (x ∷ y ∷ l) (above, rest) zero h = above y (Memᴰ.head refl)
ascending-at (x ∷ y ∷ l) (above, rest) (suc i) h = ascending-at (y ∷ l) rest i (omega arith)

-- ---- the largest

-- the elements of a list that has one have a largest
pub largest :
    (x : ℕ) (l : List ℕ) → elem x l ≡ true →
    (y : ℕ) × (elem y l ≡ true) × ((z : ℕ) → elem z l ≡ true → z ≤ y)
unfolding any
largest x [] h = clash h refl
largest x (w ∷ []) h = (
  w,
  or_left (eqb w w) false (eqb-self w),
  λ z q. elim (either (eqb z w) false q) [ inl e ↦ omega (arith, eqb-true z w e) | inr e ↦ clash e refl ],
)
largest x (w ∷ v ∷ l) h =
    let (y, e, top) = largest v (v ∷ l) (or_left (eqb v v) (elem v l) (eqb-self v)) in
    elim (dec_lt w y) [
      | yes m ↦ (
        y,
        or_right (eqb y w) (elem y (v ∷ l)) e,
        λ z q. elim (either (eqb z w) (elem z (v ∷ l)) q) [ inl r ↦ omega (arith, eqb-true z w r) | inr r ↦ top z r ],
      )
      | no m ↦ (
        w,
        or_left (eqb w w) (elem w (v ∷ l)) (eqb-self w),
        λ z q. elim (either (eqb z w) (elem z (v ∷ l)) q)
            [ inl r ↦ omega (arith, eqb-true z w r) | inr r ↦ omega (arith, top z r) ],
      )
    ]

-- ---- the same list

pub list-equal : (l m : List ℕ) → same_list l m ≡ true → l ≡ m
list-equal l m h =
    let (p, q) = both (eqb (length l) (length m)) (all (length l) (λ i. eqb (get_or l i 0) (get_or m i 0))) h in
    ext_get_or 0 l m (eqb-true (length l) (length m) p)
    (λ i k. eqb-true (get_or l i 0) (get_or m i 0) (all-at (length l) (λ j. eqb (get_or l j 0) (get_or m j 0)) q i k))

pub same_self : (l : List ℕ) → same_list l l ≡ true
same_self l =
    and-on (eqb (length l) (length l)) (all (length l) (λ i. eqb (get_or l i 0) (get_or l i 0))) (eqb-self (length l))
    (all-on (length l) (λ i. eqb (get_or l i 0) (get_or l i 0)) (λ i k. eqb-self (get_or l i 0)))
