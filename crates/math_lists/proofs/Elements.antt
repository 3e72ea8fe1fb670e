-- Tests over the elements of a list, and which elements a list has. Assumes nothing.
use mathlib.Core.Path.{◌≡◌, refl, sym, ◌∙◌}
use mathlib.Core.Logic.{◌⊎◌, inl, inr}
use mathlib.Core.Bool.{Bool, true, false, ◌||◌, cond, or_assoc}
use mathlib.Core.List.{List, [], ◌∷◌, ◌++◌, map, flat_map, Memᴰ}
use Prim.Native.Nat.{ℕ}
use lib.Dec.{eqb}
use borrow.Author.Tests.{eqb-true}
use Rattle.math_lists.proofs.Booleans.{clash, off, either, or_left, or_right, eqb-self}
use Rattle.math_lists.specs.SortedLists.{any, elem, filter}

-- ---- some element passes

pub any_append : {A : Type 0} (f : A → Bool) (xs ys : List A) → any f (xs ++ ys) ≡ (any f xs || any f ys)
unfolding any
any_append f [] ys = refl
any_append f (x ∷ xs) ys = rw (any_append f xs ys) (sym (or_assoc (f x) (any f xs) (any f ys)))

pub any-on : (f : ℕ → Bool) (xs : List ℕ) (x : ℕ) → elem x xs ≡ true → f x ≡ true → any f xs ≡ true
unfolding any
any-on f [] x h p = h
any-on f (y ∷ ys) x h p = go (either (eqb x y) (elem x ys) h) (λ q. any-on f ys x q p)
  where
    go : (eqb x y ≡ true) ⊎ (elem x ys ≡ true) → (elem x ys ≡ true → any f ys ≡ true) → (f y || any f ys) ≡ true
    go (inl e) ih = or_left (f y) (any f ys) (rw (eqb-true x y e) at p)
    go (inr q) ih = or_right (f y) (any f ys) (ih q)

pub any_at : (f : ℕ → Bool) (xs : List ℕ) → any f xs ≡ true → (x : ℕ) × (elem x xs ≡ true) × (f x ≡ true)
unfolding any
any_at f [] h = clash h refl
any_at f (y ∷ ys) h = go (either (f y) (any f ys) h) (any_at f ys)
  where
    go : (f y ≡ true) ⊎ (any f ys ≡ true) →
        (any f ys ≡ true → (x : ℕ) × (elem x ys ≡ true) × (f x ≡ true)) →
        (x : ℕ) × ((eqb x y || elem x ys) ≡ true) × (f x ≡ true)
    go (inl p) ih = (y, or_left (eqb y y) (elem y ys) (eqb-self y), p)
    go (inr q) ih = let (x, e, p) = ih q in (x, or_right (eqb x y) (elem x ys) e, p)

pub any-off : (f : ℕ → Bool) (xs : List ℕ) → ((x : ℕ) → elem x xs ≡ true → f x ≡ false) → any f xs ≡ false
any-off f xs h = off (any f xs) (λ p. let (x, e, q) = any_at f xs p in clash q (h x e))

-- ---- an element, as the library has it

pub elem→mem : (x : ℕ) (xs : List ℕ) → elem x xs ≡ true → Memᴰ x xs
unfolding any
elem→mem x [] h = clash h refl
elem→mem x (y ∷ ys) h = go (either (eqb x y) (elem x ys) h) (elem→mem x ys)
  where
    go : (eqb x y ≡ true) ⊎ (elem x ys ≡ true) → (elem x ys ≡ true → Memᴰ x ys) → Memᴰ x (y ∷ ys)
    go (inl e) ih = Memᴰ.head (eqb-true x y e)
    go (inr t) ih = Memᴰ.tail (ih t)

pub mem→elem : {x : ℕ} {xs : List ℕ} → Memᴰ x xs → elem x xs ≡ true
unfolding any
mem→elem {x} (Memᴰ.head {x = y} {xs = ys} e) = or_left (eqb x y) (elem x ys) (rw e (eqb-self y))
mem→elem {x} (Memᴰ.tail {x = y} {xs = ys} m) = or_right (eqb x y) (elem x ys) (mem→elem m)

-- ---- the elements that pass

pub filter-at : (f : ℕ → Bool) (xs : List ℕ) (x : ℕ) → elem x (filter f xs) ≡ true → (elem x xs ≡ true) × (f x ≡ true)
unfolding any filter
filter-at f [] x h = clash h refl
filter-at f (y ∷ ys) x h = go (f y) refl h (filter-at f ys x)
  where
    go : (b : Bool) → f y ≡ b → elem x (cond b (y ∷ filter f ys) (filter f ys)) ≡ true →
        (elem x (filter f ys) ≡ true → (elem x ys ≡ true) × (f x ≡ true)) →
        ((eqb x y || elem x ys) ≡ true) × (f x ≡ true)
    go true p h ih =
        elim (either (eqb x y) (elem x (filter f ys)) h) [
          | inl e ↦ (or_left (eqb x y) (elem x ys) e, rw (eqb-true x y e) p)
          | inr q ↦ (or_right (eqb x y) (elem x ys) (ih q).0, (ih q).1)
        ]
    go false p h ih = (or_right (eqb x y) (elem x ys) (ih h).0, (ih h).1)

pub filter-on : (f : ℕ → Bool) (xs : List ℕ) (x : ℕ) → elem x xs ≡ true → f x ≡ true → elem x (filter f xs) ≡ true
unfolding any filter
filter-on f [] x h p = h
filter-on f (y ∷ ys) x h p = go (f y) refl (either (eqb x y) (elem x ys) h) (λ q. filter-on f ys x q p)
  where
    go : (b : Bool) → f y ≡ b → (eqb x y ≡ true) ⊎ (elem x ys ≡ true) →
        (elem x ys ≡ true → elem x (filter f ys) ≡ true) → elem x (cond b (y ∷ filter f ys) (filter f ys)) ≡ true
    go true q (inl e) ih = or_left (eqb x y) (elem x (filter f ys)) e
    go true q (inr m) ih = or_right (eqb x y) (elem x (filter f ys)) (ih m)
    go false q (inl e) ih = clash (rw (eqb-true x y e) at p) q
    go false q (inr m) ih = ih m

-- ---- what f makes of each element: one thing, or a list, one after the other

pub any-map : {A B : Type 0} (p : B → Bool) (f : A → B) (xs : List A) → any p (map f xs) ≡ any (λ x. p (f x)) xs
unfolding any
any-map p f [] = refl
any-map p f (x ∷ xs) = rw (any-map p f xs)

pub any-flat_map :
    {A B : Type 0} (p : B → Bool) (f : A → List B) (xs : List A) →
    any p (flat_map f xs) ≡ any (λ x. any p (f x)) xs
unfolding any flat_map
any-flat_map p f [] = refl
any-flat_map p f (x ∷ xs) = any_append p (f x) (flat_map f xs) ∙ rw (any-flat_map p f xs)
