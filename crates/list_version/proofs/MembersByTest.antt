-- The members of a group one by one: the numbers that pass a test, and what is made of each. Assumes nothing.
use mathlib.Core.Path.{◌≡◌, refl, sym, ap, ◌∙◌}
use mathlib.Core.Bool.{Bool, true, false, ◌&&◌, cond}
use mathlib.Core.List.{List, [], ◌∷◌, ◌++◌, map, map-append, append-nil}
use Prim.Native.Nat.{ℕ, zero, suc, ◌+◌, ◌≤◌, ◌<◌}
use native.Mathlib.Numerals.{add-one}
use native.Mathlib.Omega.{arith}
use lib.ListN.{length, get_or, take}
use lib.Seq.{take-suc, take_all}
use Rattle.math_lists.specs.NumbersBelow.{keep}
use Rattle.math_lists.specs.SortedLists.{filter}
use Rattle.math_lists.proofs.GrownAtEnd.{filter-snoc}

-- ---- all elements by their places

module _ {A : Type 0} (d : A) (xs : List A) where
  places-below : (n : ℕ) → n ≤ length xs → map (λ i. get_or xs i d) (keep n (λ i. true)) ≡ take n xs
  unfolding keep
  places-below zero l = refl
  places-below (suc n) l =
      map-append (λ i. get_or xs i d) (keep n (λ i. true)) (n ∷ [])
      ∙ ap (λ (ys : List A). ys ++ (get_or xs n d ∷ [])) (places-below n (omega arith))
      ∙ sym (take-suc xs n d (omega arith))

  pub all-places : map (λ i. get_or xs i d) (keep (length xs) (λ i. true)) ≡ xs
  all-places = places-below (length xs) (omega arith) ∙ take_all (length xs) xs (omega arith)

-- ---- what is made of the numbers that pass

module _ {A : Type 0} (f : ℕ → A) (p : ℕ → Bool) (i : ℕ) where
  -- one number more
  pub one_more_lem : p i ≡ true → map f (keep (i + 1) p) ≡ map f (keep i p) ++ (f i ∷ [])
  unfolding keep
  one_more_lem h = rw (add-one, h) (map-append f (keep i p) (i ∷ []))

  pub none_more : p i ≡ false → map f (keep (i + 1) p) ≡ map f (keep i p)
  unfolding keep
  none_more h = rw (add-one, h) (ap (map f) (append-nil (keep i p)))

pub map-keep-same :
    {A : Type 0} (f h : ℕ → A) (p : ℕ → Bool) (n : ℕ) → ((i : ℕ) → i < n → p i ≡ true → f i ≡ h i) →
    map f (keep n p) ≡ map h (keep n p)
unfolding keep
map-keep-same f h p zero e = refl
map-keep-same {A} f h p (suc n) e = go (p n) refl (map-keep-same f h p n (λ i l. e i (omega arith)))
  where
    go : (b : Bool) → p n ≡ b → map f (keep n p) ≡ map h (keep n p) →
        map f (keep n p ++ cond b (n ∷ []) []) ≡ map h (keep n p ++ cond b (n ∷ []) [])
    go true q ih =
        rw (map-append f (keep n p) (n ∷ []), map-append h (keep n p) (n ∷ []), ih, e n (omega arith) q)
    go false q ih = rw (append-nil (keep n p)) ih

-- those of them that pass a second test
pub filter-keep :
    {A : Type 0} (d : A → Bool) (f : ℕ → A) (p : ℕ → Bool) (n : ℕ) →
    filter d (map f (keep n p)) ≡ map f (keep n (λ i. p i && d (f i)))
unfolding keep filter
filter-keep d f p zero = refl
filter-keep {A} d f p (suc n) = go (p n) (d (f n)) refl (filter-keep d f p n)
  where
    both-keep : List ℕ
    both-keep = keep n (λ i. p i && d (f i))

    go : (b e : Bool) → d (f n) ≡ e → filter d (map f (keep n p)) ≡ map f both-keep →
        filter d (map f (keep n p ++ cond b (n ∷ []) [])) ≡ map f (both-keep ++ cond (b && e) (n ∷ []) [])
    go true e q ih =
        rw (map-append f (keep n p) (n ∷ []), filter-snoc d (map f (keep n p)) (f n), ih, q) (snoc e)
      where
        snoc : (e : Bool) → map f both-keep ++ cond e (f n ∷ []) [] ≡ map f (both-keep ++ cond e (n ∷ []) [])
        snoc true = sym (map-append f both-keep (n ∷ []))
        snoc false = sym (map-append f both-keep [])
    go false e q ih = rw (append-nil (keep n p), append-nil both-keep) ih
