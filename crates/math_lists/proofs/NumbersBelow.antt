-- What a test, a sum, a number of bits and a choice over the numbers below n say. Assumes nothing.
use mathlib.Core.Path.{◌≡◌, refl, sym, ◌∙◌}
use mathlib.Core.Logic.{◌⊎◌, inl, inr}
use mathlib.Core.Bool.{Bool, true, false, ◌||◌, cond}
use mathlib.Core.List.{[], ◌∷◌}
use Prim.Native.Nat.{ℕ, zero, suc, ◌+◌, ◌*◌, ◌^◌, ◌≤◌, ◌<◌}
use native.Mathlib.Omega.{arith}
use native.Mathlib.Decide.{dec_lt, ℕ_discrete}
use lib.ListN.{length}
use lib.Dec.{eqb, ltb}
use lib.Pow.{pow_pos}
use borrow.Author.Tests.{eqb-true, eq-eqb, ne_eqb, lt-ltb, le-ltb}
use Rattle.math_lists.proofs.Booleans.{clash, decide, off, both, and-on, either, or_left, or_right, eqb-self}
use Rattle.math_lists.proofs.LastBelow.{last}
use Rattle.math_lists.proofs.Elements.{any_append}
use Rattle.math_lists.proofs.GrownAtEnd.{length-maybe}
use Rattle.math_lists.specs.NumbersBelow.{some, all, sum, mask, keep}
use Rattle.math_lists.specs.SortedLists.{any, elem}

-- ---- every number

pub all-on : (n : ℕ) (f : ℕ → Bool) → ((i : ℕ) → i < n → f i ≡ true) → all n f ≡ true
unfolding all
all-on zero f h = refl
all-on (suc n) f h = and-on (all n f) (f n) (all-on n f (λ i l. h i (omega arith))) (h n (omega arith))

pub all-at : (n : ℕ) (f : ℕ → Bool) → all n f ≡ true → (i : ℕ) → i < n → f i ≡ true
unfolding all
all-at zero f h i l = absurd (omega arith)
all-at (suc n) f h i l = go (last l) (all-at n f (both (all n f) (f n) h).0)
  where
    go : (i < n) ⊎ (i ≡ n) → ((j : ℕ) → j < n → f j ≡ true) → f i ≡ true
    go (inl m) ih = ih i m
    go (inr e) ih = rw e (both (all n f) (f n) h).1

pub all_same : (n : ℕ) (f g : ℕ → Bool) → ((i : ℕ) → i < n → f i ≡ g i) → all n f ≡ all n g
unfolding all
all_same zero f g h = refl
all_same (suc n) f g h = rw (all_same n f g (λ i l. h i (omega arith)), h n (omega arith))

-- ---- some number

pub some-on : (n : ℕ) (f : ℕ → Bool) (i : ℕ) → i < n → f i ≡ true → some n f ≡ true
unfolding some
some-on zero f i l p = absurd (omega arith)
some-on (suc n) f i l p = go (last l) (λ m. some-on n f i m p)
  where
    go : (i < n) ⊎ (i ≡ n) → (i < n → some n f ≡ true) → (some n f || f n) ≡ true
    go (inl m) ih = or_left (some n f) (f n) (ih m)
    go (inr e) ih = or_right (some n f) (f n) (rw e at p)

pub some_at : (n : ℕ) (f : ℕ → Bool) → some n f ≡ true → (i : ℕ) × (i < n) × (f i ≡ true)
unfolding some
some_at zero f h = clash h refl
some_at (suc n) f h = go (either (some n f) (f n) h) (some_at n f)
  where
    go : (some n f ≡ true) ⊎ (f n ≡ true) → (some n f ≡ true → (i : ℕ) × (i < n) × (f i ≡ true)) →
        (i : ℕ) × (i < suc n) × (f i ≡ true)
    go (inl p) ih = let (i, l, q) = ih p in (i, omega arith, q)
    go (inr p) ih = (n, omega arith, p)

pub some-off : (n : ℕ) (f : ℕ → Bool) → ((i : ℕ) → i < n → f i ≡ false) → some n f ≡ false
some-off n f h = off (some n f) (λ p. let (i, l, q) = some_at n f p in clash q (h i l))

pub none-at : (n : ℕ) (f : ℕ → Bool) → some n f ≡ false → (i : ℕ) → i < n → f i ≡ false
none-at n f h i l = off (f i) (λ p. clash (some-on n f i l p) h)

pub some_same : (n : ℕ) (f g : ℕ → Bool) → ((i : ℕ) → i < n → f i ≡ g i) → some n f ≡ some n g
unfolding some
some_same zero f g h = refl
some_same (suc n) f g h = rw (some_same n f g (λ i l. h i (omega arith)), h n (omega arith))

-- a number below n that passes, or none does
pub find : (n : ℕ) (f : ℕ → Bool) → ((i : ℕ) × (i < n) × (f i ≡ true)) ⊎ ((i : ℕ) → i < n → f i ≡ false)
find n f = elim (decide (some n f)) [ inl h ↦ inl (some_at n f h) | inr h ↦ inr (none-at n f h) ]

-- ---- the sum

pub sum_same : (n : ℕ) (f g : ℕ → ℕ) → ((i : ℕ) → i < n → f i ≡ g i) → sum n f ≡ sum n g
unfolding sum
sum_same zero f g h = refl
sum_same (suc n) f g h = rw (sum_same n f g (λ i l. h i (omega arith)), h n (omega arith))

-- entries below b give a sum of at most n times b
pub sum_below : (n b : ℕ) (f : ℕ → ℕ) → ((i : ℕ) → i < n → f i ≤ b) → sum n f ≤ n * b
unfolding sum
sum_below zero b f h = omega arith
sum_below (suc n) b f h = omega (arith, sum_below n b f (λ i l. h i (omega arith)), h n (omega arith))

-- what is nowhere smaller has no smaller sum; if it is larger somewhere, a larger one
pub sum-le : (n : ℕ) (f g : ℕ → ℕ) → ((i : ℕ) → i < n → f i ≤ g i) → sum n f ≤ sum n g
unfolding sum
sum-le zero f g h = omega arith
sum-le (suc n) f g h = omega (arith, sum-le n f g (λ i l. h i (omega arith)), h n (omega arith))

pub sum_lt :
    (n : ℕ) (f g : ℕ → ℕ) → ((i : ℕ) → i < n → f i ≤ g i) → (j : ℕ) → j < n → f j < g j → sum n f < sum n g
unfolding sum
sum_lt zero f g h j l k = absurd (omega arith)
sum_lt (suc n) f g h j l k = go (last l) (λ m. sum_lt n f g (λ i o. h i (omega arith)) j m k)
  where
    go : (j < n) ⊎ (j ≡ n) → (j < n → sum n f < sum n g) → sum n f + f n < sum n g + g n
    go (inl m) ih = omega (arith, ih m, h n (omega arith))
    go (inr e) ih = let b : f n < g n = rw e at k in omega (arith, sum-le n f g (λ i o. h i (omega arith)))

-- a sum over more numbers has the next entry in it
pub sum_past : (i n : ℕ) (f : ℕ → ℕ) → i < n → sum i f + f i ≤ sum n f
unfolding sum
sum_past i zero f l = absurd (omega arith)
sum_past i (suc n) f l = go (last l) (sum_past i n f)
  where
    go : (i < n) ⊎ (i ≡ n) → (i < n → sum i f + f i ≤ sum n f) → sum i f + f i ≤ sum n f + f n
    go (inl m) ih = omega (arith, ih m)
    go (inr e) ih = rw e (omega arith)

-- one more at t is one more in a sum that comes past t
pub sum-one-more :
    (n t : ℕ) (f : ℕ → ℕ) → sum n (λ i. f i + cond (eqb t i) 1 0) ≡ sum n f + cond (ltb t n) 1 0
unfolding sum
sum-one-more zero t f = rw (le-ltb t 0 (omega arith))
sum-one-more (suc n) t f = rw (sum-one-more n t f) (go (dec_lt t n) (ℕ_discrete t n))
  where
    go : Dec (t < n) → Dec (t ≡ n) →
        (sum n f + cond (ltb t n) 1 0) + (f n + cond (eqb t n) 1 0) ≡ (sum n f + f n) + cond (ltb t (suc n)) 1 0
    go (yes l) w = rw (lt-ltb t n l, ne_eqb t n (λ e. omega arith), lt-ltb t (suc n) (omega arith)) (omega arith)
    go (no a) (yes e) =
        rw (le-ltb t n (omega arith), eq-eqb t n e, lt-ltb t (suc n) (omega arith)) (omega arith)
    go (no a) (no d) =
        rw (le-ltb t n (omega arith), ne_eqb t n d, le-ltb t (suc n) (omega arith)) (omega arith)

-- ---- the number whose bits are those that pass

pub mask-same : (n : ℕ) (f g : ℕ → Bool) → ((i : ℕ) → i < n → f i ≡ g i) → mask n f ≡ mask n g
unfolding mask
mask-same n f g h = sum_same n (λ i. cond (f i) (2 ^ i) 0) (λ i. cond (g i) (2 ^ i) 0) (λ i l. rw (h i l))

pub mask-more : (n : ℕ) (f : ℕ → Bool) → mask (suc n) f ≡ mask n f + cond (f n) (2 ^ n) 0
unfolding mask sum
mask-more n f = refl

pub mask_below : (n : ℕ) (f : ℕ → Bool) → mask n f < 2 ^ n
unfolding mask sum
mask_below zero f = omega arith
mask_below (suc n) f = go (f n) (mask_below n f)
  where
    go : (b : Bool) → mask n f < 2 ^ n → mask n f + cond b (2 ^ n) 0 < 2 ^ suc n
    go true h = omega (arith, pow_pos n)
    go false h = omega (arith, pow_pos n)

-- ---- the numbers that pass

pub keep_same : (n : ℕ) (f g : ℕ → Bool) → ((i : ℕ) → i < n → f i ≡ g i) → keep n f ≡ keep n g
unfolding keep
keep_same zero f g h = refl
keep_same (suc n) f g h = rw (keep_same n f g (λ i l. h i (omega arith)), h n (omega arith))

pub keep-more : (f : ℕ → Bool) (n : ℕ) → length (keep (suc n) f) ≡ length (keep n f) + cond (f n) 1 0
unfolding keep
keep-more f n = length-maybe (keep n f) (f n) n

pub keep-grow : (f : ℕ → Bool) (i n : ℕ) → i ≤ n → length (keep i f) ≤ length (keep n f)
keep-grow f i zero l = let e : i ≡ 0 = omega arith in rw e (omega arith)
keep-grow f i (suc n) l = elim (ℕ_discrete i (suc n)) [
  | yes e ↦ rw e (omega arith)
  | no d ↦ omega (arith, keep-more f n, keep-grow f i n (omega arith))
]

one : (b : Bool) → (b || false) ≡ true → b ≡ true
one true h = refl
one false h = h

pub keep_at : (n : ℕ) (f : ℕ → Bool) (x : ℕ) → elem x (keep n f) ≡ true → (x < n) × (f x ≡ true)
unfolding keep any
keep_at zero f x h = clash h refl
keep_at (suc n) f x h =
    go (f n) refl
    (either (elem x (keep n f)) (elem x (cond (f n) (n ∷ []) []))
    (sym (any_append (eqb x) (keep n f) (cond (f n) (n ∷ []) [])) ∙ h))
    (keep_at n f x)
  where
    go : (b : Bool) → f n ≡ b → (elem x (keep n f) ≡ true) ⊎ (elem x (cond b (n ∷ []) []) ≡ true) →
        (elem x (keep n f) ≡ true → (x < n) × (f x ≡ true)) → (x < suc n) × (f x ≡ true)
    go b e (inl p) ih = (omega (arith, (ih p).0), (ih p).1)
    go true e (inr p) ih = let q : x ≡ n = eqb-true x n (one (eqb x n) p) in (omega arith, rw q e)
    go false e (inr p) ih = clash p refl

pub keep-on : (n : ℕ) (f : ℕ → Bool) (x : ℕ) → x < n → f x ≡ true → elem x (keep n f) ≡ true
unfolding keep any
keep-on zero f x l p = absurd (omega arith)
keep-on (suc n) f x l p = rw (any_append (eqb x) (keep n f)) (go (last l) (λ m. keep-on n f x m p))
  where
    go : (x < n) ⊎ (x ≡ n) → (x < n → elem x (keep n f) ≡ true) →
        (elem x (keep n f) || elem x (cond (f n) (n ∷ []) [])) ≡ true
    go (inl m) ih = or_left (elem x (keep n f)) _ (ih m)
    go (inr e) ih = or_right (elem x (keep n f)) _ (rw (← e, p) (or_left (eqb x x) false (eqb-self x)))
