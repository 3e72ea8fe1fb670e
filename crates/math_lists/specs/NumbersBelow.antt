-- Tests, sums and choices over the numbers below n. A vector's entries, the records held and the Sets of an object are
-- all counted from 0, so these serve wherever document 01 says 'some', 'every', 'the number of' or 'the sum of'.
-- Assumes nothing.
use Rattle.std.specs.Prelude.{Bool, true, false, ◌&&◌, ◌||◌, cond, List, [], ◌∷◌, ◌++◌, ℕ, zero, suc, ◌+◌, ◌^◌, get_or, length, eqb}

-- some number below n passes
unfoldable pub some : ℕ → (ℕ → Bool) → Bool
some zero f = false
some (suc n) f = some n f || f n

-- every number below n passes
unfoldable pub all : ℕ → (ℕ → Bool) → Bool
all zero f = true
all (suc n) f = all n f && f n

-- the sum of f over the numbers below n
unfoldable pub sum : ℕ → (ℕ → ℕ) → ℕ
sum zero f = 0
sum (suc n) f = sum n f + f n

-- the number whose bits are the numbers below n that pass
unfoldable pub mask : ℕ → (ℕ → Bool) → ℕ
mask n f = sum n (λ i. cond (f i) (2 ^ i) 0)

-- the numbers below n that pass, ascending
unfoldable pub keep : ℕ → (ℕ → Bool) → List ℕ
keep zero f = []
keep (suc n) f = keep n f ++ cond (f n) (n ∷ []) []

-- two lists of numbers are the same
abbrev pub same_list : List ℕ → List ℕ → Bool
same_list l m = eqb (length l) (length m) && all (length l) (λ i. eqb (get_or l i 0) (get_or m i 0))
