-- The groups of the elements below n, as numbers, by their definition: no arrival order is in it. A group is a number;
-- bit i of it says whether i is a member. Assumes nothing.
use Rattle.std.specs.Prelude.{Bool, true, not, ◌&&◌, List, ℕ, ◌/◌, ◌%◌, ◌^◌, eqb, ltb}
use Rattle.std.specs.Bool.{beq}
use Rattle.math_lists.specs.NumbersBelow.{all, keep}

unfoldable pub bit : ℕ → ℕ → Bool
bit g i = eqb (g / 2 ^ i % 2) 1

-- the members of S below n; every number
unfoldable pub below : ℕ → (ℕ → Bool) → ℕ → Bool
below n S i = ltb i n && S i

abbrev pub every : ℕ → Bool
every i = true

-- i conflicts with no member of P below n
unfoldable pub fits : (ℕ → ℕ → Bool) → ℕ → (ℕ → Bool) → ℕ → Bool
fits c n P i = all n (λ j. not (P j && c i j))

-- a member of S is in P exactly if it conflicts with no member of P
unfoldable pub is_maximal : (ℕ → ℕ → Bool) → ℕ → (ℕ → Bool) → (ℕ → Bool) → Bool
is_maximal c n S P = all n (λ i. beq (P i) (S i && fits c n P i))

-- the maximal conflict-free sets of members of S below n, ascending
unfoldable pub groups : (ℕ → ℕ → Bool) → ℕ → (ℕ → Bool) → List ℕ
groups c n S = keep (2 ^ n) (λ g. is_maximal c n S (bit g))
