-- Two boxes of the same Sets: with the same numbers as far as n, or with other numbers, in the shape of `Renumbered`
-- of `math_maximal`. Assumes nothing.
use Rattle.std.specs.Prelude.{◌≡◌, ◌↔◌, true, ℕ, ◌<◌}
use Rattle.math_contexts.specs.Box.{Box}

-- b and b' are the same as far as n Sets go
pub record SameBelow (b b' : Box) (n : ℕ) : Type 0 where
  pub plains : (i j : ℕ) → i < n → j < n → b'.plain i j ≡ b.plain i j
  pub seens : (i j : ℕ) → i < n → j < n → b'.seen i j ≡ b.seen i j
  pub limiteds : (i : ℕ) → i < n → b'.limited i ≡ b.limited i
  pub nameds : (i j : ℕ) → i < n → j < n → b'.named i j ≡ b.named i j

-- f gives the number in b, of n Sets, of the Set that has the number i in b', of m Sets; and q the other way round
pub record SameSets (b : Box) (n : ℕ) (b' : Box) (m : ℕ) (f q : ℕ → ℕ) : Type 0 where
  pub into : (i : ℕ) → i < m → f i < n
  pub back : (j : ℕ) → j < n → q j < m
  pub there : (j : ℕ) → j < n → f (q j) ≡ j
  pub again : (i : ℕ) → i < m → q (f i) ≡ i
  pub plains : (i j : ℕ) → i < m → j < m → b'.plain i j ≡ b.plain (f i) (f j)
  pub seens : (i j : ℕ) → i < m → j < m → b'.seen i j ≡ b.seen (f i) (f j)
  pub limiteds : (i : ℕ) → i < m → b'.limited i ≡ b.limited (f i)
  pub nameds : (i j : ℕ) → i < m → j < m → b'.named i j ≡ b.named (f i) (f j)
  -- what a Set has seen, or lists, stands before it under both numberings or under none: `causal-seen` and
  -- `causal-named` give it where both orders are causal
  pub seen_order : (i j : ℕ) → i < m → j < m → b'.seen i j ≡ true → (j < i) ↔ (f j < f i)
  pub named_order : (i j : ℕ) → i < m → j < m → b'.named i j ≡ true → (j < i) ↔ (f j < f i)
