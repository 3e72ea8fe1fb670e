-- The Sets of an object by their keys, those of each key as one number. No one need believe it: laws in proofs/ say
-- what a Set is told by it. Assumes nothing.
use Rattle.std.specs.Prelude.{◌≡◌, List, ℕ, ◌^◌, ◌<◌, eqb, get_or}
use Rattle.edit_record.specs.Layout.{keys}
use Rattle.math_maximal.specs.Groups.{bit}
use Rattle.table_sets.specs.KeyForms.{set_at, chain_of, ToldAs}

-- the members of s are those of the first n Sets that have the key x
pub record SetsOf (rs ps : List ℕ) (x n s : ℕ) : Type 0 where
  pub low : s < 2 ^ n
  pub own : (j : ℕ) → j < n → bit s j ≡ eqb (chain_of (set_at rs ps j)) x

-- the first i numbers tell the first i Sets
abbrev pub ToldTo : List ℕ → List ℕ → ℕ → List ℕ → Type 0
ToldTo rs ps i tolds = (j : ℕ) → j < i → ToldAs (get_or tolds j 0) (set_at rs ps j)

-- the first i Sets by each key, and as they are told
pub record MaskedTo (rs ps : List ℕ) (i : ℕ) (sets tolds : List ℕ) : Type 0 where
  pub keyed : (x : ℕ) → x < keys → SetsOf rs ps x i (get_or sets x 0)
  pub told : ToldTo rs ps i tolds
