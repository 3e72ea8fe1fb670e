-- What is known of the Sets of one object, which the users call a box. The Sets are numbered in the order of their
-- arrival: i is the one that arrived i-th, counted from 0. Then what is asked of the first n Sets of a box, each where
-- it is needed. Assumes nothing.
use Rattle.std.specs.Prelude.{◌≡◌, Bool, true, false, ◌&&◌, ℕ, ◌≤◌, ◌<◌}
use Rattle.math_lists.specs.NumbersBelow.{some}
use Rattle.math_maximal.specs.MaximalSets.{◌∈◌}
use Rattle.math_maximal.specs.Groups.{below}

pub record Box : Type 0 where
  -- i and j conflict by document 01's rule
  pub plain : ℕ → ℕ → Bool
  -- the author of i had seen j
  pub seen : ℕ → ℕ → Bool
  -- i is of kind 3
  pub limited : ℕ → Bool
  -- j is one of the members that i lists
  pub named : ℕ → ℕ → Bool

-- what i has seen of those before it
abbrev pub seen_by : Box → ℕ → ℕ → Bool
seen_by b i = below i (b.seen i)

-- j is a member of S below n that conflicts, by document 01's rule, with a member of S below n
unfoldable pub disputed : Box → ℕ → (ℕ → Bool) → ℕ → Bool
disputed b n S j = below n S j && some n (λ k. S k && b.plain j k)

-- j is disputed among those that i has seen: later ones do not count
abbrev pub disputed_by : Box → ℕ → ℕ → Bool
disputed_by b i = disputed b i (b.seen i)

-- ---- what is asked of the first n Sets

-- conflict is document 01's, and having seen is what the vectors of accepted edits say
pub record Lawful (b : Box) (n : ℕ) : Type 0 where
  pub symmetric : (i j : ℕ) → b.plain i j ≡ b.plain j i
  pub irreflexive : (i : ℕ) → b.plain i i ≡ false
  -- who has seen an edit has seen what its author had seen
  pub transitive :
      (i j k : ℕ) → i < n → j < i → k < j → b.seen i j ≡ true → b.seen j k ≡ true → b.seen i k ≡ true
  -- no Set conflicts with one that it has seen
  pub compatible : (i j : ℕ) → i < n → j < i → b.seen i j ≡ true → b.plain i j ≡ false

-- the order of arrival is causal, and no Set lists one that it has not seen: asked where two orders are compared
pub record CausalBox (b : Box) (n : ℕ) : Type 0 where
  pub seen_first : (i j : ℕ) → i < n → j < n → b.seen i j ≡ true → j < i
  pub names_seen : (i j : ℕ) → i < n → j < n → b.named i j ≡ true → b.seen i j ≡ true

-- what a member of S below n has seen is in S
abbrev pub Closed : Box → ℕ → (ℕ → Bool) → Type 0
Closed b n S = (i j : ℕ) → i ∈ below n S → j ∈ seen_by b i → j ∈ below n S

-- past the n Sets there is none of kind 3
abbrev pub Ends : Box → ℕ → Type 0
Ends b n = (i : ℕ) → n ≤ i → b.limited i ≡ false
