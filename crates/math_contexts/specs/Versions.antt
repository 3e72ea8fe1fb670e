-- What it is to name a version, as a test and in words. Assumes nothing.
use Rattle.std.specs.Prelude.{◌≡◌, Bool, true, false, not, ◌&&◌, ◌||◌, cond, List, get_or, ℕ, ◌<◌}
use Rattle.std.specs.Bool.{beq}
use Rattle.math_lists.specs.NumbersBelow.{all}
use Rattle.math_maximal.specs.MaximalSets.{◌∈◌, Maximal}
use Rattle.math_maximal.specs.Groups.{bit, below, is_maximal}
use Rattle.math_contexts.specs.Box.{Box, disputed, disputed_by}
use Rattle.math_contexts.specs.Contexts.{context, reach, conflicts}
use Rattle.math_contexts.specs.NamedVersions.{versions_named, names_none}

-- answer 16 does not apply to i: a plain Set; or the context of i is a group of what i has seen, and its disputed
-- members are those that i lists
unfoldable pub names_version : Box → ℕ → Bool
names_version b i =
    not (b.limited i)
    || is_maximal (conflicts b) i (b.seen i) (bit (context b i))
    && all i (λ j. beq (b.named i j) (bit (context b i) j && disputed_by b i j))

-- each of the first n Sets that is limited names a version
abbrev pub Valid : Box → ℕ → Type 0
Valid b n = (i : ℕ) → i < n → names_version b i ≡ true

-- the context of i by those before it, cs: the version that i names; empty if i is a plain Set
abbrev pub context_by : Box → List ℕ → ℕ → ℕ
context_by b cs i = cond (b.limited i) (get_or (versions_named b cs i) 0 0) 0

-- the same by the versions that are named
abbrev pub AllNamed : Box → ℕ → Type 0
AllNamed b n = (i : ℕ) → i < n → names_none b i ≡ false

-- ---- in words

-- G is a group of the members of S below n, and its disputed members are those of M
pub record Version (b : Box) (n : ℕ) (S M G : ℕ → Bool) : Type 0 where
  pub group : Maximal (conflicts b) (below n S) G
  pub exact : (j : ℕ) → j < n → M j ≡ (G j && disputed b n S j)

-- the context of i is the version that i lists
abbrev pub Names : Box → ℕ → Type 0
Names b i = Version b i (b.seen i) (b.named i) (bit (context b i))

-- j is a member of S below n from which nothing disputed is reached but members of M
pub record KeepsTo (b : Box) (n : ℕ) (S M : ℕ → Bool) (j : ℕ) : Type 0 where
  pub inside : j ∈ below n S
  pub within : (a : ℕ) → a ∈ reach b j → a ∈ disputed b n S → a ∈ M

-- j is in the context of i
pub record InContext (b : Box) (i j : ℕ) : Type 0 where
  pub limits : b.limited i ≡ true
  pub keeps : KeepsTo b i (b.seen i) (b.named i) j
