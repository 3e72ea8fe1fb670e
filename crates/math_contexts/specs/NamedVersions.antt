-- The context of a limited Set in the paper's words: the version, among the Sets that its author had seen, that it
-- names; the conflict that contexts bring; and answer 16, that there is no such version. Laws in proofs/NamedVersions
-- show that there is one at most, and that it is what `Contexts` works out. Assumes nothing.
use Rattle.std.specs.Prelude.{Bool, ◌&&◌, cond, List, [], ◌∷◌, ◌++◌, ℕ, zero, suc, length, get_or, eqb}
use Rattle.std.specs.Bool.{beq}
use Rattle.math_lists.specs.NumbersBelow.{some, all}
use Rattle.math_lists.specs.SortedLists.{filter}
use Rattle.math_maximal.specs.Groups.{bit, groups}
use Rattle.math_contexts.specs.Box.{Box, disputed}
use Rattle.math_contexts.specs.Contexts.{reach_in}

-- i and j conflict, where cs are the contexts: some Set in the reach of i conflicts, by document 01's rule, with some
-- Set in the reach of j
unfoldable pub conflicts_by : Box → List ℕ → ℕ → ℕ → Bool
conflicts_by b cs i j = some (suc i) (λ x. reach_in cs i x && some (suc j) (λ y. reach_in cs j y && b.plain x y))

-- the disputed members of the group g, no conflicts counted but those among Sets that i has seen, are those that i
-- lists
unfoldable pub has_list : Box → ℕ → ℕ → Bool
has_list b i g = all i (λ j. beq (b.named i j) (bit g j && disputed b i (b.seen i) j))

-- the versions that i names, among the Sets that i has seen, where cs are the contexts of those before i
unfoldable pub versions_named : Box → List ℕ → ℕ → List ℕ
versions_named b cs i = filter (has_list b i) (groups (conflicts_by b cs) i (b.seen i))

-- the contexts of the first n Sets, each by those before it: the version that it names; empty if it is a plain Set
unfoldable pub contexts_named : Box → ℕ → List ℕ
contexts_named b zero = []
contexts_named b (suc n) =
    contexts_named b n ++ (cond (b.limited n) (get_or (versions_named b (contexts_named b n) n) 0 0) 0 ∷ [])

-- 16: i is limited, and there is no such version
unfoldable pub names_none : Box → ℕ → Bool
names_none b i = b.limited i && eqb (length (versions_named b (contexts_named b i) i)) 0
