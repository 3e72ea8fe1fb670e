-- The context of a Set, worked out in the order of arrival from the contexts before it, and the conflict that it
-- brings. A context is a number, as a group is; bit j of it says whether j is a member. Assumes nothing.
use Rattle.std.specs.Prelude.{Bool, not, ◌&&◌, cond, List, [], ◌∷◌, ◌++◌, ℕ, zero, suc, get_or}
use Rattle.math_lists.specs.NumbersBelow.{some, all, mask}
use Rattle.math_maximal.specs.MaximalSets.{with}
use Rattle.math_maximal.specs.Groups.{bit}
use Rattle.math_contexts.specs.Box.{Box, disputed_by}

-- a is j or in the context of j, where cs are the contexts of the first Sets
abbrev pub reach_in : List ℕ → ℕ → ℕ → Bool
reach_in cs j = with (bit (get_or cs j 0)) j

-- a is disputed among those that i has seen, and i does not list it
unfoldable pub unnamed : Box → ℕ → ℕ → Bool
unnamed b i a = disputed_by b i a && not (b.named i a)

-- no such one is in the reach of j
unfoldable pub suits : Box → List ℕ → ℕ → ℕ → Bool
suits b cs i j = all i (λ a. not (reach_in cs j a && unnamed b i a))

-- the context of i, where cs are the contexts of those before it: each that i has seen and that suits; empty if i is
-- a plain Set
unfoldable pub context_in : Box → List ℕ → ℕ → ℕ
context_in b cs i = cond (b.limited i) (mask i (λ j. b.seen i j && suits b cs i j)) 0

-- the contexts of the first n Sets, each worked out from those before it
unfoldable pub contexts : Box → ℕ → List ℕ
contexts b zero = []
contexts b (suc n) = contexts b n ++ (context_in b (contexts b n) n ∷ [])

-- the context of i
unfoldable pub context : Box → ℕ → ℕ
context b i = context_in b (contexts b i) i

-- i and the members of its context
abbrev pub reach : Box → ℕ → ℕ → Bool
reach b i = with (bit (context b i)) i

-- some Set in the reach of i conflicts, by document 01's rule, with some Set in the reach of j
unfoldable pub conflicts : Box → ℕ → ℕ → Bool
conflicts b i j = some (suc i) (λ x. reach b i x && some (suc j) (λ y. reach b j y && b.plain x y))
