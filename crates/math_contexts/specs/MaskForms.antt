-- Forms that code uses: conflicts and answer 16 by the operations of a 64-bit number. `compatible m g` of
-- `math_maximal` says that g and m have no bit in common. Laws in proofs/ tie them to the definitions, so no one need
-- believe them. Assumes nothing.
use Rattle.std.specs.Prelude.{Bool, not, ◌&&◌, ◌||◌, List, ℕ, suc, ◌^◌, get_or}
use Rattle.std.specs.Bool.{beq}
use Rattle.std.specs.Int.Bits.{bit_or}
use Rattle.math_lists.specs.NumbersBelow.{some, all, mask}
use Rattle.math_maximal.specs.Groups.{bit}
use Rattle.math_maximal.specs.Step.{compatible}
use Rattle.math_contexts.specs.Box.{Box, disputed_by}
use Rattle.math_contexts.specs.Contexts.{contexts, context, reach}

-- j with its context, where cs are the contexts
abbrev pub reach_mask : List ℕ → ℕ → ℕ
reach_mask cs j = bit_or (get_or cs j 0) (2 ^ j)

-- those below n that conflict, by document 01's rule, with a member of P below n
abbrev pub foes : Box → ℕ → (ℕ → Bool) → ℕ
foes b n P = mask n (λ y. some n (λ x. P x && b.plain x y))

-- the Sets before k that conflict with k: those whose reach has a foe of the reach of k
unfoldable pub mask_conflicts : Box → ℕ → ℕ
mask_conflicts b k =
    let u = foes b (suc k) (reach b k) in
    mask k (λ j. not (compatible u (reach_mask (contexts b k) j)))

-- answer 16 does not apply to i: what i lists are the disputed members of its context, and its context is all that i
-- has seen whose reach has no foe of what i lists
unfoldable pub mask_names : Box → ℕ → Bool
mask_names b i =
    let u = foes b i (b.named i) in
    not (b.limited i)
    || all i (λ j. beq (b.named i j) (bit (context b i) j && disputed_by b i j))
    && all i (λ j. beq (bit (context b i) j) (b.seen i j && compatible u (reach_mask (contexts b i) j)))
