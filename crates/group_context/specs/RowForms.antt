-- Forms that the code uses: numbers whose bits are the Sets of an object. Bit j of number i of `plains` says that Sets
-- i and j conflict by document 01's rule; number i of cs is the context of Set i. Laws in proofs/ tie the forms to
-- those of `math_contexts`, so no one need believe them. Assumes nothing.
use Rattle.std.specs.Prelude.{not, List, ℕ, get_or}
use Rattle.std.specs.Int.Bits.{bit_or}
use Rattle.math_lists.specs.NumbersBelow.{mask}
use Rattle.math_maximal.specs.Step.{compatible}

-- those of the first n whose number has a member of m
unfoldable pub meeting : List ℕ → ℕ → ℕ → ℕ
meeting rows n m = mask n (λ j. not (compatible m (get_or rows j 0)))

-- the members of m, and those of the first n that have one in their context
abbrev pub reaching : List ℕ → ℕ → ℕ → ℕ
reaching cs n m = bit_or m (meeting cs n m)

-- those of the first n that reach one that a member of c conflicts with, or one of `row`
abbrev pub conflicts_of : List ℕ → List ℕ → ℕ → ℕ → ℕ → ℕ
conflicts_of plains cs n row c = reaching cs n (bit_or row (meeting plains n c))
