-- The step for a new element k, in document 01's words and order, on any row of groups, true or not. m is the number
-- whose bits are the elements that conflict with k. Assumes nothing.
use Rattle.std.specs.Prelude.{Bool, not, ◌&&◌, cond, ℕ, ◌-◌, ◌^◌, eqb}
use mathlib.Core.List.{List, [], ◌∷◌, flat_map}
use Rattle.std.specs.Int.Bits.{bit_and, bit_or}
use Rattle.math_lists.specs.SortedLists.{any, filter, ascending}
use Rattle.math_maximal.specs.Groups.{bit}

-- g is compatible as a whole with what conflicts with m
abbrev pub compatible : ℕ → ℕ → Bool
compatible m g = eqb (bit_and g m) 0

-- the members of g that are not in m, together with k
abbrev pub candidate : ℕ → ℕ → ℕ → ℕ
candidate m k g = bit_or (g - bit_and g m) (2 ^ k)

-- g is part of h, and h is larger
abbrev pub part_of_larger : ℕ → ℕ → Bool
part_of_larger g h = eqb (bit_and g h) g && not (eqb g h)

-- a group compatible with k as a whole gains k; any other stays, and its members compatible with k, together with k,
-- are a candidate
unfoldable pub offered : ℕ → ℕ → ℕ → List ℕ
offered m k g = cond (compatible m g) (bit_or g (2 ^ k) ∷ []) (g ∷ candidate m k g ∷ [])

-- x holds k and is part of a larger one that holds k
unfoldable pub dropped : ℕ → List ℕ → ℕ → Bool
dropped k xs x = bit x k && any (λ y. bit y k && part_of_larger x y) xs

-- equal ones count once; a group holding k that is part of a larger one holding k is dropped; ascending
unfoldable pub step : ℕ → ℕ → List ℕ → List ℕ
step m k gs =
    let xs = flat_map (offered m k) gs in
    ascending (filter (λ x. not (dropped k xs x)) xs)
