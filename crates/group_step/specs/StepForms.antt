-- The step in the order in which the code makes it, and what it is on a row of which no group is part of another, where
-- none conflicts with the new Set, and where what remains of those that do is part of one that does not. All are `step`
-- of the crate `math_maximal` on a row of groups; the laws `code_step_lem`, `apart-step` and `covered-step` show that, so
-- nothing here has to be believed. Assumes nothing.
use Rattle.std.specs.Prelude.{◌≡◌, Bool, true, false, not, List, ◌++◌, map, ℕ, ◌^◌, eqb}
use Rattle.std.specs.Int.Bits.{bit_and, bit_or}
use Rattle.math_lists.specs.SortedLists.{any, elem, filter, ascending}
use Rattle.math_maximal.specs.Step.{compatible, candidate, part_of_larger}

-- the groups that conflict with the new Set stay
abbrev pub conflicting : ℕ → ℕ → Bool
conflicting m g = not (compatible m g)

unfoldable pub staying : ℕ → List ℕ → List ℕ
staying m gs = filter (conflicting m) gs

-- what each group gives with the new Set, ascending, equal ones once
unfoldable pub candidates : ℕ → ℕ → List ℕ → List ℕ
candidates m k gs = ascending (map (candidate m k) gs)

-- those that are part of no larger one
abbrev pub undominated : List ℕ → ℕ → Bool
undominated xs x = not (any (part_of_larger x) xs)

unfoldable pub largest : List ℕ → List ℕ
largest xs = filter (undominated xs) xs

unfoldable pub code_step : ℕ → ℕ → List ℕ → List ℕ
code_step m k gs = staying m gs ++ largest (candidates m k gs)

-- ---- a row where no group conflicts with the new Set

-- no number of the row is part of a larger one of the row
abbrev pub Apart : List ℕ → Type 0
Apart gs = (x y : ℕ) → elem x gs ≡ true → elem y gs ≡ true → part_of_larger x y ≡ false

-- none of them conflicts with the new Set
abbrev pub all_compatible : ℕ → List ℕ → Bool
all_compatible m gs = not (any (conflicting m) gs)

-- each gains the new Set
abbrev pub gaining : ℕ → ℕ → ℕ
gaining k g = bit_or g (2 ^ k)

unfoldable pub gained : ℕ → List ℕ → List ℕ
gained k gs = map (gaining k) gs

-- ---- a row where what remains of each group that conflicts is part of one that gains the new Set

-- x is part of y, or y itself
abbrev pub part_of : ℕ → ℕ → Bool
part_of x y = eqb (bit_and x y) x

-- what those give that gain the new Set as a whole
unfoldable pub wholes : ℕ → ℕ → List ℕ → List ℕ
wholes m k gs = map (candidate m k) (filter (compatible m) gs)

-- what remains of g, with the new Set, is part of none of ys
abbrev pub uncovered : ℕ → ℕ → List ℕ → ℕ → Bool
uncovered m k ys g = not (any (part_of (candidate m k g)) ys)

abbrev pub all_covered : ℕ → ℕ → List ℕ → List ℕ → Bool
all_covered m k ys gs = not (any (uncovered m k ys) gs)
