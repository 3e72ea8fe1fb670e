-- The sum of Req 11 over lists of edits: the same edits in a different order have the same sum, so that different sums
-- mean different edits. Assumes nothing.
use mathlib.Core.Path.{◌≡◌, refl, ap, ◌∙◌}
use mathlib.Core.List.{List}
use Prim.Native.Nat.{ℕ, ◌+◌}
use native.Mathlib.Omega.{arith}
use Rattle.edit_record.specs.declared.Edit.{Edit}
use Rattle.edit_sum.specs.WordSum.{wrapped}
use Rattle.edit_sum.specs.SumOfEdits.{words_in, words_over, sum_over}
use Rattle.math_lists.specs.Rearranged.{Rearranged, none, skip, swap, then}

words-any-order : {es fs : List Edit} → Rearranged es fs → words_over es ≡ words_over fs
unfolding words_over
words-any-order none = refl
words-any-order (skip {x} r) = ap (λ (n : ℕ). words_in x + n) (words-any-order r)
words-any-order (swap {x} {y} {xs}) = omega arith
words-any-order (then r s) = words-any-order r ∙ words-any-order s

pub sum-any-order : {es fs : List Edit} → Rearranged es fs → sum_over es ≡ sum_over fs
unfolding sum_over
sum-any-order r = ap wrapped (words-any-order r)

pub different-sums : {es fs : List Edit} → (sum_over es ≡ sum_over fs → ⊥) → Rearranged es fs → ⊥
different-sums d r = d (sum-any-order r)
