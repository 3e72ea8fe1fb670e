-- Facts about vectors of any number of entries n: a vector that is nowhere smaller than another and larger somewhere
-- has a larger sum, so that the total order goes with 'before'. Assumes nothing.
use mathlib.Core.Path.{◌≡◌}
use mathlib.Core.Bool.{true, ◌&&◌}
use mathlib.Core.List.{List}
use Prim.Native.Nat.{ℕ, ◌≤◌, ◌<◌}
use lib.ListN.{get_or}
use lib.Dec.{eqb, ltb}
use borrow.Author.Tests.{lt-ltb}
use Rattle.math_lists.specs.NumbersBelow.{sum}
use Rattle.math_lists.proofs.Booleans.{or_left}
use Rattle.math_lists.proofs.NumbersBelow.{sum_lt}
use Rattle.edit_record.specs.declared.Edit.{Edit}
use Rattle.edit_record.specs.Layout.{most_sites}
use Rattle.edit_causal.specs.TotalOrder.{vector_sum, ranks_before}

-- the first n entries of v are nowhere above those of w
abbrev pub NowhereAbove : ℕ → List ℕ → List ℕ → Type 0
NowhereAbove n v w = (i : ℕ) → i < n → get_or v i 0 ≤ get_or w i 0

pub entries-sum-larger :
    (n : ℕ) (v w : List ℕ) → NowhereAbove n v w → (j : ℕ) → j < n → get_or v j 0 < get_or w j 0
    → sum n (λ i. get_or v i 0) < sum n (λ i. get_or w i 0)
entries-sum-larger n v w h j l k = sum_lt n (λ i. get_or v i 0) (λ i. get_or w i 0) h j l k

pub larger-ranks-later :
    (a b : Edit) → NowhereAbove most_sites a.vector b.vector → (j : ℕ) → j < most_sites
    → get_or a.vector j 0 < get_or b.vector j 0 → ranks_before a b ≡ true
unfolding vector_sum
larger-ranks-later a b h j l k =
    let m = sum most_sites (λ i. get_or a.vector i 0) in
    let n = sum most_sites (λ i. get_or b.vector i 0) in
    or_left (ltb m n) (eqb m n && ltb a.site.0 b.site.0)
    (lt-ltb m n (entries-sum-larger most_sites a.vector b.vector h j l k))
