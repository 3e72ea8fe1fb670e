-- Sets in the order of their arrival, xs: the i-th is disputed exactly if it conflicts, by document 01's rule, with
-- one of xs. Assumes nothing.
use mathlib.Core.Path.{◌≡◌, refl}
use mathlib.Core.Bool.{Bool}
use mathlib.Core.List.{List}
use Prim.Native.Nat.{ℕ, ◌<◌}
use lib.ListN.{length, get_or}
use Rattle.math_lists.specs.SortedLists.{any}
use Rattle.math_lists.proofs.Booleans.{same_test}
use Rattle.math_lists.proofs.ByPlaces.{any-place-on, any-place-at}
use Rattle.math_maximal.specs.Groups.{every}
use Rattle.math_maximal.proofs.Groups.{below_at, below_on}
use Rattle.math_contexts.specs.Box.{disputed}
use Rattle.math_contexts.specs.BoxByArrival.{rel, box_of}
use Rattle.math_contexts.proofs.ContextMembers.{disputed-at, disputed-on}

pub disputed-over :
    {E : Type 0} (d : E) (conf saw lists : E → E → Bool) (lim : E → Bool) (xs : List E) (i : ℕ) → i < length xs →
    disputed (box_of d conf saw lists lim xs) (length xs) every i ≡ any (conf (get_or xs i d)) xs
unfolding rel
disputed-over d conf saw lists lim xs i l =
    let b = box_of d conf saw lists lim xs in
    let n = length xs in
    let f = conf (get_or xs i d) in
    same_test (disputed b n every i) (any f xs)
    (λ h. let (_, k, t, e) = disputed-at b n every i h in any-place-on f d xs k (below_at n every k t).0 e)
    (λ h. let (k, m, e) = any-place-at f d xs h in
    disputed-on b n every i (below_on n every i l refl) k (below_on n every k m refl) e)
