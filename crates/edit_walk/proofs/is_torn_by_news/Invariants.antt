-- `edit_walk::is_torn_by_news` meets its contract. Assumes nothing.
use mathlib.Core.Path.{◌≡◌}
use mathlib.Core.Bool.{Bool, not, ◌&&◌, ◌||◌}
use mathlib.Core.List.{List}
use Prim.Native.Nat.{ℕ}
use lib.ListN.{get_or}
use lib.Dec.{eqb}
use Rattle.math_lists.specs.NumbersBelow.{some}
use Rattle.edit_history.specs.Answers2to5.{larger_somewhere}
use Rattle.edit_walk.specs.WalkForms.{seen_before, torn_by}
use Rattle.edit_walk.proofs.is_torn_by_news.Given as goal

-- the latest edit of site t that was seen is news, and tears the vector w
abbrev pub is_news : List ℕ → List ℕ → List ℕ → List ℕ → List ℕ → ℕ → Bool
is_news recs places w seen was t =
    not (eqb (get_or seen t 0) (get_or was t 0)) && torn_by recs places w t (get_or seen t 0)

abbrev pub invariant-loop-t : goal.invariant-loop-t
invariant-loop-t l =
    l.found ≡ (larger_somewhere l.was l.w || some l.t (is_news l.recs l.places l.w (seen_before l.w l.s) l.was))
