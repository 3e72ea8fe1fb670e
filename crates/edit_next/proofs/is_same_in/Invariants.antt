-- `edit_next::is_same_in` meets its contract: `same` is what the definition says of the first t entries. Assumes
-- nothing.
use mathlib.Core.Path.{◌≡◌}
use mathlib.Core.Bool.{Bool, ◌||◌}
use mathlib.Core.List.{List}
use Prim.Native.Nat.{ℕ, ◌*◌}
use lib.Dec.{eqb}
use lib.ListN.{get_or}
use Rattle.math_lists.specs.NumbersBelow.{all}
use Rattle.edit_record.specs.Layout.{place_length}
use Rattle.edit_history.specs.EditsHeld.{record_at}
use Rattle.edit_next.proofs.is_same_in.Given as goal

abbrev pub is_told : List ℕ → ℕ → ℕ → ℕ → ℕ → Bool
is_told rs r p s t = eqb t s || eqb (get_or (record_at rs r).vector t 0) (get_or (record_at rs p).vector t 0)

abbrev pub invariant-loop-t : goal.invariant-loop-t
invariant-loop-t l =
    (l.own ≡ l.s)
    × (l.from ≡ l.r * place_length)
    × (l.to ≡ l.p * place_length)
    × (l.same ≡ all l.t (is_told l.recs l.r l.p l.s))
