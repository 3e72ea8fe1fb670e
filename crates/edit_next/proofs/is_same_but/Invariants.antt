-- `edit_next::is_same_but` meets its contract: `same` is what the definition says of the first t entries. Assumes
-- nothing.
use mathlib.Core.Path.{◌≡◌}
use mathlib.Core.Bool.{Bool, ◌||◌}
use mathlib.Core.List.{List}
use Prim.Native.Nat.{ℕ}
use lib.Dec.{eqb}
use lib.ListN.{get_or}
use Rattle.math_lists.specs.NumbersBelow.{all}
use Rattle.edit_record.specs.RecordBytes.{decode_of}
use Rattle.edit_next.proofs.is_same_but.Given as goal

abbrev pub is_told : List ℕ → List ℕ → ℕ → ℕ → Bool
is_told x rec s t = eqb t s || eqb (get_or (decode_of x).vector t 0) (get_or (decode_of rec).vector t 0)

abbrev pub invariant-loop-t : goal.invariant-loop-t
invariant-loop-t l = (l.own ≡ l.s) × (l.same ≡ all l.t (is_told l.x l.rec l.s))
