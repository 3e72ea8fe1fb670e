-- `table_kept::chained::put_chains` meets its contract: the Sets of the keys passed are put down. Assumes nothing.
use mathlib.Core.Path.{◌≡◌}
use mathlib.Core.Bool.{true}
use Prim.Native.Nat.{ℕ, ◌<◌}
use lib.ListN.{length, get_or}
use Rattle.edit_history.specs.EditsHeld.{record_at}
use Rattle.table_index.specs.IndexForms.{is_on}
use Rattle.table_kept.specs.ChainForms.{number_on}
use Rattle.table_kept.proofs.chained.put_chains.Given as goal

abbrev pub invariant-loop-key : goal.invariant-loop-key
invariant-loop-key l =
    (length l.out ≡ length l.initial.out)
    × ((x : ℕ) → x < l.n → is_on l.recs l.q x ≡ true → (record_at l.recs x).key < l.key → get_or l.out (number_on l.recs l.q x) 0 ≡ x)
