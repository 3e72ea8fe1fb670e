-- `table_index::chain::marks_along` meets its contract: the Sets from the place m on are marked, and the chain goes on
-- below it. Assumes nothing.
use mathlib.Core.Path.{◌≡◌}
use Prim.Native.Nat.{ℕ, ◌+◌, ◌≤◌}
use Rattle.edit_record.specs.RecordBytes.{decode_of}
use Rattle.table_index.specs.IndexForms.{latest_on, marks_on}
use Rattle.table_index.proofs.chain.marks_along.Given as goal

abbrev pub invariant-loop-p : goal.invariant-loop-p
invariant-loop-p l =
    (m : ℕ)
    × (m ≤ l.n)
    × (l.p ≡ latest_on l.recs l.q (decode_of l.rec).key m)
    × (l.marks + marks_on l.recs m l.q (decode_of l.rec) ≡ marks_on l.recs l.n l.q (decode_of l.rec))

abbrev pub decreases-loop-p : goal.decreases-loop-p
decreases-loop-p l = l.p
