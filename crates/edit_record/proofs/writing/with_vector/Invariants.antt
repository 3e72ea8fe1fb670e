-- `edit_record::writing::with_vector` meets its contract: the bytes of the first i counts stand. Assumes nothing.
use mathlib.Core.Path.{◌≡◌}
use mathlib.Core.List.{◌++◌}
use Prim.Native.Nat.{◌+◌, ◌*◌}
use lib.ListN.{take}
use Rattle.edit_record.specs.Layout.{vector_at}
use Rattle.edit_record.specs.RecordBytes.{count_bytes}
use Rattle.edit_record.proofs.writing.with_vector.Given as goal

abbrev pub invariant-loop-i : goal.invariant-loop-i
invariant-loop-i l = take (vector_at + 2 * l.i) l.out ≡ take vector_at l.initial.out ++ count_bytes (take l.i l.n-items)
