-- `list_line::pieces::put_names` meets its contract: the names passed stand in their places. Assumes nothing.
use mathlib.Core.Path.{◌≡◌}
use mathlib.Core.List.{List}
use Prim.Native.Nat.{ℕ, ◌*◌, ◌<◌}
use lib.ListN.{length, get_or, take}
use Rattle.list_line.specs.LineForms.{piece_length, pieces, Kept, NameIn}
use Rattle.list_line.proofs.pieces.put_names.Given as goal

abbrev pub invariant-loop-i : goal.invariant-loop-i
invariant-loop-i l =
    (length l.texts ≡ pieces * piece_length)
    × (length l.lens ≡ pieces)
    × ((told : List ℕ) → Kept l.initial.texts l.initial.lens told → Kept l.texts l.lens told)
    × ((k : ℕ) → k < l.i → NameIn l.texts l.lens k (get_or (take l.d l.disputes) k 0))
