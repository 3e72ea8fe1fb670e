-- `list_line::put_settings` meets its contract: the settings of the keys passed stand behind the first n bytes.
-- Assumes nothing.
use mathlib.Core.Path.{◌≡◌}
use mathlib.Core.List.{◌++◌}
use Prim.Native.Nat.{◌+◌, ◌*◌, ◌≤◌}
use lib.ListN.{length, take}
use Rattle.list_text.specs.Pieces.{equated_length}
use Rattle.list_line.specs.LineForms.{settings_by, Kept, SameNames}
use Rattle.list_line.proofs.put_settings.Given as goal

abbrev pub invariant-loop-k : goal.invariant-loop-k
invariant-loop-k l =
    (l.w ≤ l.n + l.k * (1 + equated_length))
    × (length l.out ≡ length l.initial.out)
    × Kept l.texts l.lens l.told
    × (take l.w l.out ≡ take l.n l.initial.out ++ settings_by (take l.t l.stamps) l.g l.k)
    × SameNames l.initial.texts l.initial.lens l.texts l.lens
