-- `list_line::alone::put_lone_names` meets its contract: the names of the members passed stand behind the first n
-- bytes. Assumes nothing.
use mathlib.Core.Path.{◌≡◌}
use mathlib.Core.List.{◌∷◌, ◌++◌, flat_map}
use Prim.Native.Nat.{◌+◌, ◌*◌, ◌≤◌}
use lib.ListN.{length, take}
use Rattle.list_text.specs.Pieces.{plus, dotted_length}
use Rattle.list_version.specs.VersionForms.{identifier_by}
use Rattle.list_line.specs.Line.{name_text}
use Rattle.list_line.proofs.alone.put_lone_names.Given as goal

abbrev pub invariant-loop-x : goal.invariant-loop-x
invariant-loop-x l =
    (l.w ≤ l.n + l.x-index * (1 + dotted_length))
    × (length l.out ≡ length l.initial.out)
    × (take l.w l.out ≡ take l.n l.initial.out ++ flat_map (λ y. plus ∷ name_text y) (identifier_by (take l.x-index (take l.d l.disputes)) l.g))
