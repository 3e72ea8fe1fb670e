-- `list_print::object_lines::put_each` meets its contract: each turn puts one line behind those before it. Assumes
-- nothing.
use mathlib.Core.Path.{◌≡◌}
use mathlib.Core.List.{map}
use Prim.Native.Nat.{◌*◌}
use lib.ListN.{length, take}
use Rattle.list_line.specs.Line.{line_length}
use Rattle.list_line.specs.LineForms.{line_in, NamesKept}
use Rattle.list_print.specs.Printing.{joined}
use Rattle.list_print.specs.PrintForms.{Behind}
use Rattle.list_print.proofs.object_lines.put_each.Given as goal

abbrev pub invariant-loop-v : goal.invariant-loop-v
invariant-loop-v l =
    (length l.out ≡ length l.initial.out)
    × (length l.line ≡ length l.initial.line)
    × NamesKept l.kept.texts l.kept.lens (take l.g.disputed l.g.disputes)
    × Behind l.initial.out l.n (joined (map (line_in l.g) (take l.v l.g.versions))) (l.v * line_length) l.out l.w
