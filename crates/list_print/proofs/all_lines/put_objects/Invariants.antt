-- `list_print::all_lines::put_objects` meets its contract: each turn puts the lines of one object behind those before
-- it. Assumes nothing.
use mathlib.Core.Path.{◌≡◌}
use mathlib.Core.List.{map}
use Prim.Native.Nat.{◌*◌}
use lib.ListN.{length, take}
use Rattle.group_step.specs.GroupRows.{most_groups}
use Rattle.table_drawing.specs.Tables.{tables_of}
use Rattle.list_line.specs.Line.{line_length}
use Rattle.list_lines.specs.List.{lines_for}
use Rattle.list_print.specs.Printing.{joined}
use Rattle.list_print.specs.PrintForms.{Behind}
use Rattle.list_print.proofs.all_lines.put_objects.Given as goal

abbrev pub invariant-loop-i : goal.invariant-loop-i
invariant-loop-i l =
    (length l.out ≡ length l.initial.out)
    × (length l.line ≡ length l.initial.line)
    × Behind l.initial.out l.n (joined (map (λ o. joined (lines_for (tables_of l.c l.records l.objects l.groups) o)) (take l.i l.order))) (l.i * (most_groups * line_length)) l.out l.w
