-- `list_lines::find` meets its contract: objects are passed until the line is one of an object's own. Assumes
-- nothing.
use lib.ListN.{take}
use lib.Seq.{slice}
use Rattle.table_drawing.specs.Tables.{tables_of}
use Rattle.list_lines.specs.List.{lines_for}
use Rattle.list_lines.specs.LinesForms.{LeftOf}
use Rattle.list_lines.proofs.find.Given as goal

abbrev pub invariant-loop-i : goal.invariant-loop-i
invariant-loop-i l =
    LeftOf (lines_for (tables_of l.fn.c l.records l.objects l.groups)) (take l.fn.c.objects l.order) l.k (slice l.i l.fn.c.objects l.order) l.left
