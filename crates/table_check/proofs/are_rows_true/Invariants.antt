-- `table_check::are_rows_true` meets its contract. Assumes nothing.
use mathlib.Core.Path.{◌≡◌}
use Rattle.math_lists.specs.NumbersBelow.{all}
use Rattle.table_drawing.specs.Tables.{tables_of}
use Rattle.table_check.specs.CheckForms.{row_stands}
use Rattle.table_check.proofs.are_rows_true.Given as goal

abbrev pub invariant-loop-o : goal.invariant-loop-o
invariant-loop-o l = l.right ≡ all l.o (row_stands (tables_of l.c l.records l.objects l.groups))
