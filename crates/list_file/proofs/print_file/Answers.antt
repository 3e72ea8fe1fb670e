-- `list_file::print_file` meets its contract: a refused file gives the line of its refusal, an accepted one its list.
-- Assumes nothing.
use mathlib.Core.Path.{refl, ◌∙◌}
use native.Mathlib.Omega.{arith}
use Rattle.table_drawing.specs.AnswerNumbers.{number_of}
use Rattle.table_drawing.specs.Tables.{empty_drawing}
use Rattle.table_drawing.proofs.RefusalNumbers.{refused}
use Rattle.list_file.proofs.PrintedFile.{refusal-printed, list-printed, tables-sound, in-front}
use Rattle.list_file.proofs.print_file.Goals as goal

pub put_list-requires : goal.put_list-requires
unfolding empty_drawing
put_list-requires c = tables-sound c.args.file.now 0 0 _ c.in-Ok.ensures refl

pub returns-in-Ok : goal.returns-in-Ok
unfolding empty_drawing
returns-in-Ok c =
    let (front, few) = in-front (omega (arith, c.requires)) c.put_list.ensures in
    (front ∙ list-printed c.args.file.now 0 0 _ c.in-Ok.ensures refl, few)

pub returns-in-Err : goal.returns-in-Err
unfolding empty_drawing
returns-in-Err c =
    let e = c.in-Err.e in (
      c.put_refusal.ensures.0
          ∙ rw c.from.ensures
          (refusal-printed c.args.file.now (number_of e.refusal) e.index _ c.in-Err.ensures (refused e.refusal)),
      omega (arith, c.put_refusal.ensures.1),
    )
