-- `list_print::all_lines::put_object` meets its contract: what is gathered of the object is ready to be printed.
-- Assumes nothing.
use native.Mathlib.Omega.{arith}
use Rattle.table_drawing.specs.Tables.{tables_of}
use Rattle.table_soundness.proofs.SoundFacts.{sound-at}
use Rattle.list_lines.proofs.LinesGathered.{gathered-lines}
use Rattle.list_print.proofs.BytesBehind.{fewer-behind}
use Rattle.list_print.proofs.all_lines.put_object.Goals as goal

pub returns : goal.returns
returns c =
    let a = c.args in
    let p = c.requires in
    let t = tables_of a.c a.records.now a.objects.now a.groups.now in
    let g = c.gather_in in
    let lines = gathered-lines t (sound-at t p.0) a.o p.2 g.new.g g.ensures in
    rw (← lines) (fewer-behind a.out.now a.n (omega (arith, g.new.g.few_groups)) c.put_versions.ensures)
