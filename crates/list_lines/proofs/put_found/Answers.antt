-- `list_lines::put_found` meets its contract: what is gathered of the object is ready to be printed. Assumes nothing.
use mathlib.Core.Path.{◌∙◌}
use native.Mathlib.Omega.{arith}
use Rattle.table_drawing.specs.Tables.{tables_of}
use Rattle.table_soundness.proofs.SoundFacts.{sound-at}
use Rattle.list_lines.proofs.LinesGathered.{gathered-count, gathered-line}
use Rattle.list_lines.proofs.put_found.Goals as goal

pub offset_bounds-g-v : goal.offset_bounds-g-v
offset_bounds-g-v c =
    let a = c.args in
    let t = tables_of a.c a.records.now a.objects.now a.groups.now in
    let s = sound-at t c.requires.0 in
    let g = c.gather_in in
    let count = gathered-count t s a.o c.requires.1 g.new.g g.ensures in
    record { fits = omega (arith, c.requires.2, count, g.new.g.few_groups) }

pub bounds-g-v : goal.bounds-g-v
bounds-g-v c =
    let a = c.args in
    let t = tables_of a.c a.records.now a.objects.now a.groups.now in
    let s = sound-at t c.requires.0 in
    let g = c.gather_in in
    let count = gathered-count t s a.o c.requires.1 g.new.g g.ensures in
    omega (arith, c.requires.2, count, g.new.g.few_groups)

pub returns : goal.returns
returns c =
    let a = c.args in
    let t = tables_of a.c a.records.now a.objects.now a.groups.now in
    let s = sound-at t c.requires.0 in
    let g = c.gather_in in
    let e = c.put_lone_line_of.ensures in
    (e.0 ∙ gathered-line t s a.o c.requires.1 g.new.g g.ensures a.v c.requires.2, e.1)
