-- `list_print::all_lines::put_list` meets its contract: the index that is made has the place of each edit. Assumes
-- nothing.
use mathlib.Core.Path.{refl}
use Rattle.table_drawing.specs.Tables.{tables_of}
use Rattle.table_arrival.proofs.CodeInHand.{holds}
use Rattle.list_print.proofs.all_lines.put_list.Goals as goal

pub build-requires : goal.build-requires
build-requires c =
    let start = c in
    let a = start.args in
    let t = tables_of a.c a.records.now a.objects.now a.groups.now in
    ((a.c, holds t start.requires, refl), c.none-ix.ensures.0, c.none-ix.ensures.1)

pub put_list_by-requires : goal.put_list_by-requires
put_list_by-requires c =
    let s8 = c in
    let s16 = s8 in
    (s16.requires, c.build.ensures.indexed)

pub returns : goal.returns
returns c = c.put_list_by.ensures
