-- `table_check::check` meets its contract. Assumes nothing.
use mathlib.Core.Path.{sym, ◌∙◌}
use mathlib.Core.Bool.{true, false}
use Rattle.table_drawing.specs.Tables.{tables_of}
use Rattle.table_check.proofs.TrueExactly.{not_sound, rows-decide}
use Rattle.table_check.proofs.check.Goals as goal

pub returns-then-not-is_sound_but_named : goal.returns-then-not-is_sound_but_named
returns-then-not-is_sound_but_named c =
    let a = c.args in
    let s = c.is_sound_but_named in
    not_sound (tables_of a.c a.records.now a.objects.now a.groups.now) s.result s.ensures.0
    (c.if-not-is_sound_but_named.true)

pub are_rows_true-requires : goal.are_rows_true-requires
are_rows_true-requires c =
    let s = c.is_sound_but_named in
    let yes = c.if-not-is_sound_but_named.false in
    (sym s.ensures.0 ∙ yes, s.ensures.1 yes)

pub returns-then-are_rows_true : goal.returns-then-are_rows_true
returns-then-are_rows_true c =
    let a = c.args in
    let s = c.is_sound_but_named in
    rows-decide (tables_of a.c a.records.now a.objects.now a.groups.now) true
    (sym s.ensures.0 ∙ c.if-not-is_sound_but_named.false)
    (sym c.if-are_rows_true.true ∙ c.are_rows_true.ensures)

pub returns-else-are_rows_true : goal.returns-else-are_rows_true
returns-else-are_rows_true c =
    let a = c.args in
    let s = c.is_sound_but_named in
    rows-decide (tables_of a.c a.records.now a.objects.now a.groups.now) false
    (sym s.ensures.0 ∙ c.if-not-is_sound_but_named.false)
    (sym c.if-are_rows_true.false ∙ c.are_rows_true.ensures)
