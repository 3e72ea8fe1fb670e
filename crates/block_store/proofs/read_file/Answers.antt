-- `block_store::read_file` meets its contract. Assumes nothing.
use mathlib.Core.Path.{refl, sym, ◌∙◌}
use Rattle.table_drawing.specs.Tables.{tables_of}
use Rattle.table_drawing.specs.AnswerNumbers.{number_of}
use Rattle.table_drawing.proofs.RefusalNumbers.{refused}
use Rattle.block_trailer.proofs.LocatingOutcomes.{start-before-end, stretch-is}
use Rattle.block_store.proofs.ReadingOutcomes.{wrong-lengths, file-refused, ready-to-read, file-read}
use Rattle.block_store.proofs.read_file.Goals as goal

pub returns-then-not-lengths_right : goal.returns-then-not-lengths_right
returns-then-not-lengths_right c =
    rw c.refused.ensures
    (wrong-lengths (tables_of c.args.c c.args.records.now c.args.objects.now c.args.groups.now) c.args.file.now
    (sym c.lengths_right.ensures ∙ c.if-not-lengths_right.true))

pub returns-in-Err : goal.returns-in-Err
returns-in-Err c =
    let r = c.in-Err.r in
    rw c.refused-in-Err.ensures
    (file-refused (tables_of c.args.c c.args.records.now c.args.objects.now c.args.groups.now) c.args.file.now
    (sym c.lengths_right.ensures ∙ c.if-not-lengths_right.false) (number_of r) 0 0 0 c.in-Err.ensures.0 (refused r))

pub slice_bounds-stretch-count : goal.slice_bounds-stretch-count
slice_bounds-stretch-count c =
    let said = c.in-Ok.ensures in
    start-before-end c.args.file.now said.0 said.1 c.trailer_at-end.ensures

pub slice_bounds-stretch-start : goal.slice_bounds-stretch-start
slice_bounds-stretch-start c =
    let said = c.in-Ok.ensures in
    start-before-end c.args.file.now said.0 said.1 c.trailer_at-end.ensures

pub read_records-requires : goal.read_records-requires
read_records-requires c =
    let f = c.in-Ok.t in
    let said = c.in-Ok.ensures in
    let right = sym c.lengths_right.ensures ∙ c.if-not-lengths_right.false in
    let stretch = stretch-is c.args.file.now said.0 said.1 c.trailer_at-end.ensures in
    let (s, n, fits) = ready-to-read (tables_of c.args.c c.args.records.now c.args.objects.now c.args.groups.now) c.args.file.now right 0
    f.sites f.form f.records said.0 refl _ stretch in
    (right, s, n, fits)

pub returns : goal.returns
returns c =
    let f = c.in-Ok.t in
    let said = c.in-Ok.ensures in
    let stretch = stretch-is c.args.file.now said.0 said.1 c.trailer_at-end.ensures in
    file-read (tables_of c.args.c c.args.records.now c.args.objects.now c.args.groups.now) c.args.file.now
    (sym c.lengths_right.ensures ∙ c.if-not-lengths_right.false) 0 f.sites f.form f.records said.0 refl _ stretch _ c.read_records.ensures
