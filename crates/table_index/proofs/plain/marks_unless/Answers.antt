-- `table_index::plain::marks_unless` meets its contract: who has seen all is in conflict with none. Assumes nothing.
use mathlib.Core.Path.{sym, ap, ◌∙◌}
use Prim.Native.Nat.{ℕ}
use Rattle.edit_record.specs.RecordBytes.{decode_of}
use Rattle.table_index.specs.IndexForms.{marks_on}
use Rattle.table_index.proofs.SeesAll.{none-in-conflict}
use Rattle.table_index.proofs.plain.marks_unless.Goals as goal

pub returns-then-all : goal.returns-then-all
returns-then-all c =
    let s = c in
    let a = s.args in
    let (d, h, count, arriving, sees) = s.requires.0 in
    let rs = a.recs.now in
    let e = decode_of a.rec.now in
    sym (none-in-conflict d rs h a.q e arriving (sees c.if-all.true))
    ∙ ap (λ (n : ℕ). marks_on rs n a.q e) count

pub marks_along-requires : goal.marks_along-requires
marks_along-requires c =
    let s = c in
    let (d, h, count, arriving, _) = s.requires.0 in
    ((d, h, count, arriving), s.requires.1, s.requires.2, s.requires.3, s.requires.4, s.requires.5, s.requires.6)
