-- `table_index::aim_of` meets its contract. Assumes nothing.
use mathlib.Core.Path.{◌∙◌}
use Rattle.edit_record.specs.RecordBytes.{decode_of}
use Rattle.edit_walk.specs.WalkForms.{Passing}
use Rattle.table_index.proofs.SurveyByIndex.{held-is}
use Rattle.table_index.proofs.aim_of.Goals as goal

pub is_torn_next-torn-requires : goal.is_torn_next-torn-requires
is_torn_next-torn-requires c =
    let s = c in
    let (h, ix, whole, y, _) = s.requires in
    let a = s.args in
    let ok : Passing a.c.sites a.c.held a.recs.now a.c.records a.places.now
    = record { few = h.few-sites; pass = h.pass; counted = h.held; indexed = ix } in
    (h.few-records, whole, (a.c.sites, ok, y))

pub returns : goal.returns
returns c =
    let s = c in
    let (h, ix, _, _, long) = s.requires in
    let a = s.args in
    let e = decode_of a.rec.now in (
      c.is_torn_next-torn.ensures,
      c.is_target_held-held.ensures ∙ held-is a.c a.recs.now h a.places.now ix e long,
    )
