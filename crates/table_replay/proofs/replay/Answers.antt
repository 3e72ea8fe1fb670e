-- `table_replay::replay` meets its contract. Assumes nothing.
use native.Mathlib.Omega.{arith}
use Rattle.edit_form.specs.OldForm.{stored_in}
use Rattle.table_drawing.specs.Tables.{tables_of}
use Rattle.table_index.proofs.OneRecordMore.{index-starts}
use Rattle.table_given.proofs.ReplayGoes.{opened, opened-parts}
use Rattle.table_replay.proofs.RoomForAll.{counts-in-all, room-for-all}
use Rattle.table_replay.proofs.replay.Goals as goal

pub space_places-requires : goal.space_places-requires
space_places-requires c =
    let a = c.args in
    let counted = c.count_stretch-by_site in
    (omega (arith, counts-in-all (stored_in a.form a.recs.now) a.n counted.result counted.ensures, c.requires.2), omega arith)

pub take_records-requires : goal.take_records-requires
take_records-requires c =
    let a = c.args in
    let counted = c.count_stretch-by_site in
    let spaced = c.space_places.ensures in
    let e = opened (tables_of _ a.records.now a.objects.now a.groups.now) _ _ a.sites c.requires.0 c.requires.1
    c.«open».ensures in (
      opened-parts _ a.sites e,
      rw (c.none-ix.ensures.0, c.none-ix.ensures.1) (index-starts _ _ _ spaced.entries (omega arith)),
      room-for-all (stored_in a.form a.recs.now) a.n counted.result counted.ensures _ spaced,
      c.requires.1,
      c.requires.2,
      c.requires.3,
      c.none-kept.ensures,
    )
