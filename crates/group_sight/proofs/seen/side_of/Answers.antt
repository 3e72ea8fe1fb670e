-- `group_sight::seen::side_of` meets its contract, for a record that is there whole and for any other. Assumes
-- nothing.
use mathlib.Core.Path.{◌≡◌, refl, sym, subst}
use Rattle.edit_record.specs.RecordBytes.{decode_of}
use Rattle.group_sight.specs.SightForms.{NameOf, SideOf}
use Rattle.group_sight.proofs.seen.side_of.Goals as goal

pub returns-then-rec-ge-RECORD : goal.returns-then-rec-ge-RECORD
returns-then-rec-ge-RECORD c name =
    let rec = c.args.rec.now in
    c.side_by.ensures (decode_of rec) name refl refl refl
    (sym c.pair_at-seq.ensures)
    (sym c.value_of-value.ensures)

pub returns : goal.returns
returns c name =
    let rec = c.args.rec.now in
    let e : c.decode-e.result ≡ decode_of rec = c.decode-e.ensures in
    subst (SideOf c.side_by-2.result) e
    (c.side_by-2.ensures c.decode-e.result (subst (NameOf _) (sym e) name) refl refl refl refl refl)
