-- `group_sight::seen::is_foe_in` meets its contract. Assumes nothing.
use mathlib.Core.Path.{refl, sym}
use Rattle.edit_record.specs.RecordBytes.{decode_of}
use Rattle.group_sight.proofs.seen.is_foe_in.Goals as goal

pub returns : goal.returns
returns c =
    let a = c.args.a.now in
    c.is_foe.ensures (decode_of a) (sym c.own_entry-seen.ensures)
    refl refl refl (sym c.pair_at-seq.ensures)
    (sym c.value_of-value.ensures)
