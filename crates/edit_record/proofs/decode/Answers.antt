-- `edit_record::decode` meets its contract: a record that is not there whole is its bytes with zeros after them.
-- Assumes nothing.
use mathlib.Core.Path.{◌∙◌}
use Rattle.edit_record.proofs.PaddedBytes.{decode-same}
use Rattle.edit_record.proofs.decode.Goals as goal

pub returns : goal.returns
returns c =
    let p = c.padded-whole in
    c.decode_whole-2.ensures
    ∙ decode-same p.result c.args.rec.now p.ensures
