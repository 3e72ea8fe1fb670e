-- `list_line::pieces::put_name` meets its contract: the name is formed in the part that is lent. Assumes nothing.
use mathlib.Core.Path.{◌≡◌, refl, ◌∙◌}
use Prim.Native.Nat.{◌+◌, ◌*◌}
use native.Mathlib.Omega.{arith}
use lib.ListN.{length}
use borrow.Rule.Slice.PartMut.{mid_len}
use Rattle.edit_record.specs.Layout.{keys}
use Rattle.list_line.specs.LineForms.{piece_length}
use Rattle.list_line.proofs.KeptPieces.{name-more}
use Rattle.list_line.proofs.pieces.put_name.Goals as goal

pub returns : goal.returns
returns c =
    let f = c.form_name-n in
    let s = c in
    let a = s.args in
    let (low, long, many) = s.requires in
    let j = keys + a.i in
    let at = j * piece_length in
    let whole : length f.new.text ≡ piece_length =
    f.auto.text
    ∙ mid_len at (at + piece_length) a.texts.now (omega (arith, long))
    ∙ omega arith in
    name-more a.texts.now f.new.text j (omega (arith, low)) long whole a.lens.now f.result many a.i
    a.x refl f.ensures.0 f.ensures.1
