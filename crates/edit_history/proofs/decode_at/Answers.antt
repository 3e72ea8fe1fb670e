-- `edit_history::decode_at` meets its contract: a place past the end is an empty part. Assumes nothing.
use mathlib.Core.Path.{◌∙◌, ap, sym}
use Prim.Native.Nat.{◌*◌, ◌-◌}
use native.Mathlib.Omega.{arith}
use lib.Seq.{take_all}
use lib.ListN.{length, drop, length-drop, drop_of_length-le}
use Rattle.edit_record.specs.RecordBytes.{decode_of}
use Rattle.edit_record.specs.Layout.{place_length}
use Rattle.edit_history.proofs.decode_at.Goals as goal

pub returns-then-at-recs : goal.returns-then-at-recs
returns-then-at-recs c =
    let a = c.args in
    let rs = a.recs.now in
    let at = a.p * place_length in
    c.decode.ensures ∙ ap decode_of (take_all (length rs - at) (drop at rs) (simp length-drop (omega arith)))

pub returns-else-at-recs : goal.returns-else-at-recs
returns-else-at-recs c =
    let a = c.args in
    c.decode-else-at-recs.ensures ∙ ap decode_of (sym (drop_of_length-le a.recs.now {i = a.p * place_length} (omega arith)))
