-- `edit_object::is_set_at` meets its contract. Assumes nothing.
use mathlib.Core.Path.{ap, ◌∙◌}
use mathlib.Core.List.{List}
use Prim.Native.Nat.{ℕ, ◌*◌, ◌-◌}
use native.Mathlib.Omega.{arith}
use lib.Seq.{take_all}
use lib.ListN.{length, drop, length-drop}
use Rattle.edit_record.specs.Layout.{place_length}
use Rattle.edit_record.specs.RecordBytes.{decode_of}
use Rattle.edit_history.specs.EditsHeld.{is_set_on}
use Rattle.edit_object.proofs.is_set_at.Goals as goal

pub returns-then-at-recs : goal.returns-then-at-recs
returns-then-at-recs c =
    let a = c.args in
    let rs = a.recs.now in
    let at = a.p * place_length in
    c.is_set_in.ensures
    ∙ ap (λ (l : List ℕ). is_set_on a.s a.q (decode_of l))
    (take_all (length rs - at) (drop at rs) (simp length-drop (omega arith)))

pub returns : goal.returns
returns c = rw (c.is_same.ensures, c.is_set_kind.ensures, c.decode_at-e.ensures)
