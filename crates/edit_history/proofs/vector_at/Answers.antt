-- `edit_history::vector_at` meets its contract. Assumes nothing.
use mathlib.Core.Path.{ap, ◌∙◌}
use mathlib.Core.List.{List}
use Prim.Native.Nat.{ℕ, ◌*◌, ◌-◌}
use native.Mathlib.Omega.{arith}
use lib.Seq.{take_all}
use lib.ListN.{length, drop, length-drop}
use Rattle.edit_record.specs.declared.Edit.{Edit}
use Rattle.edit_record.specs.Layout.{most_sites, vector_at, place_length}
use Rattle.edit_record.specs.RecordBytes.{counts}
use Rattle.edit_history.proofs.vector_at.Goals as goal

pub returns-then-at-recs : goal.returns-then-at-recs
returns-then-at-recs c =
    let a = c.args in
    let rs = a.recs.now in
    let at = a.p * place_length in
    c.vector_of.ensures
    ∙ ap (λ (l : List ℕ). counts most_sites (drop vector_at l))
    (take_all (length rs - at) (drop at rs) (simp length-drop (omega arith)))

pub returns : goal.returns
returns c = ap (λ (e : Edit). e.vector) c.decode_at.ensures
