-- `table_index::chain::is_unseen_at` meets its contract. Assumes nothing.
use mathlib.Core.Path.{ap, ◌∙◌}
use mathlib.Core.List.{List}
use Prim.Native.Nat.{ℕ, ◌*◌, ◌-◌}
use native.Mathlib.Omega.{arith}
use lib.Seq.{take_all}
use lib.ListN.{length, drop, length-drop}
use Rattle.edit_record.specs.Layout.{place_length}
use Rattle.edit_record.specs.RecordBytes.{decode_of}
use Rattle.table_index.specs.IndexForms.{unseen_other}
use Rattle.table_index.proofs.chain.is_unseen_at.Goals as goal

pub returns : goal.returns
returns c =
    let a = c.args in
    let rs = a.recs.now in
    let at = a.p * place_length in
    c.is_unseen_other.ensures
    ∙ ap (λ (l : List ℕ). unseen_other (decode_of l) (decode_of a.rec.now) a.x)
    (take_all (length rs - at) (drop at rs) (simp length-drop (omega arith)))
