-- `edit_walk::is_passing_at` meets its contract: the part of the table from a place on has the place's record. Assumes
-- nothing.
use mathlib.Core.Path.{ap, ◌∙◌}
use mathlib.Core.List.{List}
use Prim.Native.Nat.{ℕ, ◌*◌, ◌-◌}
use native.Mathlib.Omega.{arith}
use lib.Seq.{take_all}
use lib.ListN.{length, drop, length-drop}
use Rattle.edit_record.specs.Layout.{place_length}
use Rattle.edit_record.specs.RecordBytes.{decode_of}
use Rattle.edit_walk.specs.WalkForms.{passes_against}
use Rattle.edit_walk.proofs.is_passing_at.Goals as goal

pub returns : goal.returns
returns c =
    let a = c.args in
    let rs = a.recs.now in
    let at = a.p * place_length in
    c.is_passing.ensures
    ∙ ap (λ (l : List ℕ). passes_against a.sites a.held.now rs a.places.now (decode_of l))
    (take_all (length rs - at) (drop at rs) (simp length-drop (omega arith)))
