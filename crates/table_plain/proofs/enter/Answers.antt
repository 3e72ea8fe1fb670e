-- `table_plain::enter` meets its contract. Assumes nothing.
use mathlib.Core.Path.{refl, ap, ◌∙◌}
use Prim.Native.Nat.{ℕ}
use lib.ListN.{get_or, set}
use Rattle.edit_record.specs.Layout.{site_at}
use Rattle.edit_walk.specs.WalkForms.{slot_of}
use Rattle.table_plain.proofs.enter.Goals as goal

pub returns : goal.returns
returns c =
    let a = c.args in
    let is = c.slot_of-at.ensures
    ∙ ap (slot_of a.places.now (get_or a.rec.now site_at 0)) c.pair_at-q.ensures in
    (refl, ap (λ (i : ℕ). set a.places.now i a.n) is)
