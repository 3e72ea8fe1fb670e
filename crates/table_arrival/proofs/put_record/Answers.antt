-- `table_arrival::put_record` meets its contract. Assumes nothing.
use mathlib.Core.List.{List, ◌++◌}
use mathlib.Core.Path.{ap, ◌∙◌}
use Prim.Native.Nat.{ℕ, ◌+◌, ◌*◌}
use native.Mathlib.Omega.{arith}
use lib.ListN.{length, take, drop}
use borrow.Rule.Slice.PartMut.{Post-is}
use Rattle.edit_record.specs.Layout.{place_length}
use Rattle.table_arrival.proofs.put_record.Goals as goal

pub returns : goal.returns
returns c =
    let a = c.args in
    let s = c.copy_record in
    let at = a.p * place_length in
    let end = at + length a.rec.now in
    let rs = a.recs.now in
    ap (λ (x : List ℕ). take at rs ++ (s.new.d ++ x)) (Post-is at end rs (omega arith))
    ∙ ap (λ (y : List ℕ). take at rs ++ (y ++ drop end rs)) s.ensures
