-- `table_arrival::put_plain` meets its contract. Assumes nothing.
use mathlib.Core.List.{List, ◌++◌}
use mathlib.Core.Path.{◌≡◌, sym, ap, ◌∙◌}
use Prim.Native.Nat.{ℕ, ◌+◌, ◌*◌}
use native.Mathlib.Omega.{arith}
use lib.ListN.{length, take, drop}
use borrow.Rule.Slice.PartMut.{Post-is}
use borrow.Author.Rules.{rules}
use Rattle.edit_record.specs.Layout.{record_length, place_length}
use Rattle.table_arrival.proofs.put_plain.Goals as goal

pub returns : goal.returns
returns c =
    let a = c.args in
    let s = c.copy_from_slice in
    let at = a.p * place_length in
    let end = at + record_length in
    let long : length a.rec ≡ record_length = search rules in
    let rs = a.recs.now in
    ap (λ (x : List ℕ). take at rs ++ (s.new.self ++ x)) (Post-is at end rs (omega arith))
    ∙ ap (λ (y : List ℕ). take at rs ++ (y ++ drop end rs)) s.ensures.after
    ∙ ap (λ (k : ℕ). take at rs ++ (a.rec ++ drop (at + k) rs)) (sym long)
