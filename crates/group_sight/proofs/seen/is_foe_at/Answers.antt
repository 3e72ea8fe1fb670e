-- `group_sight::seen::is_foe_at` meets its contract. Assumes nothing.
use mathlib.Core.Path.{refl, sym, ap, ◌∙◌}
use mathlib.Core.List.{List}
use Prim.Native.Nat.{ℕ, ◌*◌, ◌-◌}
use native.Mathlib.Omega.{arith}
use lib.Seq.{take_all}
use lib.ListN.{length, drop, length-drop}
use Rattle.edit_record.specs.Layout.{place_length}
use Rattle.edit_record.specs.RecordBytes.{decode_of}
use Rattle.group_sight.specs.SightForms.{is_foe}
use Rattle.group_sight.proofs.seen.is_foe_at.Goals as goal

pub returns-then-at-recs : goal.returns-then-at-recs
returns-then-at-recs c =
    let a = c.args in
    let rs = a.recs.now in
    let at = a.p * place_length in
    c.is_foe_in.ensures
    ∙ ap (λ (l : List ℕ). is_foe a.x a.s (decode_of l))
    (take_all (length rs - at) (drop at rs) (simp length-drop (omega arith)))

pub returns : goal.returns
returns c =
    let z = c in
    let a = z.args in
    c.is_foe.ensures z.decode_at-a.result (sym c.entry_at-seen.ensures) refl refl refl refl refl
    ∙ ap (is_foe a.x a.s) z.decode_at-a.ensures
