-- `table_soundness::unused::is_rest_zero` meets its contract: a record that is no limited Set has the bytes of the
-- fields. Assumes nothing.
use mathlib.Core.Path.{◌≡◌, refl, ap, sym, ◌∙◌}
use Prim.Native.Nat.{ℕ, ◌+◌, ◌*◌, ◌-◌}
use native.Mathlib.Omega.{arith}
use lib.ListN.{get_or, take, drop}
use Rattle.edit_record.specs.Layout.{kind_at, place_length}
use Rattle.edit_record.specs.RecordBytes.{span_of}
use Rattle.edit_record.proofs.AgreeingBytes.{limits-off, span-plain}
use Rattle.table_soundness.specs.Sound.{zero_from, rest_zero}
use Rattle.table_soundness.proofs.unused.is_rest_zero.Goals as goal

pub returns-then-place-eq-LIMITED : goal.returns-then-place-eq-LIMITED
unfolding rest_zero
returns-then-place-eq-LIMITED c =
    let a = c.args in
    let at = a.p * place_length in
    let long : at + place_length - at ≡ place_length = omega arith in
    let rest = drop at a.recs.now in
    c.is_zero_from8.ensures
    ∙ ap (zero_from (take (at + place_length - at) rest)) c.span_of-span.ensures
    ∙ ap (λ (k : ℕ). zero_from (take k rest) (span_of (take k rest))) long

pub returns : goal.returns
unfolding rest_zero
returns c =
    let a = c.args in
    let at = a.p * place_length in
    let long : at + place_length - at ≡ place_length = omega arith in
    let rest = drop at a.recs.now in
    let place = take (at + place_length - at) rest in
    let plain = span-plain place (limits-off place (get_or place kind_at 0) refl c.if-place-eq-LIMITED.false) in
    c.is_zero_down8.ensures
    ∙ ap (zero_from place) (sym plain)
    ∙ ap (λ (k : ℕ). zero_from (take k rest) (span_of (take k rest))) long
