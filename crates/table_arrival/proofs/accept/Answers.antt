-- `table_arrival::accept` meets its contract. Assumes nothing.
use mathlib.Core.Path.{◌≡◌, sym, ap, ◌∙◌}
use mathlib.Core.Bool.{true, false}
use borrow.Author.Tests.{eq-eqb, ne_eqb}
use Rattle.std.proofs.lemmas.Result.{err_from_is_err_and}
use Rattle.std.specs.Prelude.{is_some}
use Rattle.math_lists.proofs.Booleans.{clash}
use Rattle.edit_record.specs.Layout.{create_kind}
use Rattle.edit_record.specs.RecordBytes.{decode_of}
use Rattle.edit_record.specs.Answer1.{is_create, is_set}
use Rattle.table_drawing.specs.Tables.{tables_of}
use Rattle.table_drawing.proofs.RefusalNumbers.{refused}
use Rattle.table_arrival.proofs.CodeInHand.{first-is, set-held, set-ready, create-given, create-taken, layer-given, layer-taken}
use Rattle.table_arrival.proofs.CodeOutcomes.{refused-is}
use Rattle.table_arrival.proofs.accept.Goals as goal

pub returns-in_err-refusal : goal.returns-in_err-refusal
returns-in_err-refusal c =
    let a = c.args in
    let t = tables_of c.args.c c.args.records.now c.args.objects.now c.args.groups.now in
    let r = c.in_err-refusal.field-0.0 in
    let is = c.in_err-refusal.ensures ∙ first-is t a.rec.now a.v a.j a.apart c.requires in
    let p = err_from_is_err_and c.from_residual.result c.from_residual.ensures.1 in
    rw (p.1, p.2, is) (refused-is t a.rec.now (λ z. refused r (is ∙ z)))

-- a Set that passes 1 to 6 has its target held
pub returns-in_default : goal.returns-in_default
returns-in_default c =
    let a = c.args in
    let t = tables_of c.args.c c.args.records.now c.args.objects.now c.args.groups.now in
    let passes = sym (c.in_ok-refusal.ensures ∙ first-is t a.rec.now a.v a.j a.apart c.requires) in
    let set = rw c.byte_at-kind.ensures at (sym c.is_set_kind.ensures ∙ c.if-is_set_kind.true) in
    clash (set-held t a.rec.now a.v a.j a.apart c.requires passes set) (ap is_some c.in_default.is)

pub take_set-requires : goal.take_set-requires
take_set-requires c =
    let a = c.args in
    let t = tables_of c.args.c c.args.records.now c.args.objects.now c.args.groups.now in
    let passes = sym (c.in_ok-refusal.ensures ∙ first-is t a.rec.now a.v a.j a.apart c.requires) in
    let set = rw c.byte_at-kind.ensures at (sym c.is_set_kind.ensures ∙ c.if-is_set_kind.true) in
    set-ready t a.rec.now a.v a.j a.apart c.requires passes c.in-Some.h c.in-Some.is set

pub take_create-d-requires : goal.take_create-d-requires
take_create-d-requires c =
    let a = c.args in
    let t = tables_of c.args.c c.args.records.now c.args.objects.now c.args.groups.now in
    let b = a.rec.now in
    let passes = sym (c.in_ok-refusal.ensures ∙ first-is t b a.v a.j a.apart c.requires) in
    let k : is_create (decode_of b) ≡ true
    = eq-eqb (decode_of b).kind create_kind (sym c.byte_at-kind.ensures ∙ c.if-kind-eq-CREATE.true) in
    rw c.byte_at.ensures (create-given t b a.v a.j a.apart c.requires passes k)

pub returns-then-kind-eq-CREATE : goal.returns-then-kind-eq-CREATE
returns-then-kind-eq-CREATE c =
    let a = c.args in
    let t = tables_of c.args.c c.args.records.now c.args.objects.now c.args.groups.now in
    let b = a.rec.now in
    let passes = sym (c.in_ok-refusal.ensures ∙ first-is t b a.v a.j a.apart c.requires) in
    let k : is_create (decode_of b) ≡ true
    = eq-eqb (decode_of b).kind create_kind (sym c.byte_at-kind.ensures ∙ c.if-kind-eq-CREATE.true) in
    let m = c.take_create-d in
    rw (m.ensures.0, m.ensures.1, m.ensures.2, c.byte_at.ensures)
    (create-taken t b a.v a.j a.apart c.requires passes k)

pub take_layer-d-requires : goal.take_layer-d-requires
take_layer-d-requires c =
    let a = c.args in
    let t = tables_of c.args.c c.args.records.now c.args.objects.now c.args.groups.now in
    let passes = sym (c.in_ok-refusal.ensures ∙ first-is t a.rec.now a.v a.j a.apart c.requires) in
    rw c.byte_at.ensures (layer-given t a.rec.now a.v a.j a.apart c.requires passes)

pub returns-else-kind-eq-CREATE : goal.returns-else-kind-eq-CREATE
returns-else-kind-eq-CREATE c =
    let a = c.args in
    let t = tables_of c.args.c c.args.records.now c.args.objects.now c.args.groups.now in
    let b = a.rec.now in
    let passes = sym (c.in_ok-refusal.ensures ∙ first-is t b a.v a.j a.apart c.requires) in
    let kind = c.byte_at-kind.ensures in
    let create : is_create (decode_of b) ≡ false
    = ne_eqb (decode_of b).kind create_kind (λ e. c.if-kind-eq-CREATE.false (kind ∙ e)) in
    let set : is_set (decode_of b) ≡ false = rw kind at (sym c.is_set_kind.ensures ∙ c.if-is_set_kind.false) in
    let m = c.take_layer-d in
    rw (m.ensures.0, m.ensures.1, c.byte_at.ensures)
    (layer-taken t b a.v a.j a.apart c.requires passes create set)
