-- `table_plain::store` meets its contract: a Set is stored, a Create makes an object, and another edit changes nothing.
-- Assumes nothing.
use mathlib.Core.Path.{◌≡◌, refl}
use mathlib.Core.Bool.{false}
use borrow.Author.Tests.{eq-eqb, ne_eqb}
use Rattle.math_lists.proofs.Booleans.{clash}
use Rattle.edit_record.specs.Layout.{create_kind, set_kind}
use Rattle.edit_record.specs.RecordBytes.{decode_of}
use Rattle.edit_record.specs.Answer1.{is_create}
use Rattle.table_plain.proofs.store.Goals as goal

pub store_set-requires : goal.store_set-requires
store_set-requires c =
    let k = c in
    let s = k in
    let e = decode_of s.args.rec.now in
    (s.requires.0, s.requires.2.of-set (eq-eqb e.kind set_kind k.if-kind-eq-SET.true))

pub returns-then-kind-eq-SET : goal.returns-then-kind-eq-SET
returns-then-kind-eq-SET c =
    let w = c in
    let k = w in
    let e = decode_of k.args.rec.now in
    let is = k.if-kind-eq-SET.true in
    let set = eq-eqb e.kind set_kind is in
    let other : is_create e ≡ false = rw is refl in (
      record {
        of-set = λ y. w.store_set.ensures;
        no-set = λ y. clash set y;
        of-create = λ y. clash y other;
        of_layer = λ y z. clash set z;
      },
      refl,
    )

pub put_create-requires : goal.put_create-requires
put_create-requires c =
    let k = c in
    let s = k in
    let e = decode_of s.args.rec.now in
    let x = s.requires.2 in
    (s.requires.0, x.of-create (eq-eqb e.kind create_kind k.if-kind-eq-CREATE.true), x.objects-long, x.numbers-long)

pub returns-then-kind-eq-CREATE : goal.returns-then-kind-eq-CREATE
returns-then-kind-eq-CREATE c =
    let w = c in
    let k = w in
    let e = decode_of k.args.rec.now in
    let create = eq-eqb e.kind create_kind k.if-kind-eq-CREATE.true in (
      record {
        of-set = λ y. clash y (ne_eqb e.kind set_kind k.if-kind-eq-SET.false);
        no-set = λ y. (refl, refl, refl, refl);
        of-create = λ y. w.put_create.ensures;
        of_layer = λ y z. clash create y;
      },
      refl,
    )

pub returns-else-kind-eq-CREATE : goal.returns-else-kind-eq-CREATE
returns-else-kind-eq-CREATE c =
    let e = decode_of c.args.rec.now in (
      record {
        of-set = λ y. clash y (ne_eqb e.kind set_kind c.if-kind-eq-SET.false);
        no-set = λ y. (refl, refl, refl, refl);
        of-create = λ y. clash y (ne_eqb e.kind create_kind c.if-kind-eq-CREATE.false);
        of_layer = λ y z. (refl, refl);
      },
      refl,
    )
