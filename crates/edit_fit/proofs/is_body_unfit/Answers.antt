-- `edit_fit::is_body_unfit` meets its contract: the fields where they stand are those of the edit. Assumes nothing.
use mathlib.Core.Path.{◌≡◌, refl, sym}
use mathlib.Core.Bool.{Bool, true, false, not, ◌||◌}
use borrow.Author.Tests.{lt-leb}
use Rattle.edit_record.specs.RecordBytes.{decode_of}
use Rattle.edit_record.specs.Answer1.{is_create, is_aimed, unfit}
use Rattle.edit_record.proofs.WellFormed.{outside-unfit}
use Rattle.edit_fit.proofs.is_body_unfit.Goals as goal

-- what is asked of the other kinds alone adds nothing
nothing-more : (b : Bool) → b ≡ (b || false || false || false)
nothing-more true = refl
nothing-more false = refl

nothing-between : (b : Bool) → (b || false || false) ≡ b
nothing-between true = refl
nothing-between false = refl

pub returns-then-n-site : goal.returns-then-n-site
returns-then-n-site c h =
    let a = c.args in
    sym (outside-unfit a.n (decode_of a.rec.now) c.if-n-site.true)

pub returns-then-kind-eq-SET : goal.returns-then-kind-eq-SET
unfolding unfit
returns-then-kind-eq-SET c h =
    let low = lt-leb _ _ c.if-n-site.false in
    let k = c.if-kind-eq-SET.true in
    rw (
      k,
      low,
      h low,
      c.own_entry-own.ensures,
      c.pair_at-tseq.ensures,
      c.pair_at-seq.ensures,
    )
    (nothing-more _)

pub returns : goal.returns
unfolding unfit
returns c h =
    let y = c in
    let z = y in
    let low = lt-leb _ _ z.if-n-site.false in
    let e = decode_of z.args.rec.now in
    rw (
      low,
      h low,
      nothing-between (not (is_create e || is_aimed e)),
      c.is_list_unfit_in-list.ensures,
      c.is_aimed_kind-aimed.ensures,
      c.is_layer_kind-layer.ensures,
      y.value_of-value.ensures,
      z.own_entry-own.ensures,
      z.pair_at-tseq.ensures,
      z.pair_at-seq.ensures,
    )
