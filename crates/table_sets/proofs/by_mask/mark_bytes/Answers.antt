-- `table_sets::by_mask::mark_bytes` meets its contract: those of its key are what it is told by. Assumes nothing.
use mathlib.Core.Path.{sym, subst, ◌∙◌}
use Prim.Native.Nat.{ℕ, ◌+◌, ◌%◌, ◌^◌}
use native.Mathlib.Omega.{arith}
use lib.Bits.{bit_or}
use lib.ListN.{get_or, set}
use Rattle.edit_record.specs.Layout.{keys}
use Rattle.table_sets.specs.KeyForms.{set_at, chain_of}
use Rattle.table_sets.specs.MaskForms.{SetsOf, MaskedTo}
use Rattle.table_sets.proofs.MarksByKey.{all-marked}
use Rattle.table_sets.proofs.MarksByMask.{masked-more}
use Rattle.table_sets.proofs.by_mask.mark_bytes.Goals as goal

pub marks_among-m-requires : goal.marks_among-m-requires
marks_among-m-requires c =
    let start = c in
    let a = start.args in
    let p = start.requires in
    let rs = a.recs.now in
    let ps = a.places.now in
    let e = set_at rs ps a.i in
    let fields = p.5 in (
      p.0,
      omega arith,
      p.4.told,
      subst (λ (k : ℕ). SetsOf rs ps (chain_of e) a.i (get_or a.sets.now (k % keys) 0)) (sym fields.key)
          (p.4.keyed (chain_of e) (omega arith)),
      c.told_of-y.ensures e fields fields.key,
      fields,
      p.6,
      p.7,
    )

pub returns : goal.returns
returns c =
    let told = c in
    let start = told in
    let a = start.args in
    let p = start.requires in
    let rs = a.recs.now in
    let ps = a.places.now in
    let e = set_at rs ps a.i in
    let fields = p.5 in
    let sets = a.sets.now in
    let y = told.told_of-y.result in (
      c.marks_among-m.ensures ∙ all-marked rs ps a.i (omega arith),
      rw c.only.ensures
          (subst
          (λ (k : ℕ). MaskedTo rs ps (a.i + 1) (set sets (k % keys) (bit_or (get_or sets (k % keys) 0) (2 ^ a.i)))
          (set a.tolds.now a.i y))
          (sym fields.key)
          (masked-more rs ps sets a.tolds.now a.i y p.4 p.2 p.3
          (told.told_of-y.ensures e fields fields.key))),
    )
