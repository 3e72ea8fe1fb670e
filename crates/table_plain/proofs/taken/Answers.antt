-- `table_plain::taken` meets its contract. Assumes nothing.
use mathlib.Core.Path.{◌≡◌, refl, ap, ◌∙◌}
use Prim.Native.Nat.{ℕ, ◌+◌}
use native.Mathlib.Omega.{arith}
use borrow.Author.Tests.{eq-eqb, ne_eqb}
use Rattle.edit_record.specs.Layout.{create_kind}
use Rattle.edit_record.specs.RecordBytes.{decode_of}
use Rattle.edit_sum.specs.WordSum.{wrapped, record_words, sum_of}
use borrow.Author.Rules.{rules}
use Rattle.table_plain.proofs.taken.Goals as goal
use Rattle.table_plain.proofs.taken.Goals.{After-added-after}

none_more : (n : ℕ) → n + 0 ≡ n
none_more n = omega arith

sum-of :
    (c : After-added-after) →
    (let a = c.args in
    c.added-after.result ≡ wrapped (a.sum + sum_of (record_words a.rec.now) a.rec.now))
sum-of c =
    c.added-after.ensures
    ∙ ap (λ (k : ℕ). wrapped (c.args.sum + k)) c.sum_record.ensures

pub sum_record-requires : goal.sum_record-requires
sum_record-requires c =
    let s = c in
    omega (arith, s.requires.0, s.requires.1)

pub overflow_add-result : goal.overflow_add-result
overflow_add-result c =
    let s = c in
    let few = s.requires.2 (eq-eqb (decode_of s.args.rec.now).kind create_kind c.if-rec-eq-CREATE.true) in
    search (rules, few)

pub returns-then-rec-eq-CREATE : goal.returns-then-rec-eq-CREATE
returns-then-rec-eq-CREATE c =
    let a = c.args in
    let create = eq-eqb (decode_of a.rec.now).kind create_kind c.if-rec-eq-CREATE.true in
    (rw create refl, sum-of (goal.at.returns-then-rec-eq-CREATE c).After-added-after)

pub returns : goal.returns
returns c =
    let a = c.args in
    let other = ne_eqb (decode_of a.rec.now).kind create_kind c.if-rec-eq-CREATE.false in
    (rw (other, none_more a.m) refl, sum-of (goal.at.returns c).After-added-after)
