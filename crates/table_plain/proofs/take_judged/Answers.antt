-- `table_plain::take_judged` meets its contract. Assumes nothing.
use mathlib.Core.Path.{◌≡◌, ap, ◌∙◌}
use Prim.Native.Nat.{ℕ, ◌+◌}
use native.Mathlib.Omega.{arith}
use Rattle.edit_sum.specs.WordSum.{wrapped}
use Rattle.table_plain.proofs.JudgedGoes.{judged-there, judged-steps, judged-put, judged-crowded}
use Rattle.table_plain.proofs.JudgedGoes.{judged-enters, judged-left}
use borrow.Author.Rules.{rules}
use Rattle.table_plain.proofs.take_judged.Goals as goal

more-none : (n : ℕ) → n ≡ n + 0
more-none n = omega arith

pub bounds-rec-0 : goal.bounds-rec-0
bounds-rec-0 c =
    let s = c in
    let a = s.args in
    let there = judged-there a.sites a.n a.m a.sum a.held.now a.records.now a.objects.now a.groups.now
    a.ix.now.places a.ix.now.numbers a.ix.now.counts a.ix.now.chains a.rec.now s.requires.0 a.a s.requires.1 in
    search (rules, there)

pub bounds-rec-37 : goal.bounds-rec-37
bounds-rec-37 c =
    let s = c in
    let a = s.args in
    let there = judged-there a.sites a.n a.m a.sum a.held.now a.records.now a.objects.now a.groups.now
    a.ix.now.places a.ix.now.numbers a.ix.now.counts a.ix.now.chains a.rec.now s.requires.0 a.a s.requires.1 in
    search (rules, there)

pub store_set-requires : goal.store_set-requires
store_set-requires c =
    let s = c in
    let a = s.args in (
      s.requires.0.few,
      judged-steps a.sites a.n a.m a.sum a.held.now a.records.now a.objects.now a.groups.now
          a.ix.now.places a.ix.now.numbers a.ix.now.counts a.ix.now.chains a.rec.now s.requires.0 a.a s.requires.1,
    )

pub returns-then-not-store_set : goal.returns-then-not-store_set
returns-then-not-store_set c =
    let w = c in
    let s = c in
    let a = s.args in
    judged-crowded a.sites a.n a.m a.sum a.held.now a.records.now a.objects.now a.groups.now
    a.ix.now.places a.ix.now.numbers a.ix.now.counts a.ix.now.chains a.rec.now s.requires.0 a.a s.requires.1 _ _ _ _ _
    (rw (c.if-not-store_set.true) at w.store_set.ensures)

pub enter-requires : goal.enter-requires
enter-requires c =
    let w = c in
    let s = c in
    let a = s.args in (
      judged-there a.sites a.n a.m a.sum a.held.now a.records.now a.objects.now a.groups.now
          a.ix.now.places a.ix.now.numbers a.ix.now.counts a.ix.now.chains a.rec.now s.requires.0 a.a s.requires.1,
      judged-enters a.sites a.n a.m a.sum a.held.now a.records.now a.objects.now a.groups.now
          a.ix.now.places a.ix.now.numbers a.ix.now.counts a.ix.now.chains a.rec.now s.requires.0 a.a s.requires.1 _ _ _ _ _
          (rw (c.if-not-store_set.false) at w.store_set.ensures),
    )

pub put_record-requires : goal.put_record-requires
put_record-requires c =
    let s = c in
    let a = s.args in
    judged-put a.sites a.n a.m a.sum a.held.now a.records.now a.objects.now a.groups.now
    a.ix.now.places a.ix.now.numbers a.ix.now.counts a.ix.now.chains a.rec.now s.requires.0 a.a s.requires.1

pub sum_record-requires : goal.sum_record-requires
sum_record-requires c =
    let s = c in
    omega (arith, s.requires.0.whole)

pub returns : goal.returns
returns c =
    let w = c in
    let s = c in
    let a = s.args in
    let n = c.enter.ensures in
    judged-left a.sites a.n a.m a.sum a.held.now a.records.now a.objects.now a.groups.now
    a.ix.now.places a.ix.now.numbers a.ix.now.counts a.ix.now.chains a.rec.now s.requires.0 a.a s.requires.1 _ _ _ _ _
    (rw (c.if-not-store_set.false) at w.store_set.ensures) _ _ _ _ _ n.0
    c.put_record.ensures n.1 (more-none a.m)
    (c.added-after.ensures ∙ ap (λ (k : ℕ). wrapped (a.sum + k)) c.sum_record.ensures)
