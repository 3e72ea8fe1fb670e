-- `table_next::take_limited` meets its contract. Assumes nothing.
use mathlib.Core.Path.{refl}
use Rattle.math_lists.proofs.Booleans.{clash}
use Rattle.table_next.proofs.LimitedTaken.{surveyed-so, indexed-so, judged-so}
use Rattle.table_next.proofs.short.take_limited.Goals as goal

pub judge-j-requires : goal.judge-j-requires
judge-j-requires c =
    let s = c in
    let a = s.args in (
      indexed-so a.sites a.n a.m a.sum a.held.now a.records.now a.objects.now a.groups.now
          a.ix.now.places a.ix.now.numbers a.ix.now.counts a.ix.now.chains a.rec.now s.requires.0 a.a s.requires.1
          s.requires.2,
      surveyed-so a.sites a.n a.m a.sum a.held.now a.records.now a.objects.now a.groups.now
          a.ix.now.places a.ix.now.numbers a.ix.now.counts a.ix.now.chains a.rec.now s.requires.0 a.a s.requires.1
          s.requires.2,
      s.requires.3,
    )

pub returns-then-j : goal.returns-then-j
returns-then-j c = (
  record { taken = λ y. clash y refl; tables = λ y. refl; index = λ y. (refl, refl, refl, refl) },
  c.forget.ensures _,
)

pub take_judged-requires : goal.take_judged-requires
take_judged-requires c =
    let i = c in
    let j = i in
    let s = c in
    let a = s.args in (
      s.requires.0,
      judged-so a.sites a.n a.m a.sum a.held.now a.records.now a.objects.now a.groups.now
          a.ix.now.places a.ix.now.numbers a.ix.now.counts a.ix.now.chains a.rec.now s.requires.0 a.a s.requires.1
          s.requires.2
          j.judge-j.result j.judge-j.ensures.0 i.if-j.false,
    )

pub returns-in_default : goal.returns-in_default
returns-in_default c = (c.in_default.ensures, c.forget-in_default.ensures _)

pub returns : goal.returns
returns c = (c.in-Some.ensures, c.judge-j.ensures.1)
