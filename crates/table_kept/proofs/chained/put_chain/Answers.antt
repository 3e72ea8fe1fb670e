-- `table_kept::chained::put_chain` meets its contract: the Sets from the place m on are put down, and the chain goes on
-- below it. Assumes nothing.
use mathlib.Core.Path.{◌≡◌, refl, sym, ap, subst, ◌∙◌}
use Prim.Native.Nat.{ℕ, ◌≤◌, ◌<◌}
use native.Mathlib.Omega.{arith}
use lib.ListN.{length, get_or, set}
use Rattle.group_step.specs.GroupRows.{most_sets}
use Rattle.table_index.specs.IndexForms.{head_at, link_at, latest_on}
use Rattle.table_index.proofs.ChainsOfSets.{latest-low}
use Rattle.table_kept.specs.ChainForms.{number_on, PutFrom}
use Rattle.table_kept.proofs.AlongChains.{LatestBefore, latest-before, rank-fits, put-one-more, put-to-end}
use borrow.Author.Rules.{rules}
use Rattle.table_kept.proofs.chained.put_chain.Goals as goal
use Rattle.table_kept.proofs.chained.put_chain.Goals.{Start}

-- one link of the chain
record Linking (s : Start) (m p : ℕ) : Type 0 where
  latest : LatestBefore s.args.recs.now s.args.q s.args.key m p
  low : p < s.args.n
  rank : get_or s.args.numbers.now p 0 ≡ number_on s.args.recs.now s.args.q p
  fits : number_on s.args.recs.now s.args.q p < most_sets
  next : get_or s.args.chains.now (link_at p) 0 ≡ latest_on s.args.recs.now s.args.q s.args.key p

link :
    (s : Start) (m p : ℕ) → m ≤ s.args.n →
    p ≡ latest_on s.args.recs.now s.args.q s.args.key m → 0 < p → Linking s m p
link s m p few is some =
    let a = s.args in
    let rs = a.recs.now in
    let h = s.requires.0 in
    let d : LatestBefore rs a.q a.key m p
    = subst (LatestBefore rs a.q a.key m) (sym is) (latest-before rs a.q a.key m (rw is at some)) in
    let below : p < a.n = omega (arith, d.below) in
    record {
      latest = d;
      low = below;
      rank = h.chained.ranked a.q p h.low h.create below d.on;
      fits = rank-fits rs a.q a.n p below d.on h.narrow;
      next =
          h.chained.linked a.q p h.low h.create below d.on
          ∙ ap (λ (y : ℕ). latest_on rs a.q y p) d.key;
    }

pub loop-p-init : goal.loop-p-init
loop-p-init c =
    let s = c in
    let a = s.args in
    let h = s.requires.0 in
    let o = c.byte_at-o.ensures ∙ h.number in (
      a.n,
      omega arith,
      c.byte_at-p.ensures
          ∙ ap (λ (i : ℕ). get_or a.chains.now (head_at i a.key) 0) o
          ∙ h.chained.latest a.q h.low h.create a.key s.requires.1,
      record { long = refl; put = λ x l on key from. absurd (omega arith); others = λ x l on key. refl },
    )

pub overflow_cast-out : goal.overflow_cast-out
overflow_cast-out c =
    let l = c.loop-p in
    let s = c in
    let (m, few, is, h) = l.invariant in
    let t = link (goal.at.overflow_cast-out c).Start m l.p few is (omega arith) in
    search (rules, t.low, s.requires.0.few)

pub bounds-out-k : goal.bounds-out-k
bounds-out-k c =
    let l = c.loop-p in
    let s = c in
    let (m, few, is, h) = l.invariant in
    let t = link (goal.at.bounds-out-k c).Start m l.p few is (omega arith) in
    let there : c.byte_at-k.result < length l.out
    = omega (arith, c.byte_at-k.ensures ∙ t.rank, t.fits, s.requires.2, h.long) in
    there

pub overflow_add-p : goal.overflow_add-p
overflow_add-p c =
    let l = c.loop-p in
    let s = c in
    let (m, few, is, h) = l.invariant in
    let t = link (goal.at.overflow_add-p c).Start m l.p few is (omega arith) in
    search (rules, t.low, s.requires.0.few)

pub loop-p-smaller : goal.loop-p-smaller
loop-p-smaller c =
    let l = c.loop-p in
    let s = c in
    let (m, few, is, h) = l.invariant in
    let t = link (goal.at.loop-p-smaller c).Start m l.p few is (omega arith) in
    let low = latest-low s.args.recs.now s.args.q s.args.key l.p (omega arith) in
    omega (arith, c.byte_at-p-in-loop-p.ensures ∙ t.next, low)

pub loop-p-preserved : goal.loop-p-preserved
loop-p-preserved c =
    let l = c.loop-p in
    let s = c in
    let a = s.args in
    let (m, few, is, h) = l.invariant in
    let t = link (goal.at.loop-p-preserved c).Start m l.p few is (omega arith) in
    let rank = c.byte_at-k.ensures ∙ t.rank in (
      l.p,
      omega (arith, t.low),
      c.byte_at-p-in-loop-p.ensures ∙ t.next,
      subst (λ (k : ℕ). PutFrom a.recs.now a.n a.q a.key l.p a.out.now (set l.out k l.p))
          (sym rank)
          (put-one-more a.recs.now a.q a.n a.key m l.p a.out.now l.out few t.latest h
          (omega (arith, t.fits, s.requires.2, h.long))),
    )

pub shape_of-out : goal.shape_of-out
shape_of-out c =
    let (m, few, is, h) = c.loop-p.invariant in
    h.long

pub returns : goal.returns
returns c =
    let l = c.loop-p in
    let s = c in
    let a = s.args in
    let (m, few, is, h) = l.invariant in
    let done : l.p ≡ 0 = omega arith in
    put-to-end a.recs.now a.q a.n a.key m a.out.now l.out s.requires.0.first (sym is ∙ done) h
