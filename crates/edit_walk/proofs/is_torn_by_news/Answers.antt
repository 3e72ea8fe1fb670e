-- `edit_walk::is_torn_by_news` meets its contract. Assumes nothing.
use mathlib.Core.Path.{◌≡◌, sym, ap, ◌∙◌}
use mathlib.Core.Bool.{◌||◌, or-false, or_assoc}
use mathlib.Core.List.{List}
use Prim.Native.Nat.{ℕ}
use native.Mathlib.Numerals.{add-one}
use native.Mathlib.Omega.{arith}
use borrow.Author.Tests.{eq-eqb, ne_eqb}
use Rattle.math_lists.specs.NumbersBelow.{some}
use Rattle.edit_record.specs.Layout.{most_sites}
use Rattle.edit_history.specs.Answers2to5.{larger_somewhere}
use Rattle.edit_walk.specs.WalkForms.{seen_before, vector_by, seen_by_last, torn_by_news}
use Rattle.edit_walk.proofs.is_torn_by_news.Invariants.{is_news}
use Rattle.edit_walk.proofs.is_torn_by_news.Goals as goal
use Rattle.edit_walk.proofs.is_torn_by_news.Goals.{then-q-was, else-q-was}

pub loop-t-init : goal.loop-t-init
unfolding some
loop-t-init c = c.is_larger_somewhere-found.ensures
    ∙ sym (or-false
    (larger_somewhere c.vector_by-was.result c.args.w))

pub loop-t-preserved : goal.loop-t-preserved
unfolding some
loop-t-preserved c =
    let z = c in
    let l = z.loop-t in
    let a = z.args in
    let seen = seen_before a.w a.s in
    let was = z.vector_by-was.result in
    let rs = a.recs.now in
    let ps = a.places.now in
    let q = c.latest_seen-q.ensures in
    let e : c.if-q-was.found ≡ (l.found || is_news rs ps a.w seen was l.t)
    = rw (← q)
    (elim c.if-q-was.branch [
      | then-q-was w ↦ w.found-is ∙ rw (ne_eqb _ _ w.if-q-was.true, w.is_torn_at-found.ensures)
      | else-q-was w ↦ w.found-is ∙ rw (eq-eqb _ _ w.if-q-was.false) (sym (or-false l.found))
    ]) in rw (add-one, e, l.invariant)
    (or_assoc (larger_somewhere was a.w) (some l.t (is_news rs ps a.w seen was))
    (is_news rs ps a.w seen was l.t))

pub returns : goal.returns
unfolding torn_by_news
returns c =
    let z = c in
    let a = z.args in
    let rs = a.recs.now in
    let ps = a.places.now in
    let seen = seen_before a.w a.s in
    let k : c.loop-t.t ≡ most_sites = omega arith in
    let was : z.vector_by-was.result ≡ seen_by_last rs ps a.w a.s
    = z.vector_by-was.ensures ∙ ap (vector_by rs ps a.s.0) z.latest_seen-last.ensures in
    (rw k at c.loop-t.invariant)
    ∙ ap (λ (y : List ℕ). larger_somewhere y a.w || some most_sites (is_news rs ps a.w seen y)) was
