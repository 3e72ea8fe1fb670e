-- `group_named::are_named_each` meets its contract: whether each of those passed is named, and what is put down last.
-- Assumes nothing.
use mathlib.Core.Path.{◌≡◌, refl, ap, subst, ◌∙◌}
use Prim.Native.Nat.{ℕ, ◌-◌}
use native.Mathlib.Numerals.{add-one}
use native.Mathlib.Omega.{arith}
use borrow.Author.Tests.{eq-eqb}
use Rattle.math_lists.specs.NumbersBelow.{all}
use Rattle.math_lists.proofs.Booleans.{both}
use Rattle.group_named.specs.NamedForms.{is_named_at, swap_of, BoxTold}
use Rattle.group_named.proofs.SwappedPlaces.{swap-first, swap-below, all-swapped}
use Rattle.group_named.proofs.are_named_each.Goals as goal

pub loop-i-init : goal.loop-i-init
unfolding all
loop-i-init c =
    let s = c in
    (refl, refl, refl, refl, refl, λ chained law. (refl, λ none. absurd (omega (arith, s.requires.1))))

pub are_named_at-own-requires : goal.are_named_at-own-requires
are_named_at-own-requires c =
    let l = c.loop-i in
    let back = c in
    let s = back in
    let w = c.swapped-p in
    let more = c.loop-i-test.true in (
      s.requires.0,
      rw w.ensures (swap-below _ s.args.last s.args.n (omega arith) s.requires.1 l.i more),
      s.requires.2,
      omega (arith, l.invariant.0, s.requires.3),
      omega (arith, l.invariant.1, s.requires.4),
      omega (arith, l.invariant.2, s.requires.5),
      omega (arith, l.invariant.3, s.requires.6),
      omega (arith, l.invariant.4, s.requires.7),
    )

pub loop-i-preserved : goal.loop-i-preserved
unfolding all
loop-i-preserved c =
    let t = c.are_named_at-own in
    let back = c in
    let far = back in
    let w = far.swapped-p in
    let y = far in
    let l = y.loop-i in
    let s = y in (
      t.auto.members ∙ l.invariant.0,
      t.auto.plain ∙ l.invariant.1,
      t.auto.ctx ∙ l.invariant.2,
      t.auto.sees ∙ l.invariant.3,
      t.auto.names ∙ l.invariant.4,
      λ chained law.
          let a = s.args in
          let end = a.n - 1 in
          let (all-before, _) = l.invariant.5 chained law in
          let (own, told) = t.ensures chained law in (
            rw (add-one, all-before, own, w.ensures),
            λ done h.
                let at : l.i ≡ end = omega arith in
                subst (λ (x : ℕ). BoxTold a.recs.now a.n x t.new.members t.new.names t.new.plain
                t.new.ctx t.new.sees)
                (w.ensures ∙ swap-first end a.last l.i at)
                (told (eq-eqb l.i end at) (both l.named t.result h).1),
          ),
    )

pub returns : goal.returns
returns c chained law =
    let l = c.loop-i in
    let s = c in
    let a = s.args in
    let done : l.i ≡ a.n = omega arith in
    let rs = a.recs.now in
    let end = a.n - 1 in
    let (named, told) = l.invariant.5 chained law in (
      named
          ∙ ap (λ (j : ℕ). all j (λ i. is_named_at rs a.n (swap_of end a.last i))) done
          ∙ all-swapped end a.last a.n (omega (arith, s.requires.1)) s.requires.1 (is_named_at rs a.n),
      told done,
    )
