-- `block_trailer::is_filled` meets its contract: `at` is where record i starts, and a record that starts past the end
-- has none behind it that starts at the end. Assumes nothing.
use mathlib.Core.Path.{◌≡◌, refl, sym, ap, ◌∙◌}
use Prim.Native.Nat.{ℕ}
use native.Mathlib.Numerals.{add-one}
use native.Mathlib.Omega.{arith}
use lib.ListN.{length}
use lib.Dec.{eqb}
use borrow.Author.Tests.{ne_eqb}
use Rattle.edit_form.specs.OldForm.{start_of}
use Rattle.edit_form.proofs.Stretches.{ends-before, next_start, few_bytes}
use Rattle.block_trailer.proofs.is_filled.Goals as goal

pub loop-init : goal.loop-init
unfolding start_of
loop-init c = refl

pub returns-then-stretch-at : goal.returns-then-stretch-at
returns-then-stretch-at c =
    let l = c.loop in
    let a = c.args in
    let s = a.stretch.now in
    let later = ends-before a.form s l.counter a.n c.loop-test.true in
    sym (ne_eqb (start_of a.form s a.n) (length s) (λ e. omega (arith, e, later, l.invariant, c.if-stretch-at.true)))

pub overflow_add-at : goal.overflow_add-at
overflow_add-at c =
    let l = c.loop in
    let a = c.args in
    omega (
      arith,
      few_bytes a.form a.stretch.now l.counter l.at l.invariant
          (λ k. omega (arith, c.type_inv.stretch k))
          c.length_from-at.result
          c.length_from-at.ensures,
    )

pub loop-preserved : goal.loop-preserved
loop-preserved c =
    let a = c.args in
    let l = c.loop in
    rw (add-one l.counter)
    (next_start a.form a.stretch.now l.counter l.at l.invariant c.length_from-at.result c.length_from-at.ensures)

pub returns : goal.returns
returns c =
    let l = c.loop in
    let a = c.args in
    let s = a.stretch.now in
    let k : l.counter ≡ a.n = omega arith in
    ap (λ (x : ℕ). eqb x (length s)) (l.invariant ∙ ap (start_of a.form s) k)
