-- `table_soundness::unused::is_zero_from64` meets its contract: the first i groups of each of four parts are zero if no
-- bit was met, and then all up to j. Assumes nothing.
use mathlib.Core.Path.{◌≡◌, refl, ◌∙◌, ap}
use Prim.Native.Nat.{ℕ, ◌+◌, ◌-◌, ◌*◌, ◌/◌}
use native.Mathlib.Omega.{arith}
use lib.ListN.{length, length-drop}
use lib.Seq.{get_or-drop}
use Rattle.math_lists.specs.NumbersBelow.{all}
use Rattle.table_soundness.proofs.ZeroFrom.{zero_at, zero_four, rest-is, zero-past, four-end, zero-end, bits-more}
use Rattle.table_soundness.proofs.ZeroFrom.{four-bits-more}
use Rattle.table_soundness.proofs.unused.is_zero_from64.Goals as goal

pub returns-then-s-k : goal.returns-then-s-k
returns-then-s-k c = zero-past c.args.s.now c.args.k c.if-s-k.true

pub loop-i-init : goal.loop-i-init
unfolding all
loop-i-init c = (omega arith, refl)

pub loop-i-preserved : goal.loop-i-preserved
loop-i-preserved c =
    let a = c.args in
    let l = c.loop-i in
    (l.invariant.0, four-bits-more a.s.now a.k _ l.i l.bits l.invariant.1)

pub loop-group-init : goal.loop-group-init
loop-group-init c =
    let a = c.args in
    let l = c.loop-i in
    let part = (length a.s.now - a.k) / 32 * 8 in
    let e : l.i ≡ part = omega arith in
    l.invariant.1
    ∙ ap (λ (i : ℕ). all i (zero_four a.s.now a.k part)) e
    ∙ four-end a.s.now a.k part
    ∙ ap (λ (i : ℕ). all i (zero_at a.s.now a.k)) (omega arith)

pub loop-group-preserved : goal.loop-group-preserved
loop-group-preserved c =
    let a = c.args in
    let s = a.s.now in
    let l = c.loop-group in
    let part = (length s - a.k) / 32 * 8 in
    let end = a.k + part + part + part + part in
    let next : end + (l.group-index + 1) ≡ end + l.group-index + 1 = omega arith in
    rw (next, rest-is s end, get_or-drop end s l.group-index 0)
    (bits-more s a.k (end + l.group-index) l.bits (omega arith) l.invariant)

pub returns : goal.returns
returns c =
    let a = c.args in
    let l = c.loop-group in
    let part = (length a.s.now - a.k) / 32 * 8 in
    let end = a.k + part + part + part + part in
    l.invariant ∙ zero-end a.s.now a.k (end + l.group-index) (omega (arith, length-drop end a.s.now))
