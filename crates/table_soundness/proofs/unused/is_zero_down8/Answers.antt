-- `table_soundness::unused::is_zero_down8` meets its contract: the entries from i on are zero if no bit was met.
-- Assumes nothing.
use mathlib.Core.Path.{◌≡◌, ◌∙◌, ap}
use Prim.Native.Nat.{ℕ, ◌+◌, ◌-◌}
use native.Mathlib.Omega.{arith}
use lib.Dec.{eqb}
use Rattle.table_soundness.specs.Sound.{zero_from}
use Rattle.table_soundness.proofs.ZeroFrom.{zero-past, zero-down, no-bit}
use Rattle.table_soundness.proofs.unused.is_zero_down8.Goals as goal

pub loop-i-init : goal.loop-i-init
loop-i-init c = (c.requires, zero-past c.args.s.now _ (omega arith))

pub loop-i-preserved : goal.loop-i-preserved
loop-i-preserved c =
    let s = c.args.s.now in
    let l = c.loop-i in
    let e : l.i - 1 + 1 ≡ l.i = omega arith in
    let before : eqb l.bits 0 ≡ zero_from s (l.i - 1 + 1) = rw e l.invariant.1 in
    (omega arith, rw (← no-bit l.bits _, before) (zero-down s (l.i - 1) (omega arith)))

pub returns : goal.returns
returns c =
    let a = c.args in
    let l = c.loop-i in
    let k : l.i ≡ a.k = omega arith in
    l.invariant.1 ∙ ap (λ (i : ℕ). zero_from a.s.now i) k
