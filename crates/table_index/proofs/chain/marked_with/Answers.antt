-- `table_index::chain::marked_with` meets its contract: a bit that no mark has yet is added. Assumes nothing.
use mathlib.Core.Path.{◌≡◌, ◌∙◌}
use mathlib.Core.Bool.{cond}
use Prim.Native.Nat.{ℕ, ◌+◌, ◌*◌, ◌%◌, ◌^◌, ◌<◌}
use native.Mathlib.Nat.{one-mul}
use native.Mathlib.Omega.{arith}
use lib.Pow.{shl_exact}
use Rattle.table_index.proofs.chain.marked_with.Goals as goal

shifted_one : (k : ℕ) → k < 64 → (1 * 2 ^ k) % 2 ^ 64 ≡ 2 ^ k
shifted_one k h = shl_exact {a = 1} 1 k 64 (omega arith) (omega arith) ∙ one-mul (2 ^ k)

pub overflow_shl-result : goal.overflow_shl-result
overflow_shl-result c = c.requires.1 c.if-b.true

pub overflow_add-result : goal.overflow_add-result
overflow_add-result c =
    let a = c.args in
    let l = c.requires.1 c.if-b.true in
    let fits : a.marks + cond a.b (2 ^ a.k) 0 < 2 ^ 64 = c.requires.0 in
    omega (arith, shifted_one a.k l, rw c.if-b.true at fits)

pub returns-then-b : goal.returns-then-b
returns-then-b c = rw (shifted_one c.args.k (c.requires.1 c.if-b.true), c.if-b.true)

pub returns-else-b : goal.returns-else-b
returns-else-b c = rw c.if-b.false (omega arith)
