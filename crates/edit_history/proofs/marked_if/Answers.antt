-- `edit_history::marked_if` meets its contract: a marked bit is one of the number's, and no bit from it on is set.
-- Assumes nothing.
use mathlib.Core.Path.{◌≡◌, ◌∙◌}
use Prim.Native.Nat.{ℕ, ◌+◌, ◌*◌, ◌%◌, ◌^◌, ◌≤◌, ◌<◌}
use native.Mathlib.Nat.{one-mul}
use native.Mathlib.Omega.{arith}
use lib.Pow.{shl_exact, pow_mono}
use Rattle.edit_history.specs.SurveyForms.{mark_bits}
use Rattle.edit_history.proofs.marked_if.Goals as goal

shifted_one : (k : ℕ) → k < mark_bits → (1 * 2 ^ k) % 2 ^ 64 ≡ 2 ^ k
shifted_one k h = shl_exact {a = 1} 1 k 64 (omega arith) (omega arith) ∙ one-mul (2 ^ k)

doubled_fits : (k : ℕ) → k < mark_bits → 2 ^ k + 2 ^ k ≤ 2 ^ 64
doubled_fits k h = omega (arith, pow_mono {i = k} {j = 63} (omega arith))

pub overflow_shl-result : goal.overflow_shl-result
overflow_shl-result c = c.requires.1 c.if-b.true

pub overflow_add-result : goal.overflow_add-result
overflow_add-result c =
    let k = c.args.k in
    let l = c.requires.1 c.if-b.true in
    omega (arith, shifted_one k l, doubled_fits k l)

pub returns-then-b : goal.returns-then-b
returns-then-b c = rw (shifted_one c.args.k (c.requires.1 c.if-b.true), c.if-b.true)

pub returns-else-b : goal.returns-else-b
returns-else-b c = rw c.if-b.false (omega arith)
