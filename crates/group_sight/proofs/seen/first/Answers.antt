-- `group_sight::seen::first` meets its contract. Assumes nothing.
use mathlib.Core.Path.{◌≡◌, ap, ◌∙◌}
use Prim.Native.Nat.{ℕ, suc, ◌-◌, ◌*◌, ◌^◌, ◌≤◌}
use native.Mathlib.Nat.{pow-suc}
use native.Mathlib.Omega.{arith}
use lib.Pow.{pow_pos, pow_mono}
use Rattle.group_context.proofs.MaskFromBits.{first-bits}
use Rattle.group_sight.proofs.seen.first.Goals as goal

-- twice what the last of them is alone
twice : (k : ℕ) → 1 ≤ k → 2 ^ k ≡ 2 ^ (k - 1) * 2
twice k l =
    let e : k ≡ suc (k - 1) = omega arith in
    ap (λ (x : ℕ). 2 ^ x) e ∙ pow-suc 2 (k - 1)

pub returns-then-k-eq0 : goal.returns-then-k-eq0
returns-then-k-eq0 c =
    let a = c.args in
    let none : a.k ≡ 0 = omega (arith, c.if-k-eq0.true) in
    first-bits a.k 0 (rw none)

pub overflow_sub-k : goal.overflow_sub-k
overflow_sub-k c = omega (arith, c.if-k-eq0.false)

pub only-last-requires : goal.only-last-requires
only-last-requires c = omega (arith, c.requires)

pub overflow_sub-result : goal.overflow_sub-result
overflow_sub-result c = omega (arith, c.only-last.ensures, pow_pos (c.args.k - 1))

pub overflow_add-result : goal.overflow_add-result
overflow_add-result c =
    let s = c in
    let k = s.args.k in
    let most : 2 ^ k ≤ 2 ^ 64 = pow_mono s.requires in
    omega (arith, c.only-last.ensures, twice k (omega (arith, c.if-k-eq0.false)), most, pow_pos (k - 1))

pub returns : goal.returns
returns c =
    let k = c.args.k in
    first-bits k _
    (omega (arith, c.only-last.ensures, twice k (omega (arith, c.if-k-eq0.false)), pow_pos (k - 1)))
