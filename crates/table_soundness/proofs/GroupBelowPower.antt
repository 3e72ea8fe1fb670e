-- A group with no bit at or past k is a number below 2 ^ k. Assumes nothing.
use mathlib.Core.Path.{◌≡◌, sym}
use mathlib.Core.Bool.{true}
use Prim.Native.Nat.{ℕ, ◌/◌, ◌^◌, ◌≤◌, ◌<◌}
use native.Mathlib.Omega.{arith}
use native.Mathlib.Nat.{div-eq_of_lt, div-lt_iff_lt-mul, lt_of_lt_of_le}
use lib.Dec.{eqb, ltb}
use lib.Pow.{pow_pos, pow_mono}
use borrow.Author.Tests.{eqb-true, eq-eqb, ltb-true, lt-ltb}
use Rattle.math_lists.proofs.Booleans.{same_test}
use Rattle.group_step.specs.GroupRows.{most_sets}

pub no-bit-past : (g k : ℕ) → eqb (g / 2 ^ k) 0 ≡ ltb g (2 ^ k)
no-bit-past g k = same_test (eqb (g / 2 ^ k) 0) (ltb g (2 ^ k)) to from
  where
    to : eqb (g / 2 ^ k) 0 ≡ true → ltb g (2 ^ k) ≡ true
    to h =
        let e : g / 2 ^ k ≡ 0 = eqb-true (g / 2 ^ k) 0 h in
        let l : g / 2 ^ k < 1 = omega arith in
        lt-ltb g (2 ^ k) (omega (arith, (div-lt_iff_lt-mul {x = g} {y = 1} (pow_pos k)).0 l))

    from : ltb g (2 ^ k) ≡ true → eqb (g / 2 ^ k) 0 ≡ true
    from h = eq-eqb (g / 2 ^ k) 0 (div-eq_of_lt (ltb-true g (2 ^ k) h))

-- a group has no bit past its room
pub all-bits : (g k : ℕ) → g < 2 ^ most_sets → most_sets ≤ k → true ≡ ltb g (2 ^ k)
all-bits g k h l = sym (lt-ltb g (2 ^ k) (lt_of_lt_of_le h (pow_mono l)))
