-- The first member of a number, as the count of the zeros before it gives it. Assumes nothing.
use mathlib.Core.Path.{◌≡◌, refl, ◌∙◌}
use mathlib.Core.Bool.{true}
use Prim.Native.Nat.{ℕ, zero, suc, ◌/◌, ◌%◌, ◌^◌, ◌<◌}
use native.Mathlib.Omega.{arith}
use native.Mathlib.Nat.{div-one}
use native.Mathlib.Numerals.{one-add}
use lib.Count.{count_trailing_zeros, under}
use lib.Pow.{shr-shr}
use borrow.Author.Tests.{eq-eqb}
use Rattle.math_maximal.specs.Groups.{bit}

bit-half : (g i : ℕ) → bit g (suc i) ≡ bit (g / 2) i
unfolding bit
bit-half g i = rw (← one-add i, ← shr-shr g 1 i)

bit-odd : (g : ℕ) → g % 2 ≡ 1 → bit g 0 ≡ true
unfolding bit
bit-odd g e = rw (div-one g) (eq-eqb (g % 2) 1 e)

pub first_member : (k m : ℕ) → 0 < m → m < 2 ^ k → bit m (count_trailing_zeros k m) ≡ true
unfolding count_trailing_zeros
first_member zero m l h = absurd (omega arith)
first_member (suc k) m l h = go (m % 2) refl (λ q. first_member k (m / 2) q (omega arith))
  where
    go :
        (d : ℕ) → m % 2 ≡ d → (0 < m / 2 → bit (m / 2) (count_trailing_zeros k (m / 2)) ≡ true) →
        bit m (under d (count_trailing_zeros k (m / 2))) ≡ true
    go zero e rest = bit-half m (count_trailing_zeros k (m / 2)) ∙ rest (omega arith)
    go (suc d) e rest = bit-odd m (omega arith)
