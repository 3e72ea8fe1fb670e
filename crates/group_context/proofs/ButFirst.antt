-- A number and the number before it have in common all members of the first but its first. Assumes nothing.
use mathlib.Core.Path.{◌≡◌, refl, sym, ap, ◌∙◌, subst}
use mathlib.Core.Bool.{true}
use Prim.Native.Nat.{ℕ, zero, suc, ◌-◌, ◌/◌, ◌%◌, ◌^◌, ◌<◌}
use native.Mathlib.Nat.{pow-suc}
use native.Mathlib.Omega.{arith}
use lib.Bits.{bit_and, and_step, and_self, and_comm, and_le_l}
use lib.Count.{count_trailing_zeros, under}
use lib.Pow.{pow-lt}
use borrow.Author.Tests.{eqb-true}
use Rattle.math_maximal.specs.Groups.{bit}
use Rattle.math_maximal.proofs.Bits.{bit_below, bit-power, part-and}
use Rattle.math_maximal.proofs.FirstMember.{first_member}
use Rattle.math_maximal.proofs.OneMemberLess.{fewer}

less_one : (k m : ℕ) → 0 < m → m < 2 ^ k → bit_and m (m - 1) ≡ m - 2 ^ count_trailing_zeros k m
unfolding count_trailing_zeros
less_one zero m l h = absurd (omega arith)
less_one (suc k) m l h = go (m % 2) refl (λ q. less_one k (m / 2) q (omega arith))
  where
    go :
        (d : ℕ) → m % 2 ≡ d →
        (0 < m / 2 → bit_and (m / 2) (m / 2 - 1) ≡ m / 2 - 2 ^ count_trailing_zeros k (m / 2)) →
        bit_and m (m - 1) ≡ m - 2 ^ under d (count_trailing_zeros k (m / 2))
    go zero e rest =
        let half : (m - 1) / 2 ≡ m / 2 - 1 = omega arith in
        and_step m (m - 1)
        ∙ rw (half, rest (omega arith), e, pow-suc 2 (count_trailing_zeros k (m / 2))) (omega arith)
    go (suc d) e rest =
        let half : (m - 1) / 2 ≡ m / 2 = omega arith in
        let even : (m - 1) % 2 ≡ 0 = omega arith in
        and_step m (m - 1) ∙ rw (half, and_self (m / 2), even) (omega arith)

module _ (g : ℕ) (some : g ≡ 0 → ⊥) (fits : g < 2 ^ 64) where
  common : bit_and g (2 ^ count_trailing_zeros 64 g) ≡ 2 ^ count_trailing_zeros 64 g
  common =
      let t = count_trailing_zeros 64 g in
      let here = first_member 64 g (omega arith) fits in
      let small = pow-lt (bit_below 64 g fits t here) in
      and_comm g (2 ^ t)
      ∙ (part-and 64 (2 ^ t) g small fits).1 (λ j b. subst (λ (x : ℕ). bit g x ≡ true) (own j b) here)
    where
      own : (j : ℕ) → bit (2 ^ count_trailing_zeros 64 g) j ≡ true → count_trailing_zeros 64 g ≡ j
      own j b = sym (eqb-true j (count_trailing_zeros 64 g) (sym (bit-power (count_trailing_zeros 64 g) j) ∙ b))

  -- the first member of g, as a number that has it alone
  pub own_first : g - fewer g (count_trailing_zeros 64 g) ≡ 2 ^ count_trailing_zeros 64 g
  own_first = rw common (omega (arith, common, and_le_l g (2 ^ count_trailing_zeros 64 g)))

  pub but_first : bit_and g (g - 1) ≡ fewer g (count_trailing_zeros 64 g)
  but_first = less_one 64 g (omega arith) fits ∙ ap (λ (x : ℕ). g - x) (sym common)
