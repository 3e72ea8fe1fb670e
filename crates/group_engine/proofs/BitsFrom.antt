-- Numbers as sets: one bit more, the bits of the largest number of a width, and the numbers that agree with another
-- from a bit on. Assumes nothing.
use mathlib.Core.Path.{◌≡◌, sym, ap, ◌∙◌}
use mathlib.Core.Logic.{inl, inr}
use mathlib.Core.Bool.{false, ◌||◌, or-false}
use Prim.Native.Nat.{ℕ, zero, suc, ◌+◌, ◌-◌, ◌^◌, ◌≤◌, ◌<◌}
use native.Mathlib.Omega.{arith}
use native.Mathlib.Decide.{dec_lt}
use lib.Dec.{eqb, ltb}
use lib.Pow.{pow_pos}
use lib.Bits.{bit_and, or_disjoint}
use borrow.Author.Tests.{eqb-true, eq-eqb, ne_eqb, ltb-true, lt-ltb}
use Rattle.math_lists.proofs.LastBelow.{last}
use Rattle.math_lists.proofs.Booleans.{clash, off, same_test, either, or_left, or_right}
use Rattle.math_maximal.specs.Groups.{bit}
use Rattle.math_maximal.proofs.Bits.{bit-or, bit-power, bit_high, compatible-on}

-- ---- a bit more

-- a number and a power that is no bit of it have the bits of both
pub bit-add :
    (n k t : ℕ) → t < 2 ^ n → bit t k ≡ false → (i : ℕ) → bit (t + 2 ^ k) i ≡ (bit t i || eqb i k)
bit-add n k t l h i =
    rw (← or_disjoint t (2 ^ k) apart) (bit-or t (2 ^ k) i ∙ rw (bit-power k i))
  where
    apart : bit_and t (2 ^ k) ≡ 0
    apart =
        eqb-true (bit_and t (2 ^ k)) 0
        (compatible-on (2 ^ k) t n l
        (λ j b. bit-power k j ∙ off (eqb j k) (λ e. clash b (rw (eqb-true j k e) h))))

-- the bits of the largest number below 2 ^ n are all below n
pub bit-ones : (n i : ℕ) → bit (2 ^ n - 1) i ≡ ltb i n
bit-ones zero i =
    bit_high 0 0 (omega arith) i (omega arith) ∙ sym (off (ltb i 0) (λ e. absurd (omega (arith, ltb-true i 0 e))))
bit-ones (suc n) i =
    let p = pow_pos n in
    let e : 2 ^ suc n - 1 ≡ (2 ^ n - 1) + 2 ^ n = omega arith in
    let l : 2 ^ n - 1 < 2 ^ n = omega arith in
    ap (λ (x : ℕ). bit x i) e ∙ bit-add n n (2 ^ n - 1) l (bit_high n (2 ^ n - 1) l n (omega arith)) i
    ∙ rw (bit-ones n i)
    (same_test (ltb i n || eqb i n) (ltb i (suc n))
    (λ h. lt-ltb i (suc n)
    (elim (either (ltb i n) (eqb i n) h)
    [ inl a ↦ omega (arith, ltb-true i n a) | inr b ↦ omega (arith, eqb-true i n b) ]))
    (λ h. elim (last (ltb-true i (suc n) h)) [
      | inl a ↦ or_left (ltb i n) (eqb i n) (lt-ltb i n a)
      | inr b ↦ or_right (ltb i n) (eqb i n) (eq-eqb i n b)
    ]))

-- ---- the numbers from t on that have its bits from u on

pub same_above :
    (u n t g : ℕ) → t + 2 ^ u ≤ 2 ^ n → ((i : ℕ) → i < u → bit t i ≡ false) → t ≤ g → g < t + 2 ^ u →
    (i : ℕ) → u ≤ i → bit g i ≡ bit t i
same_above zero n t g w low a b i l = let e : g ≡ t = omega arith in rw e
same_above (suc k) n t g w low a b i l = elim (dec_lt g (t + 2 ^ k)) [
  | yes y ↦ same_above k n t g (omega arith) (λ j m. low j (omega arith)) a y i (omega arith)
  | no f ↦
      (let more = bit-add n k t (omega (arith, pow_pos k)) (low k (omega arith)) in
      same_above k n (t + 2 ^ k) g (omega arith)
      (λ j m. more j ∙ rw (low j (omega arith), ne_eqb j k (λ e. omega arith))) (omega arith) (omega arith) i
      (omega arith)
      ∙ more i ∙ rw (ne_eqb i k (λ e. omega arith)) (or-false (bit t i)))
]
