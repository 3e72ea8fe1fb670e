-- The number of a set: its bits are the numbers below n that pass, and one number more is one operation. Assumes
-- nothing.
use mathlib.Core.Path.{◌≡◌, sym, ◌∙◌, ap}
use mathlib.Core.Logic.{inl, inr}
use mathlib.Core.Bool.{Bool, true, false, ◌&&◌, ◌||◌, cond, or-false}
use Prim.Native.Nat.{ℕ, zero, suc, ◌+◌, ◌*◌, ◌^◌, ◌<◌}
use native.Mathlib.Omega.{arith}
use lib.Dec.{eqb}
use lib.Bits.{bit_or, or_shifted_r}
use borrow.Author.Tests.{eqb-true, eq-eqb}
use Rattle.math_lists.specs.NumbersBelow.{sum, mask}
use Rattle.math_lists.proofs.Booleans.{clash, same_test, both, and-on, either, or_left, or_right}
use Rattle.math_lists.proofs.LastBelow.{last}
use Rattle.math_lists.proofs.NumbersBelow.{mask_below}
use Rattle.math_maximal.specs.MaximalSets.{◌∈◌}
use Rattle.math_maximal.specs.Groups.{bit}
use Rattle.math_maximal.proofs.MaximalSets.{same_set}
use Rattle.math_maximal.proofs.Bits.{bit-none, bit-or, bit-power}

-- ---- one number more

-- it joins by the operation that code makes
pub mask-by-or : (n : ℕ) (f : ℕ → Bool) → mask (suc n) f ≡ cond (f n) (bit_or (mask n f) (2 ^ n)) (mask n f)
unfolding mask sum
mask-by-or n f = go (f n)
  where
    go : (t : Bool) → mask n f + cond t (2 ^ n) 0 ≡ cond t (bit_or (mask n f) (2 ^ n)) (mask n f)
    go true =
        let one : 2 ^ n ≡ 1 * 2 ^ n = omega arith in
        let e : 1 * 2 ^ n + mask n f ≡ mask n f + 2 ^ n = omega arith in
        sym (ap (bit_or (mask n f)) one ∙ or_shifted_r 1 n (mask n f) (mask_below n f) ∙ e)
    go false = omega arith

bit-more : (n : ℕ) (f : ℕ → Bool) (i : ℕ) → bit (mask (suc n) f) i ≡ (bit (mask n f) i || f n && eqb i n)
bit-more n f i = ap (λ (x : ℕ). bit x i) (mask-by-or n f) ∙ go (f n)
  where
    go : (t : Bool) → bit (cond t (bit_or (mask n f) (2 ^ n)) (mask n f)) i ≡ (bit (mask n f) i || t && eqb i n)
    go true = bit-or (mask n f) (2 ^ n) i ∙ rw (bit-power n i)
    go false = sym (or-false (bit (mask n f) i))

-- ---- the bits

pub mask_at : (n : ℕ) (f : ℕ → Bool) (i : ℕ) → i ∈ bit (mask n f) → (i < n) × (f i ≡ true)
unfolding mask sum
mask_at zero f i h = clash h (bit-none i)
mask_at (suc n) f i h = elim (either (bit (mask n f) i) (f n && eqb i n) (sym (bit-more n f i) ∙ h)) [
  | inl p ↦ (let (l, q) = mask_at n f i p in (omega arith, q))
  | inr p ↦ (let (t, q) = both (f n) (eqb i n) p in let e = eqb-true i n q in (omega arith, rw e t))
]

pub mask-on : (n : ℕ) (f : ℕ → Bool) (i : ℕ) → i < n → f i ≡ true → i ∈ bit (mask n f)
mask-on zero f i l p = absurd (omega arith)
mask-on (suc n) f i l p =
    bit-more n f i
    ∙ elim (last l) [
      | inl k ↦ or_left (bit (mask n f) i) (f n && eqb i n) (mask-on n f i k p)
      | inr e ↦ or_right (bit (mask n f) i) (f n && eqb i n) (and-on (f n) (eqb i n) (rw e at p) (eq-eqb i n e))
    ]

pub mask-bit : (n : ℕ) (f : ℕ → Bool) (i : ℕ) → i < n → bit (mask n f) i ≡ f i
mask-bit n f i l = same_test (bit (mask n f) i) (f i) (λ b. (mask_at n f i b).1) (mask-on n f i l)

-- a set of numbers below n is a number
pub masked : (n : ℕ) (P : ℕ → Bool) → ((i : ℕ) → i ∈ P → i < n) → bit (mask n P) ≡ P
masked n P h = same_set (λ i b. (mask_at n P i b).1) (λ i p. mask-on n P i (h i p) p)
