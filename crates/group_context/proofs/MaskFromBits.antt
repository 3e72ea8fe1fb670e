-- A number below a power of 2 is known by its bits, and so is what the operations of a 64-bit number make of two.
-- Assumes nothing.
use mathlib.Core.Path.{◌≡◌, refl, sym, ap, ◌∙◌}
use mathlib.Core.Bool.{Bool, true, not, ◌||◌, beq}
use mathlib.Core.Logic.{inl, inr}
use Prim.Native.Nat.{ℕ, zero, suc, ◌-◌, ◌^◌, ◌<◌}
use native.Mathlib.Omega.{arith}
use lib.Bits.{bit_or, or_lt}
use lib.Dec.{eqb}
use lib.Pow.{pow_pos}
use borrow.Author.Tests.{eqb-true, eq-eqb, not-true, not-false}
use Rattle.math_lists.specs.NumbersBelow.{sum, all, mask}
use Rattle.math_lists.proofs.Booleans.{clash, decide, off, same_test, either, neither, or_left, or_right}
use Rattle.math_lists.proofs.Booleans.{beq-on, beq-eq, eqb-self}
use Rattle.math_lists.proofs.NumbersBelow.{all-on, all-at, mask_below}
use Rattle.math_maximal.specs.Groups.{bit}
use Rattle.math_maximal.specs.Step.{compatible}
use Rattle.math_maximal.proofs.MaximalSets.{same_set}
use Rattle.math_maximal.proofs.Bits.{bit_below, bit-or, bit-power, same_bits}
use Rattle.math_maximal.proofs.Bits.{compatible-on, compatible-at}
use Rattle.math_maximal.proofs.Masks.{mask_at, mask-on, mask-bit}

-- the number whose bits are those that pass
pub is-mask :
    (n x : ℕ) (f : ℕ → Bool) → x < 2 ^ n → ((j : ℕ) → j < n → bit x j ≡ f j) → x ≡ mask n f
is-mask n x f l h =
    same_bits n x (mask n f) l (mask_below n f)
    (same_set (λ j p. let k = bit_below n x l j p in mask-on n f j k (sym (h j k) ∙ p))
    (λ j p. let (k, q) = mask_at n f j p in h j k ∙ q))

-- a number is that of its own bits
pub own-mask : (n x : ℕ) → x < 2 ^ n → mask n (bit x) ≡ x
own-mask n x l = sym (is-mask n x (bit x) l (λ j k. refl))

-- two such numbers are one if the same pass
pub same-masks :
    (n : ℕ) (f g : ℕ → Bool) → eqb (mask n f) (mask n g) ≡ all n (λ j. beq (f j) (g j))
same-masks n f g =
    same_test (eqb (mask n f) (mask n g)) (all n (λ j. beq (f j) (g j)))
    (λ h. all-on n (λ j. beq (f j) (g j))
    (λ j l. beq-on (f j) (g j)
    (sym (mask-bit n f j l) ∙ rw (eqb-true (mask n f) (mask n g) h) (mask-bit n g j l))))
    (λ h. eq-eqb (mask n f) (mask n g)
    (is-mask n (mask n f) g (mask_below n f)
    (λ j l. mask-bit n f j l ∙ beq-eq (f j) (g j) (all-at n (λ j. beq (f j) (g j)) h j l))))

-- ---- the first k

all_first : (k : ℕ) → mask k (λ j. true) ≡ 2 ^ k - 1
unfolding mask sum
all_first zero = refl
all_first (suc k) = omega (arith, all_first k, pow_pos k)

pub first-bits : (k r : ℕ) → r ≡ 2 ^ k - 1 → (r < 2 ^ k) × ((j : ℕ) → j < k → bit r j ≡ true)
first-bits k r e =
    (omega (arith, pow_pos k), λ j l. ap (λ (x : ℕ). bit x j) (e ∙ sym (all_first k)) ∙ mask-bit k (λ j. true) j l)

-- ---- what has no member of m

-- members of m past those that the number can have do not matter
pub compatible-same :
    (n m m' g : ℕ) → g < 2 ^ n → ((j : ℕ) → j < n → bit m j ≡ bit m' j) → compatible m g ≡ compatible m' g
compatible-same n m m' g l h =
    same_test (compatible m g) (compatible m' g)
    (λ c. compatible-on m' g n l
    (λ j p. sym (h j (bit_below n g l j p)) ∙ compatible-at m g c j p))
    (λ c. compatible-on m g n l
    (λ j p. h j (bit_below n g l j p) ∙ compatible-at m' g c j p))

-- with one member more, a number has a member of m if that is one, or if it had one before
pub compatible-with :
    (m g j : ℕ) → g < 2 ^ j → not (compatible m (bit_or g (2 ^ j))) ≡ (bit m j || not (compatible m g))
compatible-with m g j l =
    same_test (not (compatible m (bit_or g (2 ^ j)))) (bit m j || not (compatible m g))
    (λ h. elim (decide (bit m j || not (compatible m g))) [
      | inl t ↦ t
      | inr t ↦
          (let (a, c) = neither (bit m j) (not (compatible m g)) t in
          clash
          (compatible-on m (bit_or g (2 ^ j)) (suc j)
          (or_lt (suc j) g (2 ^ j) (omega (arith, pow_pos j)) (omega (arith, pow_pos j)))
          (λ i p. elim (either (bit g i) (eqb i j) (sym (bits i) ∙ p)) [
            | inl q ↦ compatible-at m g (not-false (compatible m g) c) i q
            | inr q ↦ rw (eqb-true i j q) a
          ]))
          (not-true (compatible m (bit_or g (2 ^ j))) h))
    ])
    (λ h. rw (off (compatible m (bit_or g (2 ^ j))) (λ c.
    elim (either (bit m j) (not (compatible m g)) h) [
      | inl q ↦ clash q (compatible-at m (bit_or g (2 ^ j)) c j (bits j ∙ or_right (bit g j) (eqb j j) (eqb-self j)))
      | inr q ↦ clash
          (compatible-on m g j l
          (λ i p. compatible-at m (bit_or g (2 ^ j)) c i (bits i ∙ or_left (bit g i) (eqb i j) p)))
          (not-true (compatible m g) q)
    ])))
  where
    bits : (i : ℕ) → bit (bit_or g (2 ^ j)) i ≡ (bit g i || eqb i j)
    bits i = bit-or g (2 ^ j) i ∙ rw (bit-power j i)
