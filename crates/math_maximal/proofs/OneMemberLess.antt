-- The members of a number gone through one by one: the first of them, and the number without it. Assumes nothing.
use mathlib.Core.Path.{◌≡◌, sym, ◌∙◌}
use mathlib.Core.Bool.{true, false, not, ◌&&◌, and-false}
use Prim.Native.Nat.{ℕ, ◌-◌, ◌^◌, ◌≤◌, ◌<◌}
use native.Mathlib.Omega.{arith}
use lib.Bits.{bit_and}
use lib.Count.{count_trailing_zeros}
use lib.Dec.{eqb}
use borrow.Author.Tests.{ne_eqb}
use Rattle.math_lists.proofs.Booleans.{clash, both, and-on, and-true, eqb-self}
use Rattle.math_maximal.specs.Groups.{bit}
use Rattle.math_maximal.proofs.Bits.{bit-none, bit_below, bit-and, bit-minus, bit-power}
use Rattle.math_maximal.proofs.FirstMember.{first_member}

-- the first of those that are left of a number of n bits
pub first-left :
    {left n row : ℕ} → (left ≡ 0 → ⊥) → left ≤ row → row < 2 ^ n → row < 2 ^ 64 →
    (bit left (count_trailing_zeros 64 left) ≡ true) × (count_trailing_zeros 64 left < n)
first-left {left} {n} some part small fits =
    let b = first_member 64 left (omega arith) (omega arith) in
    (b, bit_below n left (omega arith) (count_trailing_zeros 64 left) b)

module _ (left j : ℕ) where
  abbrev pub fewer : ℕ
  fewer = left - bit_and left (2 ^ j)

  pub less-left : (left ≡ 0 → ⊥) → bit left j ≡ true → fewer < left
  less-left some b =
      let common : bit_and left (2 ^ j) ≡ 0 → ⊥ = λ e.
      clash (bit-and left (2 ^ j) j ∙ and-on (bit left j) (bit (2 ^ j) j) b (bit-power j j ∙ eqb-self j))
      (rw e (bit-none j)) in
      omega arith

  pub bit-fewer : (i : ℕ) → bit fewer i ≡ (bit left i && not (eqb i j))
  bit-fewer i = bit-minus left (2 ^ j) i ∙ rw (bit-power j i)

  pub still-left : (i : ℕ) → bit fewer i ≡ true → bit left i ≡ true
  still-left i b = (both (bit left i) (not (eqb i j)) (sym (bit-fewer i) ∙ b)).0

  pub own-gone : bit fewer j ≡ false
  own-gone = bit-fewer j ∙ rw (eqb-self j) (and-false (bit left j))

  pub others-left : (i : ℕ) → (i ≡ j → ⊥) → bit fewer i ≡ bit left i
  others-left i d = bit-fewer i ∙ rw (ne_eqb i j d) (and-true (bit left i))
