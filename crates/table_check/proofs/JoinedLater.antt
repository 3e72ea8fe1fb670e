-- Sets without conflict come into every group, and may do so together and later: the groups with some Sets in each of
-- them, one Set more, none at all, and a step that has no conflicts. Assumes nothing.
use mathlib.Core.Path.{◌≡◌, refl, sym, fun_ext, ◌∙◌}
use mathlib.Core.Bool.{true, false, ◌||◌, or_assoc}
use mathlib.Core.List.{List, [], ◌∷◌}
use Prim.Native.Nat.{ℕ, zero, suc, ◌+◌, ◌^◌, ◌<◌}
use native.Mathlib.Omega.{arith}
use lib.Bits.{bit_or, bit_and, or_zero_r, or_lt, and_zero_r}
use lib.ListN.{length, length-map}
use borrow.Author.Tests.{eq-eqb}
use Rattle.math_lists.specs.SortedLists.{any, elem, Ascending}
use Rattle.math_maximal.specs.Groups.{bit}
use Rattle.math_maximal.specs.Step.{step}
use Rattle.math_maximal.proofs.Bits.{bit-or, same_bits}
use Rattle.group_step.specs.StepForms.{Apart, conflicting, gained}
use Rattle.group_apart.proofs.StepApart.{apart-step}
use Rattle.table_check.specs.CheckForms.{joined_with}

-- none at all
pub joined-none : (gs : List ℕ) → joined_with 0 gs ≡ gs
unfolding joined_with
joined-none [] = refl
joined-none (g ∷ gs) = rw (or_zero_r g, joined-none gs)

-- ---- one Set more

below_power : (n : ℕ) → n < 2 ^ n
below_power zero = omega arith
below_power (suc n) = omega (arith, below_power n)

or-together : (a b c : ℕ) → bit_or (bit_or a b) c ≡ bit_or a (bit_or b c)
or-together a b c =
    let n = a + b + c in
    let l : n < 2 ^ n = below_power n in
    same_bits n (bit_or (bit_or a b) c) (bit_or a (bit_or b c))
    (or_lt n (bit_or a b) c (or_lt n a b (omega arith) (omega arith)) (omega arith))
    (or_lt n a (bit_or b c) (omega arith) (or_lt n b c (omega arith) (omega arith)))
    (fun_ext (λ i. left i ∙ or_assoc (bit a i) (bit b i) (bit c i) ∙ sym (right i)))
  where
    left : (i : ℕ) → bit (bit_or (bit_or a b) c) i ≡ ((bit a i || bit b i) || bit c i)
    left i = rw (bit-or (bit_or a b) c i, bit-or a b i)

    right : (i : ℕ) → bit (bit_or a (bit_or b c)) i ≡ (bit a i || (bit b i || bit c i))
    right i = rw (bit-or a (bit_or b c) i, bit-or b c i)

joined-more : (m k : ℕ) (gs : List ℕ) → gained k (joined_with m gs) ≡ joined_with (bit_or m (2 ^ k)) gs
unfolding joined_with gained
joined-more m k [] = refl
joined-more m k (g ∷ gs) = rw (or-together g m (2 ^ k), joined-more m k gs)

none-conflicts : (gs : List ℕ) → any (conflicting 0) gs ≡ false
unfolding any
none-conflicts [] = refl
none-conflicts (g ∷ gs) = rw (eq-eqb (bit_and g 0) 0 (and_zero_r g)) (none-conflicts gs)

-- a step without conflicts
pub step-joined :
    (common k : ℕ) (gs : List ℕ) → Ascending (joined_with common gs) →
    ((x : ℕ) → elem x (joined_with common gs) ≡ true → x < 2 ^ k) → Apart (joined_with common gs) →
    step 0 k (joined_with common gs) ≡ joined_with (bit_or common (2 ^ k)) gs
step-joined common k gs up low apart =
    apart-step 0 k (joined_with common gs) low apart (rw (none-conflicts (joined_with common gs))) up
    ∙ joined-more common k gs

pub joined_length : (m : ℕ) (gs : List ℕ) → length (joined_with m gs) ≡ length gs
unfolding joined_with
joined_length m gs = length-map gs (λ g. bit_or g m)
