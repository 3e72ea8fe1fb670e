-- The number of the first reason that is present: 0 exactly when none is. Assumes nothing.
use mathlib.Core.Path.{◌≡◌, refl}
use mathlib.Core.Logic.{◌⊎◌, inl, inr}
use mathlib.Core.Bool.{Bool, true, false}
use mathlib.Core.List.{List, [], ◌∷◌}
use Prim.Native.Nat.{ℕ, zero, suc, ◌≤◌, ◌<◌}
use native.Mathlib.Omega.{arith}
use lib.ListN.{length, get_or}
use lib.Dec.{ltb}
use borrow.Author.Tests.{ltb-true}
use Rattle.math_lists.specs.NumbersBelow.{all}
use Rattle.math_lists.proofs.Booleans.{clash}
use Rattle.math_lists.proofs.NumbersBelow.{all-at}
use Rattle.table_arrival.specs.Answers6and7.{first_of, in_turn}

-- ---- the first that is present

-- reason i is present and none before it is
pub record First (bs : List Bool) (i : ℕ) : Type 0 where
  pub present : get_or bs i false ≡ true
  pub none_before : (j : ℕ) → j < i → get_or bs j false ≡ false

pub none-present :
    (ns : List ℕ) (bs : List Bool) → (length bs ≤ length ns) → ((i : ℕ) → i < length ns → 0 < get_or ns i 0) →
    first_of ns bs ≡ 0 → (i : ℕ) → get_or bs i false ≡ false
unfolding first_of
none-present [] [] few pos h i = refl
none-present [] (b ∷ bs) few pos h i = absurd (omega arith)
none-present (n ∷ ns) [] few pos h i = refl
none-present (n ∷ ns) (true ∷ bs) few pos h i = absurd (omega (arith, pos 0 (omega arith)))
none-present (n ∷ ns) (false ∷ bs) few pos h zero = refl
none-present (n ∷ ns) (false ∷ bs) few pos h (suc i) =
    none-present ns bs (omega arith) (λ j l. pos (suc j) (omega arith)) h i

pub first-present : (ns : List ℕ) (bs : List Bool) (i : ℕ) → i < length ns → First bs i → first_of ns bs ≡ get_or ns i 0
unfolding first_of
first-present [] bs i l f = absurd (omega arith)
first-present (n ∷ ns) [] i l f = clash f.present refl
first-present (n ∷ ns) (true ∷ bs) zero l f = refl
first-present (n ∷ ns) (false ∷ bs) zero l f = clash f.present refl
first-present (n ∷ ns) (true ∷ bs) (suc i) l f = clash refl (f.none_before 0 (omega arith))
first-present (n ∷ ns) (false ∷ bs) (suc i) l f =
    first-present ns bs i (omega arith) (record {
      present = f.present;
      none_before = λ j l. f.none_before (suc j)
          (omega arith);
    })

-- an answer other than 0 is the number of a reason that is present
pub answer-present :
    (ns : List ℕ) (bs : List Bool) →
    (first_of ns bs ≡ 0) ⊎ ((i : ℕ) × (i < length ns) × (first_of ns bs ≡ get_or ns i 0) × First bs i)
unfolding first_of
answer-present [] bs = inl refl
answer-present (n ∷ ns) [] = inl refl
answer-present (n ∷ ns) (true ∷ bs) =
    inr (0, omega arith, refl, record { present = refl; none_before = λ j l. absurd (omega arith) })
answer-present (n ∷ ns) (false ∷ bs) = go (answer-present ns bs)
  where
    go : (first_of ns bs ≡ 0) ⊎ ((i : ℕ) × (i < length ns) × (first_of ns bs ≡ get_or ns i 0) × First bs i) →
        (first_of ns bs ≡ 0)
        ⊎ ((i : ℕ) × (i < suc (length ns)) × (first_of ns bs ≡ get_or (n ∷ ns) i 0) × First (false ∷ bs) i)
    go (inl h) = inl h
    go (inr (i, m, h, f)) =
        inr (suc i, omega arith, h, record { present = f.present; none_before = before })
      where
        before : (j : ℕ) → j < suc i → get_or (false ∷ bs) j false ≡ false
        before zero l = refl
        before (suc j) l = f.none_before j (omega arith)

-- no number is 0
pub numbers-above : (i : ℕ) → i < length in_turn → 0 < get_or in_turn i 0
unfolding all
numbers-above i l =
    ltb-true 0 (get_or in_turn i 0) (all-at (length in_turn) (λ i. ltb 0 (get_or in_turn i 0)) refl i l)
