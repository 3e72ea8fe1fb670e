-- Numbers below n of which two have changed places: they are the same, in another order. Assumes nothing.
use mathlib.Core.Path.{◌≡◌, sym, subst, ◌∙◌}
use mathlib.Core.Bool.{Bool, true}
use Prim.Native.Nat.{ℕ, ◌<◌}
use native.Mathlib.Omega.{arith}
use native.Mathlib.Decide.{ℕ_discrete}
use borrow.Author.Tests.{eq-eqb, ne_eqb}
use Rattle.math_lists.specs.NumbersBelow.{all}
use Rattle.math_lists.proofs.Booleans.{same_test}
use Rattle.math_lists.proofs.NumbersBelow.{all-on, all-at}
use Rattle.group_named.specs.NamedForms.{swap_of}

module _ (a b : ℕ) where
  pub swap-first : (i : ℕ) → i ≡ a → swap_of a b i ≡ b
  unfolding swap_of
  swap-first i h = rw (eq-eqb i a h)

  pub swap-second : (i : ℕ) → (i ≡ a → ⊥) → i ≡ b → swap_of a b i ≡ a
  unfolding swap_of
  swap-second i d h = rw (ne_eqb i a d, eq-eqb i b h)

  pub swap-other : (i : ℕ) → (i ≡ a → ⊥) → (i ≡ b → ⊥) → swap_of a b i ≡ i
  unfolding swap_of
  swap-other i d e = rw (ne_eqb i a d, ne_eqb i b e)

  module _ (n : ℕ) (la : a < n) (lb : b < n) where
    pub swap-below : (i : ℕ) → i < n → swap_of a b i < n
    swap-below i l = elim (ℕ_discrete i a) [
      | yes h ↦ omega (arith, swap-first i h)
      | no d ↦
          elim (ℕ_discrete i b) [
            | yes h ↦ omega (arith, swap-second i d h)
            | no e ↦ omega (arith, swap-other i d e)
          ]
    ]

    -- twice, it is the number itself
    swap-twice : (i : ℕ) → swap_of a b (swap_of a b i) ≡ i
    swap-twice i = elim (ℕ_discrete i a) [
      | yes h ↦
          elim (ℕ_discrete b a) [
            | yes q ↦ swap-first (swap_of a b i) (swap-first i h ∙ q) ∙ q ∙ sym h
            | no d ↦ swap-second (swap_of a b i) (λ z. d (sym (swap-first i h) ∙ z)) (swap-first i h) ∙ sym h
          ]
      | no d ↦
          elim (ℕ_discrete i b) [
            | yes h ↦ swap-first (swap_of a b i) (swap-second i d h) ∙ sym h
            | no e ↦
                (let same = swap-other i d e in
                swap-other (swap_of a b i) (λ z. d (sym same ∙ z)) (λ z. e (sym same ∙ z)) ∙ same)
          ]
    ]

    pub all-swapped : (f : ℕ → Bool) → all n (λ i. f (swap_of a b i)) ≡ all n f
    all-swapped f =
        let g : ℕ → Bool = λ i. f (swap_of a b i) in
        same_test (all n g) (all n f)
        (λ h. all-on n f (λ i l. subst (λ (x : ℕ). f x ≡ true) (swap-twice i)
        (all-at n g h (swap_of a b i) (swap-below i l))))
        (λ h. all-on n g (λ i l. all-at n f h (swap_of a b i) (swap-below i l)))
