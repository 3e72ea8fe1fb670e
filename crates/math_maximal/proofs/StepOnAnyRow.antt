-- What the step does to any row of numbers, true groups or not. Assumes nothing.
use mathlib.Core.Path.{◌≡◌, refl, sym, ◌∙◌}
use mathlib.Core.Logic.{◌⊎◌, inl, inr}
use mathlib.Core.Bool.{Bool, true, false, not, ◌&&◌, ◌||◌, cond, or-false, or_comm}
use mathlib.Core.List.{List, [], ◌∷◌, flat_map}
use Prim.Native.Nat.{ℕ, suc, ◌^◌, ◌<◌}
use native.Mathlib.Omega.{arith}
use lib.Dec.{eqb}
use lib.Bits.{bit_and, bit_or, and_le_r}
use borrow.Author.Tests.{eqb-true, eqb-false, eq-eqb, ne_eqb, not-true}
use Rattle.math_lists.specs.SortedLists.{any, elem, filter, Ascending}
use Rattle.math_lists.proofs.Booleans.{off, both, and-on, either, or_left, or_right, eqb-self}
use Rattle.math_lists.proofs.Elements.{any-on, any_at, any-flat_map, filter-at, filter-on}
use Rattle.math_lists.proofs.SortedLists.{any-ascending, is-ascending}
use Rattle.math_lists.proofs.ByPlaces.{largest}
use Rattle.math_maximal.specs.MaximalSets.{◌⊆◌}
use Rattle.math_maximal.specs.Groups.{bit}
use Rattle.math_maximal.specs.Step.{compatible, candidate, part_of_larger, offered, dropped, step}
use Rattle.math_maximal.proofs.Bits.{part-and, candidate-below, gains}

-- ---- what a row offers

module _ (m k : ℕ) where
  -- g offers its candidate, and itself where it is not compatible
  any-offered :
      (f : ℕ → Bool) (g : ℕ) → any f (offered m k g) ≡ (f (candidate m k g) || (not (compatible m g) && f g))
  unfolding any offered
  any-offered f g = go (compatible m g) refl
    where
      go : (b : Bool) → compatible m g ≡ b →
          any f (cond b (bit_or g (2 ^ k) ∷ []) (g ∷ candidate m k g ∷ [])) ≡ (f (candidate m k g) || (not b && f g))
      go true e = rw (gains m k g e)
      go false e = rw (or-false (f (candidate m k g))) (or_comm (f g) (f (candidate m k g)))

  module _ (gs : List ℕ) where
    -- what the numbers of the row offer, one after the other
    abbrev pub row : List ℕ
    row = flat_map (offered m k) gs

    pub row_at :
        (x : ℕ) → elem x row ≡ true →
        (g : ℕ) × (elem g gs ≡ true) × ((x ≡ candidate m k g) ⊎ ((x ≡ g) × (compatible m g ≡ false)))
    row_at x h =
        let (g, e, q) = any_at (λ g. elem x (offered m k g)) gs (sym (any-flat_map (eqb x) (offered m k) gs) ∙ h) in (
          g,
          e,
          elim (either (eqb x (candidate m k g)) (not (compatible m g) && eqb x g) (sym (any-offered (eqb x) g) ∙ q)) [
            | inl a ↦ inl (eqb-true x (candidate m k g) a)
            | inr a ↦
                (let (d, b) = both (not (compatible m g)) (eqb x g) a in
                inr (eqb-true x g b, not-true (compatible m g) d))
          ],
        )

    -- x is in the row if some number offers it
    row_on :
        (x g : ℕ) → elem g gs ≡ true → (eqb x (candidate m k g) || (not (compatible m g) && eqb x g)) ≡ true →
        elem x row ≡ true
    row_on x g e q =
        any-flat_map (eqb x) (offered m k) gs
        ∙ any-on (λ g. elem x (offered m k g)) gs g e (any-offered (eqb x) g ∙ q)

    pub candidate-on : (g : ℕ) → elem g gs ≡ true → elem (candidate m k g) row ≡ true
    candidate-on g e = row_on (candidate m k g) g e (or_left _ _ (eqb-self (candidate m k g)))

    pub self-on : (g : ℕ) → elem g gs ≡ true → compatible m g ≡ false → elem g row ≡ true
    self-on g e d =
        row_on g g e
        (or_right (eqb g (candidate m k g)) _ (and-on (not (compatible m g)) (eqb g g) (rw d) (eqb-self g)))

    -- the step has what the row offers and does not drop
    pub step-at : (x : ℕ) → elem x (step m k gs) ≡ true → (elem x row ≡ true) × (dropped k row x ≡ false)
    unfolding step
    step-at x h =
        let f : ℕ → Bool = λ x. not (dropped k row x) in
        let (e, d) = filter-at f row x (sym (any-ascending (eqb x) (filter f row)) ∙ h) in
        (e, not-true (dropped k row x) d)

    pub step-on : (x : ℕ) → elem x row ≡ true → dropped k row x ≡ false → elem x (step m k gs) ≡ true
    unfolding step
    step-on x e d =
        let f : ℕ → Bool = λ x. not (dropped k row x) in
        any-ascending (eqb x) (filter f row) ∙ filter-on f row x e (rw d)

    pub step-ascending : Ascending (step m k gs)
    unfolding step
    step-ascending = is-ascending (filter (λ x. not (dropped k row x)) row)

-- ---- what is dropped

module _ (k : ℕ) (xs : List ℕ) (x : ℕ) where
  pub dropped-on : bit x k ≡ true → (y : ℕ) → elem y xs ≡ true → bit y k ≡ true → part_of_larger x y ≡ true →
      dropped k xs x ≡ true
  unfolding dropped
  dropped-on h y e b p =
      let f : ℕ → Bool = λ y. bit y k && part_of_larger x y in
      and-on (bit x k) (any f xs) h (any-on f xs y e (and-on (bit y k) (part_of_larger x y) b p))

  pub dropped-at :
      dropped k xs x ≡ true →
      (bit x k ≡ true) × (y : ℕ) × (elem y xs ≡ true) × (bit y k ≡ true) × (part_of_larger x y ≡ true)
  unfolding dropped
  dropped-at h =
      let f : ℕ → Bool = λ y. bit y k && part_of_larger x y in
      let (b, a) = both (bit x k) (any f xs) h in
      let (y, e, q) = any_at f xs a in
      let (by, p) = both (bit y k) (part_of_larger x y) q in
      (b, y, e, by, p)

-- of numbers below 2 ^ n: the bits of x are some of those of y, and not all
module _ (n x y : ℕ) (lx : x < 2 ^ n) (ly : y < 2 ^ n) where
  pub larger-at : part_of_larger x y ≡ true → (bit x ⊆ bit y) × (x ≡ y → ⊥)
  larger-at h =
      let (p, d) = both (eqb (bit_and x y) x) (not (eqb x y)) h in
      ((part-and n x y lx ly).0 (eqb-true (bit_and x y) x p), eqb-false x y (not-true (eqb x y) d))

  pub larger-on : bit x ⊆ bit y → (x ≡ y → ⊥) → part_of_larger x y ≡ true
  larger-on s d =
      and-on (eqb (bit_and x y) x) (not (eqb x y)) (eq-eqb (bit_and x y) x ((part-and n x y lx ly).1 s))
      (rw (ne_eqb x y d))

-- ---- a row of numbers below 2 ^ k, of which there is one

module _ (m k : ℕ) (gs : List ℕ) (low : (x : ℕ) → elem x gs ≡ true → x < 2 ^ k) where
  pub step-below : (x : ℕ) → elem x (step m k gs) ≡ true → x < 2 ^ suc k
  step-below x h =
      let (g, e, q) = row_at m k gs x (step-at m k gs x h).0 in
      elim q [
        | inl c ↦ rw c (candidate-below m k g (low g e))
        | inr (c, d) ↦ omega (arith, low g e)
      ]

  -- what is part of a larger number is smaller
  part-less : (x y : ℕ) → part_of_larger x y ≡ true → x < y
  part-less x y h =
      let (p, d) = both (eqb (bit_and x y) x) (not (eqb x y)) h in
      omega (arith, and_le_r x y, eqb-true (bit_and x y) x p, eqb-false x y (not-true (eqb x y) d))

  -- the largest of what the row offers is not dropped
  pub step-some : (g : ℕ) → elem g gs ≡ true → (x : ℕ) × (elem x (step m k gs) ≡ true)
  step-some g e =
      let (x, r, top) = largest (candidate m k g) (row m k gs) (candidate-on m k gs g e) in (
        x,
        step-on m k gs x r (off (dropped k (row m k gs) x) (λ h.
            let (b, y, ey, by, p) = dropped-at k (row m k gs) x h in
            omega (arith, top y ey, part-less x y p))),
      )
