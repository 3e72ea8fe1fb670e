-- The step on an ascending row of numbers below 2 ^ k of which none is part of another, where what remains of each that
-- conflicts with the Set k is part of one that gains the Set: those that conflict stay, the others gain the Set, and no
-- other thing happens. Assumes nothing.
use mathlib.Core.Path.{◌≡◌, refl, sym, ap, ap₂, ◌∙◌}
use mathlib.Core.Logic.{inl, inr}
use mathlib.Core.Bool.{Bool, true, false, not, cond}
use mathlib.Core.List.{List, [], ◌∷◌, ◌++◌, map}
use Prim.Native.Nat.{ℕ, suc, ◌+◌, ◌^◌, ◌<◌}
use native.Mathlib.Nat.{le_refl}
use native.Mathlib.Omega.{arith}
use native.Mathlib.Decide.{ℕ_discrete}
use lib.Bits.{bit_and}
use lib.Dec.{eqb}
use lib.ListN.{length}
use borrow.Author.Tests.{eqb-true, eq-eqb, ne_eqb, not-true}
use Rattle.math_lists.specs.SortedLists.{any, elem, filter, Ascending}
use Rattle.math_lists.proofs.Booleans.{clash, decide, off, either, or_left, or_right, and-on}
use Rattle.math_lists.proofs.Elements.{any_append, any-map, any-on, any_at, filter-at, filter-on}
use Rattle.math_lists.proofs.SortedLists.{ascending-unique}
use Rattle.math_maximal.specs.Step.{compatible, candidate, part_of_larger, dropped, step}
use Rattle.math_maximal.proofs.MaximalSets.{same_set}
use Rattle.math_maximal.proofs.Bits.{bit_high, same_bits, part-and, candidate-new, candidate-below, gains}
use Rattle.math_maximal.proofs.StepOnAnyRow.{row, row_at, candidate-on, self-on, step-at, step-on, step-ascending}
use Rattle.math_maximal.proofs.StepOnAnyRow.{dropped-on, dropped-at, larger-at, larger-on}
use Rattle.group_step.specs.StepForms.{conflicting, staying, Apart, gaining, gained, part_of, wholes, uncovered}
use Rattle.group_step.specs.StepForms.{all_covered}
use Rattle.group_step.proofs.CodeStep.{filter-ascending, append-ascending}
use Rattle.group_apart.proofs.StepApart.{gaining-adds, gaining-part, gained-ascending}

-- ---- those that gain the Set

module _ (m k : ℕ) where
  pub wholes-gained : (gs : List ℕ) → wholes m k gs ≡ gained k (filter (compatible m) gs)
  unfolding wholes gained filter
  wholes-gained [] = refl
  wholes-gained (g ∷ gs) = go (compatible m g) refl (wholes-gained gs)
    where
      go : (b : Bool) → compatible m g ≡ b →
          map (candidate m k) (filter (compatible m) gs) ≡ map (gaining k) (filter (compatible m) gs) →
          map (candidate m k) (cond b (g ∷ filter (compatible m) gs) (filter (compatible m) gs))
          ≡ map (gaining k) (cond b (g ∷ filter (compatible m) gs) (filter (compatible m) gs))
      go true e ih = ap₂ (λ (x : ℕ) (xs : List ℕ). x ∷ xs) (sym (gains m k g e)) ih
      go false e ih = ih

  -- those that stay and those that gain the Set are all
  pub both-parts : (gs : List ℕ) → length (staying m gs) + length (wholes m k gs) ≡ length gs
  unfolding staying wholes filter
  both-parts [] = refl
  both-parts (g ∷ gs) = go (compatible m g) (both-parts gs)
    where
      go : (b : Bool) →
          length (filter (conflicting m) gs) + length (map (candidate m k) (filter (compatible m) gs)) ≡ length gs →
          length (cond (not b) (g ∷ filter (conflicting m) gs) (filter (conflicting m) gs))
          + length (map (candidate m k) (cond b (g ∷ filter (compatible m) gs) (filter (compatible m) gs)))
          ≡ suc (length gs)
      go true ih = omega arith
      go false ih = omega arith

  module _ (gs : List ℕ) where
    wholes-at :
        (x : ℕ) → elem x (wholes m k gs) ≡ true →
        (g : ℕ) × (elem g gs ≡ true) × (compatible m g ≡ true) × (x ≡ candidate m k g)
    unfolding wholes
    wholes-at x h =
        let (g, e, q) = any_at (λ g. eqb x (candidate m k g)) (filter (compatible m) gs)
        (sym (any-map (eqb x) (candidate m k) (filter (compatible m) gs)) ∙ h) in
        let (there, fit) = filter-at (compatible m) gs g e in
        (g, there, fit, eqb-true x (candidate m k g) q)

    wholes-on :
        (x g : ℕ) → elem g gs ≡ true → compatible m g ≡ true → x ≡ candidate m k g →
        elem x (wholes m k gs) ≡ true
    unfolding wholes
    wholes-on x g e fit q =
        any-map (eqb x) (candidate m k) (filter (compatible m) gs)
        ∙ any-on (λ g. eqb x (candidate m k g)) (filter (compatible m) gs) g (filter-on (compatible m) gs g e fit)
        (eq-eqb x (candidate m k g) q)

    staying-at : (x : ℕ) → elem x (staying m gs) ≡ true → (elem x gs ≡ true) × (compatible m x ≡ false)
    unfolding staying
    staying-at x h = let (e, d) = filter-at (conflicting m) gs x h in (e, not-true (compatible m x) d)

    module _
        (a : Ascending gs)
        (low : (x : ℕ) → elem x gs ≡ true → x < 2 ^ k)
        (apart : Apart gs)
        (covered : all_covered m k (wholes m k gs) (staying m gs) ≡ true) where
      -- what remains of one that conflicts is part of one that gains the Set
      cover :
          (g : ℕ) → elem g gs ≡ true → compatible m g ≡ false →
          (h : ℕ) × (elem h gs ≡ true) × (compatible m h ≡ true)
          × (part_of (candidate m k g) (candidate m k h) ≡ true)
      unfolding staying
      cover g e d =
          elim (decide (any (part_of (candidate m k g)) (wholes m k gs))) [
            | inl h ↦
                (let (y, u, p) = any_at (part_of (candidate m k g)) (wholes m k gs) h in
                let (h, f, fit, q) = wholes-at y u in
                (h, f, fit, rw q at p))
            | inr h ↦
                clash
                (any-on (uncovered m k (wholes m k gs)) (staying m gs) g (filter-on (conflicting m) gs g e (rw d))
                (rw h))
                (not-true (any (uncovered m k (wholes m k gs)) (staying m gs)) covered)
          ]

      -- none that gains the Set is part of what another gives
      never-part :
          (g h : ℕ) → elem g gs ≡ true → compatible m g ≡ true → elem h gs ≡ true → compatible m h ≡ true →
          part_of_larger (candidate m k g) (candidate m k h) ≡ false
      never-part g h e fit f fit' =
          off (part_of_larger (candidate m k g) (candidate m k h)) (λ p.
          clash
          (gaining-part k g h (low g e) (low h f) (rw (gains m k g fit, gains m k h fit') p))
          (apart g h e f))

      -- what is part of a part
      through :
          (x y z : ℕ) → x < 2 ^ suc k → y < 2 ^ suc k → z < 2 ^ suc k → part_of_larger x y ≡ true →
          part_of y z ≡ true → part_of_larger x z ≡ true
      through x y z lx ly lz p q =
          let (into, differ) = larger-at (suc k) x y lx ly p in
          let onto = (part-and (suc k) y z ly lz).0 (eqb-true (bit_and y z) y q) in
          larger-on (suc k) x z lx lz (λ i b. onto i (into i b))
          (λ e. differ (same_bits (suc k) x y lx ly (same_set into (λ i b. rw e (onto i b)))))

      new-below : (g : ℕ) → elem g gs ≡ true → candidate m k g < 2 ^ suc k
      new-below g e = candidate-below m k g (low g e)

      not-dropped :
          (g : ℕ) → elem g gs ≡ true → compatible m g ≡ true → dropped k (row m k gs) (candidate m k g) ≡ false
      not-dropped g e fit =
          off (dropped k (row m k gs) (candidate m k g)) (λ d.
          let (_, y, u, b, p) = dropped-at k (row m k gs) (candidate m k g) d in
          let (h, f, q) = row_at m k gs y u in
          elim q [
            | inl c ↦
                elim (decide (compatible m h)) [
                  | inl fit' ↦ clash (rw c at p) (never-part g h e fit f fit')
                  | inr un ↦
                      (let (i, there, fit', part) = cover h f un in
                      clash
                      (through (candidate m k g) (candidate m k h) (candidate m k i) (new-below g e) (new-below h f)
                      (new-below i there) (rw c at p) part)
                      (never-part g i e fit there fit'))
                ]
            | inr (c, un) ↦ clash (rw c at b) (bit_high k h (low h f) k (le_refl k))
          ])

      into : (x : ℕ) → elem x (step m k gs) ≡ true → elem x (staying m gs ++ wholes m k gs) ≡ true
      unfolding staying
      into x h =
          let (o, d) = step-at m k gs x h in
          let (g, e, q) = row_at m k gs x o in
          any_append (eqb x) (staying m gs) (wholes m k gs)
          ∙ elim q [
            | inl c ↦
                elim (decide (compatible m g)) [
                  | inl fit ↦
                      or_right (elem x (staying m gs)) (elem x (wholes m k gs)) (wholes-on x g e fit c)
                  | inr un ↦
                      (let (i, there, fit, part) = cover g e un in
                      or_right (elem x (staying m gs)) (elem x (wholes m k gs))
                      (wholes-on x i there fit (equal x g i e there c part d (ℕ_discrete x (candidate m k i)))))
                ]
            | inr (c, un) ↦
                or_left (elem x (staying m gs)) (elem x (wholes m k gs))
                (filter-on (conflicting m) gs x (rw c e) (rw (c, un)))
          ]
        where
          equal :
              (x g i : ℕ) → elem g gs ≡ true → elem i gs ≡ true → x ≡ candidate m k g →
              part_of (candidate m k g) (candidate m k i) ≡ true → dropped k (row m k gs) x ≡ false →
              Dec (x ≡ candidate m k i) → x ≡ candidate m k i
          equal x g i e there c part d (yes q) = q
          equal x g i e there c part d (no n) =
              clash
              (dropped-on k (row m k gs) x (rw c (candidate-new m k g)) (candidate m k i) (candidate-on m k gs i there)
              (candidate-new m k i)
              (and-on (eqb (bit_and x (candidate m k i)) x) (not (eqb x (candidate m k i))) (rw c part)
              (ap not (ne_eqb x (candidate m k i) n))))
              d

      onto : (x : ℕ) → elem x (staying m gs ++ wholes m k gs) ≡ true → elem x (step m k gs) ≡ true
      onto x h =
          elim
          (either (elem x (staying m gs)) (elem x (wholes m k gs))
          (sym (any_append (eqb x) (staying m gs) (wholes m k gs)) ∙ h)) [
            | inl s ↦
                (let (e, d) = staying-at x s in
                step-on m k gs x (self-on m k gs x e d)
                (off (dropped k (row m k gs) x) (λ p.
                clash (dropped-at k (row m k gs) x p).0 (bit_high k x (low x e) k (le_refl k)))))
            | inr w ↦
                (let (g, e, fit, q) = wholes-at x w in
                rw q (step-on m k gs (candidate m k g) (candidate-on m k gs g e) (not-dropped g e fit)))
          ]

      parts-ascending : Ascending (staying m gs ++ wholes m k gs)
      unfolding staying
      parts-ascending =
          append-ascending (staying m gs) (wholes m k gs) (filter-ascending (conflicting m) gs a)
          (rw (wholes-gained gs)
          (gained-ascending k (filter (compatible m) gs) (filter-ascending (compatible m) gs a)
          (λ x e. low x (filter-at (compatible m) gs x e).0)))
          (λ x y u v.
          let (g, e, fit, q) = wholes-at y v in
          let (f, _) = staying-at x u in
          omega (arith, low x f, gaining-adds k g (low g e), q ∙ sym (gains m k g fit)))

      pub covered-step : staying m gs ++ wholes m k gs ≡ step m k gs
      covered-step =
          ascending-unique (staying m gs ++ wholes m k gs) (step m k gs) parts-ascending (step-ascending m k gs) onto
          into
