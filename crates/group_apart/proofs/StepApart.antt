-- The step on an ascending row of numbers below 2 ^ k of which none is part of another, for a Set k with which none of
-- them conflicts: each gains the Set, and no other thing happens. Assumes nothing.
use mathlib.Core.Path.{◌≡◌, refl, sym, ap, ◌∙◌}
use mathlib.Core.Logic.{inl, inr}
use mathlib.Core.Bool.{true, false, not}
use mathlib.Core.List.Memᴰ
use mathlib.Core.List.{List, [], ◌∷◌}
use Prim.Native.Nat.{ℕ, suc, ◌+◌, ◌*◌, ◌^◌, ◌<◌}
use native.Mathlib.Nat.{le_refl}
use native.Mathlib.Omega.{arith}
use lib.Bits.{bit_and, bit_or, and_le_r, or_shifted_r}
use lib.Dec.{eqb}
use lib.ListN.{length}
use lib.Seq.{take_all}
use borrow.Author.Tests.{eqb-true, eq-eqb, not-true}
use Rattle.math_lists.specs.SortedLists.{any, elem, filter, Ascending}
use Rattle.math_lists.proofs.Booleans.{clash, decide, off, either, or_left}
use Rattle.math_lists.proofs.Elements.{any-map, any-on, any_at, filter-on, elem→mem, mem→elem}
use Rattle.math_lists.proofs.SortedLists.{ascending-unique}
use Rattle.math_maximal.specs.Groups.{bit}
use Rattle.math_maximal.specs.Step.{compatible, part_of_larger, dropped, step}
use Rattle.math_maximal.proofs.Bits.{bit_high, bit-or, bit-power, gains}
use Rattle.math_maximal.proofs.StepOnAnyRow.{row, row_at, candidate-on, step-at, step-on, step-ascending}
use Rattle.math_maximal.proofs.StepOnAnyRow.{dropped-at, larger-at, larger-on}
use Rattle.group_step.specs.StepForms.{conflicting, staying, Apart, all_compatible, gaining, gained}

-- ---- a number below 2 ^ k that gains k

module _ (k g : ℕ) (low : g < 2 ^ k) where
  pub gaining-adds : gaining k g ≡ 2 ^ k + g
  gaining-adds =
      let one : 2 ^ k ≡ 1 * 2 ^ k = omega arith in
      ap (bit_or g) one ∙ or_shifted_r 1 k g low ∙ omega arith

  gaining-below : gaining k g < 2 ^ suc k
  gaining-below = omega (arith, gaining-adds)

-- what is part of a larger one with k is so without it
pub gaining-part :
    (k g h : ℕ) → g < 2 ^ k → h < 2 ^ k → part_of_larger (gaining k g) (gaining k h) ≡ true → part_of_larger g h ≡ true
gaining-part k g h low low' p =
    let (into, differ) =
    larger-at (suc k) (gaining k g) (gaining k h) (gaining-below k g low) (gaining-below k h low') p in
    larger-on k g h low low'
    (λ i b.
    let there = sym (bit-or h (2 ^ k) i) ∙ into i (bit-or g (2 ^ k) i ∙ or_left (bit g i) (bit (2 ^ k) i) b) in
    elim (either (bit h i) (bit (2 ^ k) i) there) [
      | inl q ↦ q
      | inr q ↦
          (let e = eqb-true i k (sym (bit-power k i) ∙ q) in
          clash b (rw e (bit_high k g low k (le_refl k))))
    ])
    (λ e. differ (ap (gaining k) e))

-- ---- the row

gained-at :
    (k : ℕ) (gs : List ℕ) (x : ℕ) → elem x (gained k gs) ≡ true → (g : ℕ) × (elem g gs ≡ true) × (x ≡ gaining k g)
unfolding gained
gained-at k gs x h =
    let (g, e, q) = any_at (λ g. eqb x (gaining k g)) gs (sym (any-map (eqb x) (gaining k) gs) ∙ h) in
    (g, e, eqb-true x (gaining k g) q)

gained-on : (k : ℕ) (gs : List ℕ) (x g : ℕ) → elem g gs ≡ true → x ≡ gaining k g → elem x (gained k gs) ≡ true
unfolding gained
gained-on k gs x g e q =
    any-map (eqb x) (gaining k) gs ∙ any-on (λ g. eqb x (gaining k g)) gs g e (eq-eqb x (gaining k g) q)

pub gained-ascending :
    (k : ℕ) (gs : List ℕ) → Ascending gs → ((x : ℕ) → elem x gs ≡ true → x < 2 ^ k) → Ascending (gained k gs)
unfolding gained
gained-ascending k [] a low = tt
gained-ascending k (g ∷ gs) (h, a) low =
    let first = low g (mem→elem (Memᴰ.head refl)) in
    let later : (x : ℕ) → elem x gs ≡ true → x < 2 ^ k
    = λ x e. low x (mem→elem (Memᴰ.tail (elem→mem x gs e))) in (
      (λ y w.
          let (x, e, q) = gained-at k gs y (mem→elem w) in
          omega (arith, gaining-adds k g first, gaining-adds k x (later x e), h x (elem→mem x gs e))),
      gained-ascending k gs a later,
    )

module _ (m k : ℕ) (gs : List ℕ) (low : (x : ℕ) → elem x gs ≡ true → x < 2 ^ k) (apart : Apart gs)
    (fit : all_compatible m gs ≡ true) where
  compatible-all : (g : ℕ) → elem g gs ≡ true → compatible m g ≡ true
  compatible-all g e =
      elim (decide (compatible m g)) [
        | inl h ↦ h
        | inr h ↦ clash (any-on (conflicting m) gs g e (rw h)) (not-true (any (conflicting m) gs) fit)
      ]

  -- what the row offers is what each gains
  offered-gained : (x : ℕ) → elem x (row m k gs) ≡ true → (g : ℕ) × (elem g gs ≡ true) × (x ≡ gaining k g)
  offered-gained x h =
      let (g, e, q) = row_at m k gs x h in
      elim q [
        | inl c ↦ (g, e, c ∙ sym (gains m k g (compatible-all g e)))
        | inr (c, d) ↦ clash (compatible-all g e) d
      ]

  -- none of it is dropped
  not-dropped : (g : ℕ) → elem g gs ≡ true → dropped k (row m k gs) (gaining k g) ≡ false
  not-dropped g e =
      off (dropped k (row m k gs) (gaining k g)) (λ d.
      let (_, y, u, _, p) = dropped-at k (row m k gs) (gaining k g) d in
      let (h, f, q) = offered-gained y u in
      clash (gaining-part k g h (low g e) (low h f) (rw q at p)) (apart g h e f))

  pub apart-step : Ascending gs → step m k gs ≡ gained k gs
  apart-step a =
      ascending-unique (step m k gs) (gained k gs) (step-ascending m k gs) (gained-ascending k gs a low)
      (λ x h. let (g, e, q) = offered-gained x (step-at m k gs x h).0 in gained-on k gs x g e q)
      (λ x h. let (g, e, q) = gained-at k gs x h in
      rw q
      (step-on m k gs (gaining k g) (rw (gains m k g (compatible-all g e)) (candidate-on m k gs g e))
      (not-dropped g e)))

-- ---- a Set without conflict

-- where no group stays, none conflicts
pub none_stays : (m : ℕ) (gs : List ℕ) → length (staying m gs) ≡ 0 → all_compatible m gs ≡ true
unfolding staying any
none_stays m gs e =
    ap not (off (any (conflicting m) gs) (λ h.
    let (g, there, d) = any_at (conflicting m) gs h in
    clash (filter-on (conflicting m) gs g there d)
    (ap (elem g) (sym (take_all 0 (filter (conflicting m) gs) (omega arith))))))

and_none : (g : ℕ) → compatible 0 g ≡ true
and_none g = eq-eqb (bit_and g 0) 0 (omega (arith, and_le_r g 0))

pub none-conflicts : (gs : List ℕ) → all_compatible 0 gs ≡ true
unfolding any
none-conflicts [] = refl
none-conflicts (g ∷ gs) = rw (and_none g) (none-conflicts gs)
