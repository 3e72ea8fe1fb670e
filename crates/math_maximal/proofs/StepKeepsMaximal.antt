-- The step makes, of the groups of the elements before k, the groups of the elements up to k. Assumes that the
-- relation is symmetric and irreflexive, and that the bits of m before k are what conflicts with k.
use mathlib.Core.Path.{◌≡◌, refl, sym, ◌∙◌, ap, fun_ext}
use mathlib.Core.Logic.{◌⊎◌, inl, inr}
use mathlib.Core.Bool.{Bool, true, false, not, ◌&&◌, ◌||◌}
use mathlib.Core.List.{List}
use Prim.Native.Nat.{ℕ, suc, ◌^◌, ◌<◌}
use native.Mathlib.Omega.{arith}
use lib.Dec.{eqb}
use borrow.Author.Tests.{eqb-true, eqb-false}
use Rattle.math_lists.specs.SortedLists.{elem}
use Rattle.math_lists.proofs.Booleans.{clash, decide, off}
use Rattle.math_lists.proofs.LastBelow.{last}
use Rattle.math_lists.proofs.SortedLists.{is-keep}
use Rattle.math_maximal.specs.MaximalSets.{◌∈◌, ◌⊆◌, with, without, Fits, Maximal}
use Rattle.math_maximal.specs.Groups.{bit, below, every, is_maximal, groups}
use Rattle.math_maximal.specs.Step.{compatible, candidate, dropped, step}
use Rattle.math_maximal.proofs.MaximalSets.{same_set, with_cases, with-old, with-new}
use Rattle.math_maximal.proofs.OneElementMore.{offer, stays, stayed, offer-maximal, offer-top, offered-by}
use Rattle.math_maximal.proofs.Bits.{bit_high, bit_below, same_bits, bit-candidate, candidate-new}
use Rattle.math_maximal.proofs.Bits.{candidate-below, compatible-on, compatible-at}
use Rattle.math_maximal.proofs.Groups.{below_at, below_on, maximal-on, maximal-at, groups-at, has-number}
use Rattle.math_maximal.proofs.StepOnAnyRow.{row, row_at, candidate-on, self-on, step-at, step-on}
use Rattle.math_maximal.proofs.StepOnAnyRow.{step-ascending, dropped-at, dropped-on, larger-at, larger-on}

-- ---- the row of the groups

below_suc : (k : ℕ) → with (below k every) k ≡ below (suc k) every
below_suc k =
    same_set
    (λ i h. elim (with_cases (below k every) k i h) [
      | inl a ↦ below_on (suc k) every i (omega (arith, (below_at k every i a).0)) refl
      | inr e ↦ below_on (suc k) every i (omega arith) refl
    ])
    (λ i h. elim (last (below_at (suc k) every i h).0) [
      | inl l ↦ with-old (below k every) k i (below_on k every i l refl)
      | inr e ↦ rw e (with-new (below k every) k)
    ])

module _ (c : ℕ → ℕ → Bool) (sm : (i j : ℕ) → c i j ≡ c j i) (irr : (i : ℕ) → c i i ≡ false)
    (k m : ℕ) (mask : (i : ℕ) → i < k → bit m i ≡ c k i) where
  -- the elements before k, the maximal sets with k among them, the groups, and what they offer
  abbrev S : ℕ → Bool
  S = below k every

  abbrev New : (ℕ → Bool) → Type 0
  New = Maximal c (with S k)

  abbrev gs : List ℕ
  gs = groups c k every

  abbrev xs : List ℕ
  xs = row m k gs

  bound : (i : ℕ) → i ∈ S → i < k
  bound i h = (below_at k every i h).0

  -- the candidate of g is the members of g compatible with k, together with k
  bits-offer : (g : ℕ) → g < 2 ^ k → bit (candidate m k g) ≡ offer (c k) k (bit g)
  unfolding offer with without
  bits-offer g l = fun_ext (λ i. bit-candidate m k g i ∙ go i (decide (bit g i)))
    where
      go : (i : ℕ) → (bit g i ≡ true) ⊎ (bit g i ≡ false) →
          ((bit g i && not (bit m i)) || eqb i k) ≡ ((bit g i && not (c k i)) || eqb i k)
      go i (inl b) = rw (mask i (bit_below k g l i b))
      go i (inr b) = rw b

  -- a group is compatible exactly if k fits
  fits-compatible : (g : ℕ) → g < 2 ^ k → Fits c (bit g) k → compatible m g ≡ true
  fits-compatible g l f = compatible-on m g k l (λ i b. mask i (bit_below k g l i b) ∙ f i b)

  compatible-fits : (g : ℕ) → g < 2 ^ k → compatible m g ≡ true → Fits c (bit g) k
  compatible-fits g l h i b = sym (mask i (bit_below k g l i b)) ∙ compatible-at m g h i b

  row_below : (x : ℕ) → elem x xs ≡ true → x < 2 ^ suc k
  row_below x e =
      let (g, eg, w) = row_at m k gs x e in
      let l = (groups-at c k every g eg).0 in
      elim w [ inl q ↦ rw q (candidate-below m k g l) | inr q ↦ omega (arith, q.0) ]

  -- what holds k is a candidate
  holds-new :
      (x : ℕ) → elem x xs ≡ true → bit x k ≡ true → (g : ℕ) × (elem g gs ≡ true) × (x ≡ candidate m k g)
  holds-new x e b =
      let (g, eg, w) = row_at m k gs x e in
      elim w [
        | inl q ↦ (g, eg, q)
        | inr q ↦ clash b (rw q.0 (bit_high k g (groups-at c k every g eg).0 k (omega arith)))
      ]

  -- a new group that is part of a candidate is that candidate
  is-candidate :
      (x g : ℕ) → x < 2 ^ suc k → New (bit x) → elem g gs ≡ true → bit x ⊆ bit (candidate m k g) →
      x ≡ candidate m k g
  is-candidate x g l w e sub =
      let (lg, o) = groups-at c k every g e in
      let b = bits-offer g lg in
      let s : bit x ⊆ offer (c k) k (bit g) = rw b at sub in
      same_bits (suc k) x (candidate m k g) l (candidate-below m k g lg)
      (same_set s (offer-top c sm irr k S bound k w o s) ∙ sym b)

  -- ---- what the step has is a group

  sound : (x : ℕ) → elem x (step m k gs) ≡ true → New (bit x)
  sound x h =
      let (e, d) = step-at m k gs x h in
      let (g, eg, w) = row_at m k gs x e in
      let (l, o) = groups-at c k every g eg in
      elim w [
        | inl q ↦ new e d g l o q
        | inr q ↦ rw q.0 (stays c S k o (λ f. clash (fits-compatible g l f) q.1))
      ]
    where
      new : elem x xs ≡ true → dropped k xs x ≡ false → (g : ℕ) → g < 2 ^ k → Maximal c S (bit g) →
          x ≡ candidate m k g → New (bit x)
      new e d g l o q =
          let b : bit x ≡ offer (c k) k (bit g) = ap bit q ∙ bits-offer g l in
          rw b (offer-maximal c sm irr k S bound k o (λ R r sub.
          let (h, eh, bh) = has-number c k every R r in
          let y = candidate m k h in
          let ey = candidate-on m k gs h eh in
          let by : bit y ≡ offer (c k) k R = bits-offer h (groups-at c k every h eh).0 ∙ ap (offer (c k) k) bh in
          let part : bit x ⊆ bit y = rw (b, by) sub in
          elim (decide (eqb x y)) [
            | inl t ↦ rw (← b, ← by, eqb-true x y t) (λ i p. p)
            | inr t ↦ clash
                (dropped-on k xs x (rw q (candidate-new m k g)) y ey (candidate-new m k h)
                (larger-on (suc k) x y (row_below x e) (row_below y ey) part (eqb-false x y t)))
                d
          ]))

  -- ---- every group is there

  complete : (x : ℕ) → x < 2 ^ suc k → New (bit x) → elem x (step m k gs) ≡ true
  complete x l w = elim (decide (bit x k)) [ inl b ↦ new b | inr b ↦ old b ]
    where
      new : bit x k ≡ true → elem x (step m k gs) ≡ true
      new b =
          let (P, p, sub) = offered-by c sm irr k S bound k w b in
          let (g, eg, bg) = has-number c k every P p in
          let part : bit x ⊆ bit (candidate m k g) = rw (bits-offer g (groups-at c k every g eg).0, bg) sub in
          let q : x ≡ candidate m k g = is-candidate x g l w eg part in
          step-on m k gs x (rw q (candidate-on m k gs g eg))
          (off (dropped k xs x) (λ t.
          let (bx, y, ey, by, p) = dropped-at k xs x t in
          let (h, eh, r) = holds-new y ey by in
          let (part, d) = larger-at (suc k) x y l (row_below y ey) p in
          d (is-candidate x h l w eh (rw r at part) ∙ sym r)))

      old : bit x k ≡ false → elem x (step m k gs) ≡ true
      old b =
          let o = stayed c S k w b in
          let (g, eg, bg) = has-number c k every (bit x) o in
          let lg = (groups-at c k every g eg).0 in
          let q : g ≡ x = same_bits (suc k) g x (omega arith) l bg in
          let f : compatible m g ≡ true → Fits c (bit x) k = λ h. rw bg at (compatible-fits g lg h) in
          step-on m k gs x
          (rw (← q) (self-on m k gs g eg (off (compatible m g) (λ h. clash (w.full k (with-new S k) (f h)) b))))
          (off (dropped k xs x) (λ t. clash (dropped-at k xs x t).0 b))

  -- ---- so the step gives the groups

  pub step-keeps-maximal : step m k (groups c k every) ≡ groups c (suc k) every
  unfolding groups
  step-keeps-maximal =
      is-keep (2 ^ suc k) (λ g. is_maximal c (suc k) every (bit g)) (step m k gs) (step-ascending m k gs)
      (λ x e. let l = row_below x (step-at m k gs x e).0 in
      (l, maximal-on c (suc k) every (bit x) (rw (below_suc k) at (sound x e))))
      (λ x l h. complete x l (rw (below_suc k) (maximal-at c (suc k) every (bit x) (bit_below (suc k) x l) h)))
