-- The reach of a Set as a number, and conflicts by the operations of a 64-bit number, which are those of the
-- definition. Assumes nothing.
use mathlib.Core.Path.{◌≡◌, ◌∙◌, ap, fun_ext}
use mathlib.Core.Logic.{inl, inr}
use mathlib.Core.Bool.{Bool, true, false, not, ◌&&◌}
use Prim.Native.Nat.{ℕ, suc, ◌^◌, ◌≤◌, ◌<◌}
use native.Mathlib.Omega.{arith}
use lib.Pow.{pow-lt}
use lib.Bits.{bit_or, or_lt}
use borrow.Author.Tests.{not-true}
use Rattle.math_lists.specs.NumbersBelow.{some, mask}
use Rattle.math_lists.proofs.Booleans.{clash, decide, off, same_test, both, and-on}
use Rattle.math_lists.proofs.NumbersBelow.{some-on, some_at, mask-same}
use Rattle.math_maximal.specs.MaximalSets.{◌∈◌, with}
use Rattle.math_maximal.specs.Groups.{bit}
use Rattle.math_maximal.specs.Step.{compatible}
use Rattle.math_maximal.proofs.Bits.{bit-or, bit-power, compatible-on, compatible-at}
use Rattle.math_maximal.proofs.Masks.{mask_at, mask-on}
use Rattle.math_contexts.specs.Box.{Box}
use Rattle.math_contexts.specs.Contexts.{contexts, context, reach, conflicts}
use Rattle.math_contexts.specs.MaskForms.{reach_mask, foes, mask_conflicts}
use Rattle.math_contexts.proofs.ContextMembers.{contexts-hold}
use Rattle.math_contexts.proofs.ContextMembers.{context-below, reach-below}
use Rattle.math_contexts.proofs.ConflictByReach.{conflicts-at, conflicts-on}

-- ---- the reach of j as a number

module _ (b : Box) (n j : ℕ) (l : j < n) where
  reach-number : reach_mask (contexts b n) j ≡ bit_or (context b j) (2 ^ j)
  reach-number = ap (λ (g : ℕ). bit_or g (2 ^ j)) (contexts-hold b n j l)

  pub bit-reach : bit (reach_mask (contexts b n) j) ≡ reach b j
  unfolding with
  bit-reach = ap bit reach-number ∙ fun_ext (λ a. bit-or (context b j) (2 ^ j) a ∙ rw (bit-power j a))

  pub reach-small : reach_mask (contexts b n) j < 2 ^ n
  reach-small =
      rw reach-number
      (or_lt n (context b j) (2 ^ j) (omega (arith, context-below b j, pow-lt l)) (pow-lt l))

  -- the reach has no bit in common with m
  pub apart-at :
      (m : ℕ) → compatible m (reach_mask (contexts b n) j) ≡ true → (a : ℕ) → a ∈ reach b j → bit m a ≡ false
  apart-at m h a r = compatible-at m (reach_mask (contexts b n) j) h a (rw bit-reach r)

  pub apart-on :
      (m : ℕ) → ((a : ℕ) → a ∈ reach b j → bit m a ≡ false) → compatible m (reach_mask (contexts b n) j) ≡ true
  apart-on m h = compatible-on m (reach_mask (contexts b n) j) n reach-small (λ a p. h a (rw bit-reach at p))

-- ---- those that conflict with a member of P

module _ (b : Box) (n : ℕ) (P : ℕ → Bool) (y : ℕ) where
  pub foes-at : y ∈ bit (foes b n P) → (x : ℕ) × (x < n) × (x ∈ P) × (b.plain x y ≡ true)
  foes-at h =
      let (_, p) = mask_at n (λ y. some n (λ x. P x && b.plain x y)) y h in
      let (x, l, e) = some_at n (λ x. P x && b.plain x y) p in
      let (q, c) = both (P x) (b.plain x y) e in
      (x, l, q, c)

  pub foes-on : y < n → (x : ℕ) → x < n → x ∈ P → b.plain x y ≡ true → y ∈ bit (foes b n P)
  foes-on k x l p c =
      mask-on n (λ y. some n (λ x. P x && b.plain x y)) y k
      (some-on n (λ x. P x && b.plain x y) x l (and-on (P x) (b.plain x y) p c))

-- ---- conflicts

-- where m Sets have all that j and k reach, they conflict exactly if the reach of j has a foe of the reach of k
module _ (b : Box) (m n k j : ℕ) (few : n ≤ m) (h : k < m) (l : j < n) where
  abbrev clear : Bool
  clear = compatible (foes b m (reach b k)) (reach_mask (contexts b n) j)

  meets : conflicts b k j ≡ true → not clear ≡ true
  meets c =
      let (x, y, r, s, e) = conflicts-at b k j c in
      rw (off clear (λ t.
      clash
      (foes-on b m (reach b k) y (omega (arith, reach-below b j y s)) x (omega (arith, reach-below b k x r)) r e)
      (apart-at b n j l (foes b m (reach b k)) t y s)))

  conflict : not clear ≡ true → conflicts b k j ≡ true
  conflict c = elim (decide (conflicts b k j)) [
    | inl t ↦ t
    | inr t ↦ clash
        (apart-on b n j l (foes b m (reach b k)) (λ y s. off (bit (foes b m (reach b k)) y) (λ p.
        let (x, _, r, e) = foes-at b m (reach b k) y p in
        clash (conflicts-on b k j x y r s e) t)))
        (not-true clear c)
  ]

  conflict-by-masks : conflicts b k j ≡ not clear
  conflict-by-masks = same_test (conflicts b k j) (not clear) meets conflict

-- the conflicts of one Set with all of them
pub conflicts-with-all :
    (b : Box) (n k : ℕ) → k < n →
    mask n (conflicts b k)
    ≡ (let u = foes b n (reach b k) in mask n (λ j. not (compatible u (reach_mask (contexts b n) j))))
conflicts-with-all b n k l =
    let u = foes b n (reach b k) in
    mask-same n (conflicts b k) (λ j. not (compatible u (reach_mask (contexts b n) j)))
    (λ j m. conflict-by-masks b n n k j (omega arith) l m)

-- with those before it
pub conflicts-by-masks : (b : Box) (k : ℕ) → mask k (conflicts b k) ≡ mask_conflicts b k
unfolding mask_conflicts
conflicts-by-masks b k =
    let u = foes b (suc k) (reach b k) in
    mask-same k (conflicts b k) (λ j. not (compatible u (reach_mask (contexts b k) j)))
    (λ j m. conflict-by-masks b (suc k) k k j (omega arith) (omega arith) m)
