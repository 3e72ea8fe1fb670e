-- More elements never lose a group: each group lies in a group of the larger set, which gives it back, and so the
-- groups never become fewer; and two groups never lie in one, so that none is part of another. Assumes that the
-- relation is symmetric and irreflexive, which the last laws do not need.
use mathlib.Core.Path.{◌≡◌, ◌∙◌}
use mathlib.Core.Bool.{Bool, true, false, ◌&&◌}
use Prim.Native.Nat.{ℕ, ◌≤◌}
use lib.ListN.{length}
use Rattle.math_lists.specs.SortedLists.{elem}
use Rattle.math_lists.specs.NumbersBelow.{mask}
use Rattle.math_lists.proofs.Booleans.{off, both, and-on}
use Rattle.math_lists.proofs.NumbersBelow.{mask_below}
use Rattle.math_lists.proofs.SortedLists.{not-longer}
use Rattle.math_maximal.specs.MaximalSets.{◌∈◌, ◌⊆◌, Free}
use Rattle.math_maximal.specs.Groups.{bit, below, groups}
use Rattle.math_maximal.specs.Step.{part_of_larger}
use Rattle.math_maximal.proofs.MaximalSets.{same_set, top, within-maximal}
use Rattle.math_maximal.proofs.Bits.{same_bits}
use Rattle.math_maximal.proofs.Masks.{masked}
use Rattle.math_maximal.proofs.Groups.{below_at, groups-at, has-number, groups-ascending}
use Rattle.math_maximal.proofs.StepOnAnyRow.{larger-at}

-- ---- S below n is part of U below m

module _ (c : ℕ → ℕ → Bool) (n m : ℕ) (S U : ℕ → Bool) (sm : (i j : ℕ) → c i j ≡ c j i)
    (irr : (i : ℕ) → c i i ≡ false) (sub : below n S ⊆ below m U) where
  -- each group lies in one of the larger set
  pub kept : (g : ℕ) → elem g (groups c n S) ≡ true → (h : ℕ) × (elem h (groups c m U) ≡ true) × (bit g ⊆ bit h)
  kept g e =
      let w = (groups-at c n S g e).1 in
      let inside : bit g ⊆ below m U = λ i b. sub i (w.is_free.within i b) in
      let free : Free c (below m U) (bit g) = record { within = inside; free = w.is_free.free } in
      let (Q, q, s) = within-maximal c sm irr m (below m U) (λ i h. (below_at m U i h).0) (bit g) free in
      let (h, f, b) = has-number c m U Q q in
      (h, f, rw b s)

  -- what a group of the larger set holds of the smaller one, as a number
  cut : ℕ → ℕ
  cut h = mask n (λ i. bit h i && below n S i)

  cut-back : (g h : ℕ) → elem g (groups c n S) ≡ true → elem h (groups c m U) ≡ true → bit g ⊆ bit h → cut h ≡ g
  unfolding cut
  cut-back g h e f s =
      let (l, p) = groups-at c n S g e in
      let q = (groups-at c m U h f).1 in
      let P : ℕ → Bool = λ i. bit h i && below n S i in
      same_bits n (mask n P) g (mask_below n P) l
      (masked n P (λ i b. (below_at n S i (both (bit h i) (below n S i) b).1).0)
      ∙ same_set
      (λ i b. let (x, y) = both (bit h i) (below n S i) b in top p q.is_free s i y x)
      (λ i b. and-on (bit h i) (below n S i) (s i b) (p.is_free.within i b)))

  -- so the part has no more groups than the whole
  pub no-more-groups : length (groups c n S) ≤ length (groups c m U)
  no-more-groups =
      not-longer cut (groups c n S) (groups c m U) (groups-ascending c n S)
      (λ g e. let (h, f, s) = kept g e in (h, f, cut-back g h e f s))

-- ---- two groups are never found in one

module _ (c : ℕ → ℕ → Bool) (n : ℕ) (S : ℕ → Bool) where
  -- groups of which no member of one conflicts with a member of the other are one
  pub one-group :
      (g h : ℕ) → elem g (groups c n S) ≡ true → elem h (groups c n S) ≡ true →
      ((i j : ℕ) → i ∈ bit g → j ∈ bit h → (c i j ≡ false) × (c j i ≡ false)) → g ≡ h
  one-group g h e f none =
      let (l, p) = groups-at c n S g e in
      let (m, q) = groups-at c n S h f in
      same_bits n g h l m
      (same_set
      (λ i b. q.full i (p.is_free.within i b) (λ j x. (none i j b x).0))
      (λ j x. p.full j (q.is_free.within j x) (λ i b. (none i j b x).1)))

  -- so are groups that lie in one conflict-free set
  pub never-in-one :
      (g h : ℕ) → elem g (groups c n S) ≡ true → elem h (groups c n S) ≡ true → {U Q : ℕ → Bool} → Free c U Q →
      bit g ⊆ Q → bit h ⊆ Q → g ≡ h
  never-in-one g h e f free into into' =
      one-group g h e f
      (λ i j b x. (free.free i (into i b) j (into' j x), free.free j (into' j x) i (into i b)))

  -- so no group is part of a larger one
  pub never-part :
      (g h : ℕ) → elem g (groups c n S) ≡ true → elem h (groups c n S) ≡ true → part_of_larger g h ≡ false
  never-part g h e f =
      off (part_of_larger g h) (λ t.
      let (small, _) = groups-at c n S g e in
      let (small', m) = groups-at c n S h f in
      let (into, differ) = larger-at n g h small small' t in
      differ (never-in-one g h e f m.is_free into (λ i b. b)))
