-- What is in the list of groups: the numbers whose bits are a maximal conflict-free set. The tests that compute, and
-- what they say. Assumes nothing of the relation.
use mathlib.Core.Path.{◌≡◌, refl, sym, ap₂, ◌∙◌}
use mathlib.Core.Bool.{Bool, true, not, ◌&&◌, beq}
use mathlib.Core.List.{[], ◌∷◌}
use Prim.Native.Nat.{ℕ, ◌^◌, ◌<◌}
use lib.Dec.{ltb}
use borrow.Author.Tests.{ltb-true, lt-ltb, not-true}
use Rattle.math_lists.specs.NumbersBelow.{all, mask, keep}
use Rattle.math_lists.specs.SortedLists.{elem, Ascending}
use Rattle.math_lists.proofs.Booleans.{clash, off, same_test, both, and-on, beq-on, beq-eq}
use Rattle.math_lists.proofs.NumbersBelow.{all-on, all-at, all_same, mask_below, keep_at, keep-on, keep_same}
use Rattle.math_lists.proofs.SortedLists.{keep-ascending}
use Rattle.math_maximal.specs.MaximalSets.{◌∈◌, Fits, Maximal}
use Rattle.math_maximal.specs.Groups.{bit, below, fits, is_maximal, groups}
use Rattle.math_maximal.proofs.MaximalSets.{carried}
use Rattle.math_maximal.proofs.Bits.{bit_below}
use Rattle.math_maximal.proofs.Masks.{masked}

-- ---- the members of S below n

module _ (n : ℕ) (S : ℕ → Bool) (i : ℕ) where
  pub below_at : i ∈ below n S → (i < n) × (i ∈ S)
  unfolding below
  below_at h = let (l, s) = both (ltb i n) (S i) h in (ltb-true i n l, s)

  pub below_on : i < n → i ∈ S → i ∈ below n S
  unfolding below
  below_on l s = and-on (ltb i n) (S i) (lt-ltb i n l) s

-- ---- the tests

module _ (c : ℕ → ℕ → Bool) (n : ℕ) where
  fits_on : (P : ℕ → Bool) (i : ℕ) → Fits c P i → fits c n P i ≡ true
  unfolding fits
  fits_on P i h =
      all-on n (λ j. not (P j && c i j))
      (λ j l. rw (off (P j && c i j) (λ e. let (p, q) = both (P j) (c i j) e in clash q (h j p))))

  fits-at : (P : ℕ → Bool) (i : ℕ) → ((j : ℕ) → j ∈ P → j < n) → fits c n P i ≡ true → Fits c P i
  unfolding fits
  fits-at P i b h j p = rw p at (not-true (P j && c i j) (all-at n (λ j. not (P j && c i j)) h j (b j p)))

  module _ (S : ℕ → Bool) where
    pub maximal-on : (P : ℕ → Bool) → Maximal c (below n S) P → is_maximal c n S P ≡ true
    unfolding is_maximal
    maximal-on P m =
        all-on n (λ i. beq (P i) (S i && fits c n P i))
        (λ i l. beq-on (P i) (S i && fits c n P i)
        (same_test (P i) (S i && fits c n P i)
        (λ p. and-on (S i) (fits c n P i) (below_at n S i (m.is_free.within i p)).1
        (fits_on P i (m.is_free.free i p)))
        (λ h. let (s, f) = both (S i) (fits c n P i) h in
        m.full i (below_on n S i l s) (fits-at P i (λ j p. (below_at n S j (m.is_free.within j p)).0) f))))

    pub maximal-at :
        (P : ℕ → Bool) → ((j : ℕ) → j ∈ P → j < n) → is_maximal c n S P ≡ true → Maximal c (below n S) P
    unfolding is_maximal
    maximal-at P b h = record {
      is_free = record {
        within = λ i p. below_on n S i (b i p) (parts i p).0;
        free = λ i p. fits-at P i b (parts i p).1;
      };
      full = λ i d f. let (l, s) = below_at n S i d in eq i l ∙ and-on (S i) (fits c n P i) s (fits_on P i f);
    }
      where
        eq : (i : ℕ) → i < n → P i ≡ (S i && fits c n P i)
        eq i l =
            beq-eq (P i) (S i && fits c n P i) (all-at n (λ i. beq (P i) (S i && fits c n P i)) h i l)

        parts : (i : ℕ) → i ∈ P → (i ∈ S) × (fits c n P i ≡ true)
        parts i p = both (S i) (fits c n P i) (sym (eq i (b i p)) ∙ p)

    -- ---- the list

    pub groups-at : (g : ℕ) → elem g (groups c n S) ≡ true → (g < 2 ^ n) × Maximal c (below n S) (bit g)
    unfolding groups
    groups-at g h =
        let (l, m) = keep_at (2 ^ n) (λ g. is_maximal c n S (bit g)) g h in
        (l, maximal-at (bit g) (bit_below n g l) m)

    pub groups-on : (g : ℕ) → g < 2 ^ n → Maximal c (below n S) (bit g) → elem g (groups c n S) ≡ true
    unfolding groups
    groups-on g l m = keep-on (2 ^ n) (λ g. is_maximal c n S (bit g)) g l (maximal-on (bit g) m)

    -- a maximal set is the bits of a group
    pub has-number :
        (P : ℕ → Bool) → Maximal c (below n S) P → (g : ℕ) × (elem g (groups c n S) ≡ true) × (bit g ≡ P)
    has-number P m =
        let e : bit (mask n P) ≡ P = masked n P (λ i p. (below_at n S i (m.is_free.within i p)).0) in
        (mask n P, groups-on (mask n P) (mask_below n P) (rw e m), e)

pub groups-ascending : (c : ℕ → ℕ → Bool) (n : ℕ) (S : ℕ → Bool) → Ascending (groups c n S)
unfolding groups
groups-ascending c n S = keep-ascending (2 ^ n) (λ g. is_maximal c n S (bit g))

-- with no elements there is one group, the empty one
pub no-elements : (c : ℕ → ℕ → Bool) (S : ℕ → Bool) → groups c 0 S ≡ 0 ∷ []
unfolding groups keep is_maximal all
no-elements c S = refl

-- the groups of the same elements with the same conflicts
pub groups-same :
    (c d : ℕ → ℕ → Bool) (n : ℕ) (S T : ℕ → Bool) → ((i : ℕ) → i < n → S i ≡ T i) →
    ((i j : ℕ) → i < n → j < n → c i j ≡ d i j) → groups c n S ≡ groups d n T
unfolding groups is_maximal fits
groups-same c d n S T s a =
    keep_same (2 ^ n) (λ g. is_maximal c n S (bit g)) (λ g. is_maximal d n T (bit g))
    (λ g l. all_same n (λ i. beq (bit g i) (S i && fits c n (bit g) i))
    (λ i. beq (bit g i) (T i && fits d n (bit g) i))
    (λ i k. ap₂ (λ (x y : Bool). beq (bit g i) (x && y)) (s i k)
    (all_same n (λ j. not (bit g j && c i j)) (λ j. not (bit g j && d i j)) (λ j m. rw (a i j k m)))))

-- only the conflicts among the elements count
pub groups-agree :
    (c d : ℕ → ℕ → Bool) (n : ℕ) (S : ℕ → Bool) →
    ((i j : ℕ) → i ∈ below n S → j ∈ below n S → c i j ≡ d i j) → groups c n S ≡ groups d n S
unfolding groups
groups-agree c d n S a =
    keep_same (2 ^ n) (λ g. is_maximal c n S (bit g)) (λ g. is_maximal d n S (bit g))
    (λ g l. same_test (is_maximal c n S (bit g)) (is_maximal d n S (bit g))
    (over d c (λ i j s t. sym (a i j s t)) (bit_below n g l)) (over c d a (bit_below n g l)))
  where
    over :
        (d c : ℕ → ℕ → Bool) → ((i j : ℕ) → i ∈ below n S → j ∈ below n S → d i j ≡ c i j) →
        {P : ℕ → Bool} → ((j : ℕ) → j ∈ P → j < n) → is_maximal c n S P ≡ true → is_maximal d n S P ≡ true
    over d c a {P} b h =
        let m = maximal-at c n S P b h in
        maximal-on d n S P
        (carried {f = λ i. i} (record { into = λ i s. s; onto = λ j s. (j, s, refl); agree = a })
        m.is_free.within (λ i s. refl) m)
