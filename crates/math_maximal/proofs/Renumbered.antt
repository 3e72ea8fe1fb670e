-- The same elements under other numbers have the same groups, up to the places of the members. Assumes nothing of the
-- relation: f and q take the numbers over, one way and back, and the two relations agree.
use mathlib.Core.Path.{◌≡◌, sym, ◌∙◌, ap}
use mathlib.Core.Logic.{◌↔◌}
use mathlib.Core.Bool.{Bool, true, ◌&&◌}
use mathlib.Core.List.{List, Memᴰ}
use Prim.Native.Nat.{ℕ, ◌^◌, ◌≤◌, ◌<◌}
use native.Mathlib.Omega.{arith}
use lib.ListN.{length}
use Rattle.math_lists.specs.SortedLists.{elem, Asc}
use Rattle.math_lists.specs.NumbersBelow.{mask}
use Rattle.math_lists.proofs.Booleans.{both, and-on}
use Rattle.math_lists.proofs.NumbersBelow.{mask_below}
use Rattle.math_lists.proofs.SortedLists.{asc-unique, not-longer}
use Rattle.math_maximal.specs.MaximalSets.{◌∈◌, ◌⊆◌, Maximal}
use Rattle.math_maximal.specs.Groups.{bit, below, groups}
use Rattle.math_maximal.proofs.MaximalSets.{same_set, carried}
use Rattle.math_maximal.proofs.Bits.{same_bits}
use Rattle.math_maximal.proofs.Masks.{masked}
use Rattle.math_maximal.proofs.Groups.{below_at, groups-at, groups-on, groups-ascending}

-- f gives the one number of the element that has the other number i, and q the other way round
pub record Renumbered
    (c : ℕ → ℕ → Bool) (n : ℕ) (S : ℕ → Bool) (d : ℕ → ℕ → Bool) (m : ℕ) (U : ℕ → Bool) (f q : ℕ → ℕ) : Type 0 where
  pub into : (i : ℕ) → i ∈ below m U → f i ∈ below n S
  pub back : (j : ℕ) → j ∈ below n S → q j ∈ below m U
  pub there : (j : ℕ) → j ∈ below n S → f (q j) ≡ j
  pub again : (i : ℕ) → i ∈ below m U → q (f i) ≡ i
  pub agree : (i j : ℕ) → i ∈ below m U → j ∈ below m U → d i j ≡ c (f i) (f j)

-- the members of U below m that f takes into g, and their number
unfoldable pub pulled : ℕ → (ℕ → Bool) → (ℕ → ℕ) → ℕ → ℕ → Bool
pulled m U f g i = below m U i && bit g (f i)

unfoldable pub image : ℕ → (ℕ → Bool) → (ℕ → ℕ) → ℕ → ℕ
image m U f g = mask m (pulled m U f g)

-- the members of ks are the keys of the groups
abbrev pub Keys : {K : Type 0} → (ℕ → K) → List ℕ → List K → Type 0
Keys {K} key gs ks = (x : K) → Memᴰ x ks ↔ ((g : ℕ) × (elem g gs ≡ true) × (key g ≡ x))

-- ---- the other way round

pub turned :
    {c : ℕ → ℕ → Bool} {n : ℕ} {S : ℕ → Bool} {d : ℕ → ℕ → Bool} {m : ℕ} {U : ℕ → Bool} {f q : ℕ → ℕ} →
    Renumbered c n S d m U f q → Renumbered d m U c n S q f
turned {q = q} r = record {
  into = r.back;
  back = r.into;
  there = r.again;
  again = r.there;
  agree = λ i j s t. sym
      (r.agree (q i) (q j) (r.back i s) (r.back j t) ∙ rw (r.there i s, r.there j t));
}

-- ---- the image of a group

pub bit-image : (m : ℕ) (U : ℕ → Bool) (f : ℕ → ℕ) (g : ℕ) → bit (image m U f g) ≡ pulled m U f g
unfolding pulled image
bit-image m U f g =
    masked m (pulled m U f g) (λ i h. (below_at m U i (both (below m U i) (bit g (f i)) h).0).0)

image-below : (m : ℕ) (U : ℕ → Bool) (f : ℕ → ℕ) (g : ℕ) → image m U f g < 2 ^ m
unfolding image
image-below m U f g = mask_below m (pulled m U f g)

module _ {c : ℕ → ℕ → Bool} {n : ℕ} {S : ℕ → Bool} {d : ℕ → ℕ → Bool} {m : ℕ} {U : ℕ → Bool} {f q : ℕ → ℕ}
    (r : Renumbered c n S d m U f q) where
  -- it is maximal
  image-maximal : (g : ℕ) → Maximal c (below n S) (bit g) → Maximal d (below m U) (bit (image m U f g))
  unfolding pulled
  image-maximal g w =
      rw (bit-image m U f g)
      (carried (record { into = r.into; onto = λ j s. (q j, r.back j s, r.there j s); agree = r.agree })
      (λ i h. (both (below m U i) (bit g (f i)) h).0) (λ i u. rw u) w)

  -- and comes back
  image-image : (g : ℕ) → g < 2 ^ n → bit g ⊆ below n S → image n S q (image m U f g) ≡ g
  unfolding pulled
  image-image g l w =
      let h = image m U f g in
      same_bits n (image n S q h) g (image-below n S q h) l
      (bit-image n S q h
      ∙ same_set
      (λ j b. let (s, t) = both (below n S j) (bit h (q j)) b in
      rw (r.there j s) at (both (below m U (q j)) (bit g (f (q j))) (rw (bit-image m U f g) at t)).1)
      (λ j b. let s = w j b in
      and-on (below n S j) (bit h (q j)) s
      (rw (bit-image m U f g)
      (and-on (below m U (q j)) (bit g (f (q j))) (r.back j s) (rw (r.there j s) b)))))

  image-group :
      (g : ℕ) → elem g (groups c n S) ≡ true →
      (elem (image m U f g) (groups d m U) ≡ true) × (image n S q (image m U f g) ≡ g)
  image-group g e =
      let (l, w) = groups-at c n S g e in (
        groups-on d m U (image m U f g) (image-below m U f g) (image-maximal g w),
        image-image g l w.is_free.within,
      )

  no-fewer : length (groups c n S) ≤ length (groups d m U)
  no-fewer =
      not-longer (image n S q) (groups c n S) (groups d m U) (groups-ascending c n S)
      (λ g e. let (i, b) = image-group g e in (image m U f g, i, b))

-- ---- as many groups, and the same list of keys

module _ {c : ℕ → ℕ → Bool} {n : ℕ} {S : ℕ → Bool} {d : ℕ → ℕ → Bool} {m : ℕ} {U : ℕ → Bool} {f q : ℕ → ℕ}
    (r : Renumbered c n S d m U f q) where
  pub as_many : length (groups c n S) ≡ length (groups d m U)
  as_many = omega (arith, no-fewer r, no-fewer (turned r))

  -- where a group and its image have the same key, the ascending list of the keys is the same
  pub same_keys :
      {K : Type 0} (lt : K → K → Type 0) → ((x : K) → lt x x → ⊥) → ((x y z : K) → lt x y → lt y z → lt x z) →
      (key key' : ℕ → K) → ((g : ℕ) → elem g (groups c n S) ≡ true → key' (image m U f g) ≡ key g) →
      (ks ks' : List K) → Asc lt ks → Asc lt ks' → Keys key (groups c n S) ks → Keys key' (groups d m U) ks' →
      ks ≡ ks'
  same_keys lt irr tr key key' alike ks ks' a a' k k' =
      asc-unique lt irr tr ks ks' a a'
      (λ x w. let (g, e, p) = (k x).0 w in (k' x).1 (image m U f g, (image-group r g e).0, alike g e ∙ p))
      (λ x w. let (h, e, p) = (k' x).0 w in
      let (i, b) = image-group (turned r) h e in
      (k x).1 (image n S q h, i, sym (alike (image n S q h) i) ∙ ap key' b ∙ p))
