-- The largest stamp of a key among the Sets that pass a test: what one Set more does to it, and the members of a group
-- with the key gone through from the last one on, as far as one that those before it do not outdo. Assumes nothing.
use mathlib.Core.Path.{◌≡◌, refl, sym, ap, ◌∙◌}
use mathlib.Core.Bool.{Bool, true, false, ◌&&◌, ◌||◌, cond}
use mathlib.Core.List.{List}
use Prim.Native.Nat.{ℕ, zero, suc, ◌+◌, ◌/◌, ◌^◌, ◌≤◌, ◌<◌, max}
use native.Mathlib.Omega.{arith}
use native.Mathlib.Decide.{ℕ_discrete}
use lib.Bits.{bit_and}
use lib.Dec.{eqb, ltb}
use lib.ListN.{length, get_or, take}
use lib.Seq.{get_or-take, length-take-le}
use borrow.Author.Tests.{eq-eqb, ne_eqb, lt-ltb, eqb-true, ltb-true}
use Rattle.math_lists.proofs.Booleans.{clash, both, or-false, or-true, eqb-self}
use Rattle.edit_record.specs.Layout.{keys}
use Rattle.math_maximal.specs.Groups.{bit}
use Rattle.math_maximal.proofs.Bits.{bit-none, bit_below, bit-and}
use Rattle.math_maximal.proofs.OneMemberLess.{fewer, still-left, own-gone, others-left}
use Rattle.list_version.specs.VersionForms.{placings, largest_below, largest_by, KeyedBy}

unfoldable pub largest_where : (ℕ → Bool) → List ℕ → ℕ → ℕ → ℕ
largest_where f stamps k zero = 0
largest_where f stamps k (suc n) =
    cond (f n && eqb (get_or stamps n 0 / placings) k) (max (largest_where f stamps k n) (get_or stamps n 0))
    (largest_where f stamps k n)

-- a number that was counted changes nothing when it is counted again
once :
    (b e : Bool) (m s : ℕ) →
    cond e (max m s) m ≡ cond e (max (cond (b && e) (max m s) m) s) (cond (b && e) (max m s) m)
once true true m s = omega arith
once true false m s = refl
once false true m s = refl
once false false m s = refl

module _ (stamps : List ℕ) (k : ℕ) where
  abbrev has : ℕ → Bool
  has i = eqb (get_or stamps i 0 / placings) k

  -- it goes by the tests of those of the first n that have the key
  same-of-key :
      (f h : ℕ → Bool) (n : ℕ) → ((i : ℕ) → i < n → (f i && has i) ≡ (h i && has i)) →
      largest_where f stamps k n ≡ largest_where h stamps k n
  unfolding largest_where
  same-of-key f h zero e = refl
  same-of-key f h (suc n) e = rw (e n (omega arith), same-of-key f h n (λ i l. e i (omega arith)))

  same-where :
      (f h : ℕ → Bool) (n : ℕ) → ((i : ℕ) → i < n → f i ≡ h i) →
      largest_where f stamps k n ≡ largest_where h stamps k n
  same-where f h n e = same-of-key f h n (λ i l. ap (λ (b : Bool). b && has i) (e i l))

  -- none is larger than x
  none_above :
      (f : ℕ → Bool) (x n : ℕ) →
      ((i : ℕ) → i < n → f i ≡ true → get_or stamps i 0 / placings ≡ k → get_or stamps i 0 ≤ x) →
      largest_where f stamps k n ≤ x
  unfolding largest_where
  none_above f x zero h = omega arith
  none_above f x (suc n) h = go (f n) refl (has n) refl (none_above f x n (λ i l. h i (omega arith)))
    where
      go : (b : Bool) → f n ≡ b → (e : Bool) → has n ≡ e → largest_where f stamps k n ≤ x →
          cond (b && e) (max (largest_where f stamps k n) (get_or stamps n 0)) (largest_where f stamps k n) ≤ x
      go true p true q rest = omega (arith, rest, h n (omega arith) p (eqb-true (get_or stamps n 0 / placings) k q))
      go true p false q rest = rest
      go false p e q rest = rest

  by_members :
      (g n : ℕ) → largest_below stamps g k n ≡ largest_where (bit g) stamps k n
  unfolding largest_below largest_where
  by_members g zero = refl
  by_members g (suc n) = rw (by_members g n)

  -- ---- one Set more

  module _ (f : ℕ → Bool) (i : ℕ) where
    abbrev with_one : ℕ → Bool
    with_one j = f j || eqb j i

    abbrev own : ℕ
    own = get_or stamps i 0

    abbrev raised : ℕ → ℕ
    raised m = cond (eqb (own / placings) k) (max m own) m

    -- another Set adds the same with it and without
    apart : (b : Bool) (m s : ℕ) → cond b (max (raised m) s) (raised m) ≡ raised (cond b (max m s) m)
    apart true m s = go (eqb (own / placings) k)
      where
        go : (e : Bool) → max (cond e (max m own) m) s ≡ cond e (max (max m s) own) (max m s)
        go true = omega arith
        go false = refl
    apart false m s = refl

    one_more_lem : (n : ℕ) → i < n → largest_where with_one stamps k n ≡ raised (largest_where f stamps k n)
    unfolding largest_where
    one_more_lem zero l = absurd (omega arith)
    one_more_lem (suc n) l = elim (ℕ_discrete n i) [
      | yes q ↦
          let rest : largest_where with_one stamps k n ≡ largest_where f stamps k n
          = same-where with_one f n (λ j l. rw (ne_eqb j i (λ e. omega arith)) (or-false (f j))) in
          let in-it : (f n || eqb n i) ≡ true = rw (q, eqb-self i) (or-true (f i)) in
          rw (in-it, rest, ← q)
          (once (f n) (eqb (get_or stamps n 0 / placings) k) (largest_where f stamps k n) (get_or stamps n 0))
      | no d ↦
          rw (ne_eqb n i d, or-false (f n), one_more_lem n (omega arith))
          (apart (f n && eqb (get_or stamps n 0 / placings) k) (largest_where f stamps k n) (get_or stamps n 0))
    ]

-- the stamps of the first t Sets alone count
of-first :
    (stamps : List ℕ) (f : ℕ → Bool) (k t n : ℕ) → n ≤ t →
    largest_where f (take t stamps) k n ≡ largest_where f stamps k n
unfolding largest_where
of-first stamps f k t zero l = refl
of-first stamps f k t (suc n) l = rw (get_or-take t stamps n 0 (omega arith), of-first stamps f k t n (omega arith))

-- ---- the members of g with the key k, of the first t Sets

module _ (stamps by : List ℕ) (peaks t g k : ℕ) (key : k < keys) (keyed : KeyedBy stamps by peaks t) where
  abbrev pub most : ℕ → ℕ
  most h = largest_where (bit h) stamps k t

  pub most-is : t ≤ length stamps → most g ≡ largest_by (take t stamps) g k
  most-is fits =
      let long = length-take-le t stamps fits in
      sym (ap (λ (n : ℕ). largest_below (take t stamps) g k n) long ∙ by_members (take t stamps) k g t
      ∙ of-first stamps (bit g) k t t (omega arith))

  abbrev pub having : ℕ
  having = bit_and g (get_or by k 0)

  pub having-alone : most having ≡ most g
  having-alone =
      same-of-key stamps k (bit having) (bit g) t
      (λ i l. rw (bit-and g (get_or by k 0) i, keyed.own k i key, lt-ltb i t l)
      (go (bit g i) (eqb (get_or stamps i 0 / placings) k)))
    where
      go : (a e : Bool) → ((a && (true && e)) && e) ≡ (a && e)
      go true true = refl
      go true false = refl
      go false e = refl

  -- each member of `left` is one of the first t, and has the key
  abbrev pub Part : ℕ → Type 0
  Part left = (i : ℕ) → bit left i ≡ true → (i < t) × (get_or stamps i 0 / placings ≡ k)

  pub having-part : Part having
  having-part i b =
      let (in_g, in-by) = both (bit g i) (bit (get_or by k 0) i) (sym (bit-and g (get_or by k 0) i) ∙ b) in
      let (l, e) = both (ltb i t) (eqb (get_or stamps i 0 / placings) k) (sym (keyed.own k i key) ∙ in-by) in
      (ltb-true i t l, eqb-true (get_or stamps i 0 / placings) k e)

  pub none_left : (left found : ℕ) → left ≡ 0 → max found (most left) ≡ most g → found ≡ most g
  none_left left found z inv =
      let none : most left ≤ 0
      = none_above stamps k (bit left) 0 t (λ i l b q. absurd (clash b (rw z (bit-none i)))) in
      omega (arith, none, inv)

  -- Set i is gone through
  module _ (left i found : ℕ) (part : Part left) (h : bit left i ≡ true) (inv : max found (most left) ≡ most g) where
    one_less : most left ≡ max (most (fewer left i)) (get_or stamps i 0)
    one_less =
        same-where stamps k (bit left) (λ j. bit (fewer left i) j || eqb j i) t (λ j l. elim (ℕ_discrete j i) [
          | yes q ↦ rw (q, h, own-gone left i, eqb-self i)
          | no d ↦ rw (others-left left i j d, ne_eqb j i d) (sym (or-false (bit left j)))
        ])
        ∙ one_more_lem stamps k (bit (fewer left i)) i t (part i h).0
        ∙ rw (eq-eqb (get_or stamps i 0 / placings) k (part i h).1)

    pub part-on : Part (fewer left i)
    part-on j b = part j (still-left left i j b)

    pub goes_on : max (max found (get_or stamps i 0)) (most (fewer left i)) ≡ most g
    goes_on = omega (arith, one_less, inv)

    pub ends : left < 2 ^ (i + 1) → bit peaks i ≡ true → max found (get_or stamps i 0) ≡ most g
    ends top p =
        let above : most left ≤ get_or stamps i 0
        = none_above stamps k (bit left) (get_or stamps i 0) t (λ j l b q. elim (ℕ_discrete j i) [
          | yes e ↦ rw e (omega arith)
          | no d ↦
              keyed.peak i j p (omega (arith, d, bit_below (i + 1) left top j b)) (q ∙ sym (part i h).1)
        ]) in
        omega (arith, one_less, above, inv)
