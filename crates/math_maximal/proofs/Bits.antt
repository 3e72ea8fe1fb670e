-- A number as a set: bit i says whether i is a member. What the operations of a 64-bit number do to the bits. Assumes
-- nothing.
use mathlib.Core.Path.{◌≡◌, refl, sym, ◌∙◌, ap}
use mathlib.Core.Logic.{◌↔◌, ◌⊎◌, inl, inr}
use mathlib.Core.Bool.{Bool, true, false, not, ◌&&◌, ◌||◌}
use Prim.Native.Nat.{ℕ, zero, suc, ◌+◌, ◌-◌, ◌*◌, ◌/◌, ◌%◌, ◌^◌, ◌≤◌, ◌<◌, min, max}
use native.Mathlib.Omega.{arith}
use native.Mathlib.Nat.{div-one}
use native.Mathlib.Numerals.{one-add}
use native.Mathlib.Decide.{dec_lt}
use lib.Dec.{eqb}
use lib.Pow.{shr-shr, pow_pos}
use lib.Bits.{bit_and, bit_or, and_step, or_step, and_comm, and_lt, or_lt, and_le_l}
use borrow.Author.Tests.{eqb-true, eqb-false, eq-eqb, ne_eqb, not-true}
use Rattle.math_lists.specs.NumbersBelow.{some}
use Rattle.math_lists.proofs.Booleans.{clash, decide, off, same_test, both, and-on, or_right, eqb-self}
use Rattle.math_lists.proofs.NumbersBelow.{some-on, some_at}
use Rattle.math_maximal.specs.MaximalSets.{◌∈◌, ◌⊆◌}
use Rattle.math_maximal.specs.Groups.{bit}
use Rattle.math_maximal.specs.Step.{compatible, candidate}

-- a bit as a number
abbrev digit : Bool → ℕ
digit true = 1
digit false = 0

-- ---- the first bit, and the others

bit-zero : (g : ℕ) → bit g 0 ≡ eqb (g % 2) 1
unfolding bit
bit-zero g = rw (div-one g)

bit-suc : (g i : ℕ) → bit g (suc i) ≡ bit (g / 2) i
unfolding bit
bit-suc g i = rw (← one-add i, ← shr-shr g 1 i)

digit-below : (b : Bool) → digit b < 2
digit-below true = omega arith
digit-below false = omega arith

digit-on : (b : Bool) → eqb (digit b) 1 ≡ b
digit-on true = refl
digit-on false = refl

-- the first bit of g is the remainder of g
bit-digit : (g : ℕ) → g % 2 ≡ digit (bit g 0)
bit-digit g = rw (bit-zero g) (go (decide (eqb (g % 2) 1)))
  where
    go : (eqb (g % 2) 1 ≡ true) ⊎ (eqb (g % 2) 1 ≡ false) → g % 2 ≡ digit (eqb (g % 2) 1)
    go (inl e) = rw e (eqb-true (g % 2) 1 e)
    go (inr e) = rw e (omega (arith, eqb-false (g % 2) 1 e))

-- ---- no bit at or past n

pub bit-none : (i : ℕ) → bit 0 i ≡ false
unfolding bit
bit-none zero = refl
bit-none (suc i) = bit-suc 0 i ∙ bit-none i

pub bit_high : (n g : ℕ) → g < 2 ^ n → (i : ℕ) → n ≤ i → bit g i ≡ false
bit_high zero g h i l = let e : g ≡ 0 = omega arith in rw e (bit-none i)
bit_high (suc n) g h zero l = absurd (omega arith)
bit_high (suc n) g h (suc i) l = rw (bit-suc g i) (bit_high n (g / 2) (omega arith) i (omega arith))

pub bit_below : (n g : ℕ) → g < 2 ^ n → (i : ℕ) → i ∈ bit g → i < n
bit_below n g h i b = elim (dec_lt i n) [ yes l ↦ l | no d ↦ clash b (bit_high n g h i (omega arith)) ]

-- ---- a number is known by its bits

bit-ext : (n g h : ℕ) → g < 2 ^ n → h < 2 ^ n → ((i : ℕ) → i < n → bit g i ≡ bit h i) → g ≡ h
bit-ext zero g h l m e = omega arith
bit-ext (suc n) g h l m e =
    let q : g / 2 ≡ h / 2 = bit-ext n (g / 2) (h / 2) (omega arith) (omega arith) rest in
    let r : g % 2 ≡ h % 2 = bit-digit g ∙ ap digit (e 0 (omega arith)) ∙ sym (bit-digit h) in
    omega arith
  where
    rest : (i : ℕ) → i < n → bit (g / 2) i ≡ bit (h / 2) i
    rest i k = rw (← bit-suc g i, ← bit-suc h i) (e (suc i) (omega arith))

pub same_bits : (n g h : ℕ) → g < 2 ^ n → h < 2 ^ n → bit g ≡ bit h → g ≡ h
same_bits n g h l m e = bit-ext n g h l m (λ i k. rw e)

-- ---- an operation that works bit by bit: `at` is what it does to a digit, `on` what it does to a bit

module _ (op at : ℕ → ℕ → ℕ) (on : Bool → Bool → Bool)
    (split : (a b : ℕ) → op a b ≡ op (a / 2) (b / 2) * 2 + at (a % 2) (b % 2))
    (digits : (x y : Bool) → at (digit x) (digit y) ≡ digit (on x y)) where
  low :
      (a b : ℕ) →
      (op a b % 2 ≡ digit (on (bit a 0) (bit b 0))) × (op a b / 2 ≡ op (a / 2) (b / 2))
  low a b =
      let d = on (bit a 0) (bit b 0) in
      let e : at (a % 2) (b % 2) ≡ digit d = rw (bit-digit a, bit-digit b) (digits (bit a 0) (bit b 0)) in
      (omega (arith, split a b, digit-below d), omega (arith, split a b, digit-below d))

  bit-op : (a b i : ℕ) → bit (op a b) i ≡ on (bit a i) (bit b i)
  bit-op a b zero =
      bit-zero (op a b) ∙ ap (λ (x : ℕ). eqb x 1) (low a b).0 ∙ digit-on (on (bit a 0) (bit b 0))
  bit-op a b (suc i) =
      bit-suc (op a b) i ∙ ap (λ (x : ℕ). bit x i) (low a b).1 ∙ bit-op (a / 2) (b / 2) i
      ∙ rw (bit-suc a i, bit-suc b i)

pub bit-and : (a b i : ℕ) → bit (bit_and a b) i ≡ (bit a i && bit b i)
bit-and = bit-op bit_and min ◌&&◌ and_step digits
  where
    digits : (x y : Bool) → min (digit x) (digit y) ≡ digit (x && y)
    digits true true = refl
    digits true false = refl
    digits false true = refl
    digits false false = refl

pub bit-or : (a b i : ℕ) → bit (bit_or a b) i ≡ (bit a i || bit b i)
bit-or = bit-op bit_or max ◌||◌ or_step digits
  where
    digits : (x y : Bool) → max (digit x) (digit y) ≡ digit (x || y)
    digits true true = refl
    digits true false = refl
    digits false true = refl
    digits false false = refl

-- what a has and b lacks
pub bit-minus : (a b i : ℕ) → bit (a - bit_and a b) i ≡ (bit a i && not (bit b i))
bit-minus = bit-op (λ a b. a - bit_and a b) (λ a b. a - min a b) (λ x y. x && not y) split digits
  where
    split :
        (a b : ℕ) →
        a - bit_and a b ≡ (a / 2 - bit_and (a / 2) (b / 2)) * 2 + (a % 2 - min (a % 2) (b % 2))
    split a b = omega (arith, and_step a b, and_le_l a b, and_le_l (a / 2) (b / 2))

    digits : (x y : Bool) → digit x - min (digit x) (digit y) ≡ digit (x && not y)
    digits true true = refl
    digits true false = refl
    digits false true = refl
    digits false false = refl

-- the number with one bit
pub bit-power : (k i : ℕ) → bit (2 ^ k) i ≡ eqb i k
bit-power zero zero = bit-zero 1
bit-power zero (suc i) = bit-suc 1 i ∙ bit-none i ∙ sym (ne_eqb (suc i) 0 (λ e. omega arith))
bit-power (suc k) zero =
    let e : 2 ^ suc k % 2 ≡ 0 = omega arith in
    bit-zero (2 ^ suc k) ∙ rw (e, ne_eqb 0 (suc k) (λ e. omega arith))
bit-power (suc k) (suc i) =
    let e : 2 ^ suc k / 2 ≡ 2 ^ k = omega arith in
    bit-suc (2 ^ suc k) i ∙ rw e (bit-power k i)
    ∙ same_test (eqb i k) (eqb (suc i) (suc k)) (λ q. eq-eqb (suc i) (suc k) (ap suc (eqb-true i k q)))
    (λ q. eq-eqb i k (omega (arith, eqb-true (suc i) (suc k) q)))

-- ---- parts

-- g is part of h exactly if the members of g that are in h are all of g
pub part-and : (n g h : ℕ) → g < 2 ^ n → h < 2 ^ n → (bit_and g h ≡ g) ↔ (bit g ⊆ bit h)
part-and n g h l m = (
  (λ e i b. (both (bit g i) (bit h i) (sym (bit-and g h i) ∙ rw e b)).1),
  (λ s. bit-ext n (bit_and g h) g (and_lt n g h l m) l
      (λ i k. bit-and g h i
      ∙ same_test (bit g i && bit h i) (bit g i) (λ b. (both (bit g i) (bit h i) b).0)
      (λ b. and-on (bit g i) (bit h i) b (s i b)))),
)

-- ---- compatible with what conflicts with m: no member in m

module _ (m g : ℕ) where
  pub compatible-on : (n : ℕ) → g < 2 ^ n → ((i : ℕ) → i ∈ bit g → bit m i ≡ false) → compatible m g ≡ true
  compatible-on n l h =
      eq-eqb (bit_and g m) 0
      (bit-ext n (bit_and g m) 0 (omega (arith, and_le_l g m)) (omega arith)
      (λ i q. bit-and g m i
      ∙ off (bit g i && bit m i) (λ b. let (x, y) = both (bit g i) (bit m i) b in clash y (h i x)) ∙ sym (bit-none i)))

  pub compatible-at : compatible m g ≡ true → (i : ℕ) → i ∈ bit g → bit m i ≡ false
  compatible-at h i b =
      let e : bit_and g m ≡ 0 = eqb-true (bit_and g m) 0 h in
      off (bit m i) (λ q. clash (bit-and g m i ∙ and-on (bit g i) (bit m i) b q) (rw e (bit-none i)))

-- two numbers, one of them below a power of 2, have a bit in common
pub some-common :
    (n p g : ℕ) → p < 2 ^ n → some n (λ k. bit p k && bit g k) ≡ not (compatible p g)
some-common n p g small =
    same_test (some n (λ k. bit p k && bit g k)) (not (compatible p g))
    (λ h. let (k, _, e) = some_at n (λ k. bit p k && bit g k) h in
    let (x, y) = both (bit p k) (bit g k) e in
    rw (off (compatible p g) (λ c. clash x (compatible-at p g c k y))))
    (λ h. elim (decide (some n (λ k. bit p k && bit g k))) [
      | inl t ↦ t
      | inr t ↦ clash
          (rw (and_comm g p)
          (compatible-on g p n small (λ k x. off (bit g k) (λ y.
          let l = bit_below n p small k x in
          clash (some-on n (λ k. bit p k && bit g k) k l (and-on (bit p k) (bit g k) x y)) t))))
          (not-true (compatible p g) h)
    ])

-- ---- the candidate of g for k

module _ (m k g : ℕ) where
  pub bit-candidate : (i : ℕ) → bit (candidate m k g) i ≡ ((bit g i && not (bit m i)) || eqb i k)
  bit-candidate i = bit-or (g - bit_and g m) (2 ^ k) i ∙ rw (bit-minus g m i, bit-power k i)

  pub candidate-new : bit (candidate m k g) k ≡ true
  candidate-new = bit-candidate k ∙ or_right (bit g k && not (bit m k)) (eqb k k) (eqb-self k)

  pub candidate-below : g < 2 ^ k → candidate m k g < 2 ^ suc k
  candidate-below l = or_lt (suc k) (g - bit_and g m) (2 ^ k) (omega arith) (omega (arith, pow_pos k))

  -- a compatible group gains k
  pub gains : compatible m g ≡ true → bit_or g (2 ^ k) ≡ candidate m k g
  gains h =
      let e : g ≡ g - bit_and g m = omega (arith, eqb-true (bit_and g m) 0 h) in
      ap (λ (x : ℕ). bit_or x (2 ^ k)) e
