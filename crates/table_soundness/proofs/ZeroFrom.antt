-- The test that every entry of l from k on is zero, as loops make it: from k on, from the end down, and by four
-- parts. Assumes nothing.
use mathlib.Core.Path.{◌≡◌, refl, sym, ap, ◌∙◌}
use mathlib.Core.Logic.{inl, inr}
use mathlib.Core.Bool.{Bool, true, ◌&&◌, ◌||◌, and_assoc}
use mathlib.Core.List.{List}
use Prim.Native.Nat.{ℕ, ◌+◌, ◌-◌, ◌≤◌, ◌<◌}
use native.Mathlib.Omega.{arith}
use native.Mathlib.Numerals.{add-one}
use native.Mathlib.Decide.{ℕ_discrete, dec_lt}
use lib.Dec.{eqb, ltb}
use lib.ListN.{get_or, length, take, drop, length-drop, get_or-eq_default}
use lib.Seq.{take_all}
use lib.Bits.{bit_or, or_add_and, and_le_l, and_comm}
use borrow.Author.Tests.{lt-ltb, le-ltb, ltb-true, eq-eqb, eqb-true}
use Rattle.math_lists.specs.NumbersBelow.{all}
use Rattle.math_lists.proofs.Booleans.{same_test, both, either, and-on, or_left, or_right}
use Rattle.math_lists.proofs.NumbersBelow.{all-on, all-at}
use Rattle.table_soundness.specs.Sound.{zero_from}

abbrev pub zero_at : List ℕ → ℕ → ℕ → Bool
zero_at l k i = ltb i k || eqb (get_or l i 0) 0

-- what a loop over the entries from k on goes through
pub rest-is : (l : List ℕ) (k : ℕ) → take (length l - k) (drop k l) ≡ drop k l
rest-is l k = take_all (length l - k) (drop k l) (omega (arith, length-drop k l))

-- before the first turn, in a turn, and at the end

pub zero-start : (l : List ℕ) (k : ℕ) → true ≡ all k (zero_at l k)
zero-start l k = sym (all-on k (zero_at l k) (λ i m. or_left (ltb i k) (eqb (get_or l i 0) 0) (lt-ltb i k m)))

pub zero_more :
    (l : List ℕ) (k i : ℕ) → k ≤ i → (all i (zero_at l k) && eqb (get_or l i 0) 0) ≡ all (i + 1) (zero_at l k)
unfolding all
zero_more l k i m = rw (add-one, le-ltb i k m)

pub zero-end : (l : List ℕ) (k i : ℕ) → length l ≤ i → all i (zero_at l k) ≡ zero_from l k
unfolding zero_from
zero-end l k i m =
    same_test (all i (zero_at l k)) (all (length l) (zero_at l k))
    (λ h. all-on (length l) (zero_at l k) (λ j o. all-at i (zero_at l k) h j (omega arith)))
    (λ h. all-on i (zero_at l k) (λ j o. at j (dec_lt j (length l)) h))
  where
    at : (j : ℕ) → Dec (j < length l) → all (length l) (zero_at l k) ≡ true → zero_at l k j ≡ true
    at j (yes o) h = all-at (length l) (zero_at l k) h j o
    at j (no o) h =
        or_right (ltb j k) (eqb (get_or l j 0) 0) (eq-eqb (get_or l j 0) 0 (get_or-eq_default l 0 (omega arith)))

-- ---- from the last entry down

module _ (l : List ℕ) where
  zero-here : (k : ℕ) → zero_from l k ≡ true → (i : ℕ) → k ≤ i → i < length l → eqb (get_or l i 0) 0 ≡ true
  unfolding zero_from
  zero-here k h i m o = elim (either (ltb i k) (eqb (get_or l i 0) 0) (all-at (length l) (zero_at l k) h i o)) [
    | inl a ↦ absurd (let c = ltb-true i k a in omega arith)
    | inr a ↦ a
  ]

  zero-each :
      (k : ℕ) → ((i : ℕ) → k ≤ i → i < length l → eqb (get_or l i 0) 0 ≡ true) → zero_from l k ≡ true
  unfolding zero_from
  zero-each k h =
      all-on (length l) (zero_at l k)
      (λ i o. elim (dec_lt i k) [
        | yes m ↦ or_left (ltb i k) (eqb (get_or l i 0) 0) (lt-ltb i k m)
        | no m ↦ or_right (ltb i k) (eqb (get_or l i 0) 0) (h i (omega arith) o)
      ])

  -- none is left past the end
  pub zero-past : (k : ℕ) → length l ≤ k → true ≡ zero_from l k
  zero-past k m = sym (zero-each k (λ i o p. absurd (omega arith)))

  pub zero-down : (i : ℕ) → i < length l → (zero_from l (i + 1) && eqb (get_or l i 0) 0) ≡ zero_from l i
  zero-down i o =
      same_test (zero_from l (i + 1) && eqb (get_or l i 0) 0) (zero_from l i)
      (λ h.
      let (a, b) = both (zero_from l (i + 1)) (eqb (get_or l i 0) 0) h in
      zero-each i (λ j m p. elim (ℕ_discrete j i) [
        | yes y ↦ rw y b
        | no d ↦ zero-here (i + 1) a j (omega arith) p
      ]))
      (λ h.
      and-on (zero_from l (i + 1)) (eqb (get_or l i 0) 0)
      (zero-each (i + 1) (λ j m p. zero-here i h j (omega arith) p))
      (zero-here i h i (omega arith) o))

  -- ---- by four parts that stand one behind another, the first of them from k on

  abbrev pub zero_four : ℕ → ℕ → ℕ → Bool
  zero_four k part i =
      eqb (get_or l (k + i) 0) 0
      && (eqb (get_or l (k + part + i) 0) 0
      && (eqb (get_or l (k + part + part + i) 0) 0 && eqb (get_or l (k + part + part + part + i) 0) 0))

  pub four-more :
      (k part i : ℕ) →
      (all i (zero_four k part)
      && (eqb (get_or l (k + i) 0) 0 && eqb (get_or l (k + part + i) 0) 0
      && eqb (get_or l (k + part + part + i) 0) 0 && eqb (get_or l (k + part + part + part + i) 0) 0))
      ≡ all (i + 1) (zero_four k part)
  unfolding all
  four-more k part i =
      let a = all i (zero_four k part) in
      let x = eqb (get_or l (k + i) 0) 0 in
      let y = eqb (get_or l (k + part + i) 0) 0 in
      let z = eqb (get_or l (k + part + part + i) 0) 0 in
      let w = eqb (get_or l (k + part + part + part + i) 0) 0 in
      rw add-one (ap (λ (b : Bool). a && b) (and_assoc (x && y) z w ∙ and_assoc x y (z && w)))

  abbrev EachOfFour : ℕ → ℕ → ℕ → Type 0
  EachOfFour k part i =
      (eqb (get_or l (k + i) 0) 0 ≡ true)
      × (eqb (get_or l (k + part + i) 0) 0 ≡ true)
      × (eqb (get_or l (k + part + part + i) 0) 0 ≡ true)
      × (eqb (get_or l (k + part + part + part + i) 0) 0 ≡ true)

  four-at : (k part i : ℕ) → zero_four k part i ≡ true → EachOfFour k part i
  four-at k part i h =
      let y = eqb (get_or l (k + part + i) 0) 0 in
      let z = eqb (get_or l (k + part + part + i) 0) 0 in
      let w = eqb (get_or l (k + part + part + part + i) 0) 0 in
      let (first, more) = both (eqb (get_or l (k + i) 0) 0) (y && (z && w)) h in
      let (second, rest) = both y (z && w) more in
      let (third, fourth) = both z w rest in
      (first, second, third, fourth)

  pub four-end :
      (k part : ℕ) → all part (zero_four k part) ≡ all (k + part + part + part + part) (zero_at l k)
  four-end k part =
      let end = k + part + part + part + part in
      same_test (all part (zero_four k part)) (all end (zero_at l k))
      (λ h. all-on end (zero_at l k) (λ j m. elim (dec_lt j k) [
        | yes o ↦ or_left (ltb j k) (eqb (get_or l j 0) 0) (lt-ltb j k o)
        | no o ↦ or_right (ltb j k) (eqb (get_or l j 0) 0) (at h j (omega arith) m)
      ]))
      (λ h. all-on part (zero_four k part) (λ i m.
      and-on (eqb (get_or l (k + i) 0) 0) _ (zero-below h (k + i) (omega arith) (omega arith))
      (and-on (eqb (get_or l (k + part + i) 0) 0) _ (zero-below h (k + part + i) (omega arith) (omega arith))
      (and-on (eqb (get_or l (k + part + part + i) 0) 0) _
      (zero-below h (k + part + part + i) (omega arith) (omega arith))
      (zero-below h (k + part + part + part + i) (omega arith) (omega arith))))))
    where
      zero-below : all (k + part + part + part + part) (zero_at l k) ≡ true → (i : ℕ) → k ≤ i →
          i < k + part + part + part + part → eqb (get_or l i 0) 0 ≡ true
      zero-below h i m o =
          elim (either (ltb i k) (eqb (get_or l i 0) 0)
          (all-at (k + part + part + part + part) (zero_at l k) h i o)) [
            | inl a ↦ absurd (let c = ltb-true i k a in omega arith)
            | inr a ↦ a
          ]

      each : all part (zero_four k part) ≡ true → (i : ℕ) → i < part → EachOfFour k part i
      each h i m = four-at k part i (all-at part (zero_four k part) h i m)

      at : all part (zero_four k part) ≡ true → (j : ℕ) → k ≤ j → j < k + part + part + part + part →
          eqb (get_or l j 0) 0 ≡ true
      at h j m p = elim (dec_lt j (k + part)) [
        | yes a ↦
            let e : k + (j - k) ≡ j = omega arith in
            rw e at (each h (j - k) (omega arith)).0
        | no a ↦ elim (dec_lt j (k + part + part)) [
          | yes b ↦
              let e : k + part + (j - (k + part)) ≡ j = omega arith in
              rw e at (each h (j - (k + part)) (omega arith)).1
          | no b ↦ elim (dec_lt j (k + part + part + part)) [
            | yes c ↦
                let e : k + part + part + (j - (k + part + part)) ≡ j = omega arith in
                rw e at (each h (j - (k + part + part)) (omega arith)).2
            | no c ↦
                let e : k + part + part + part + (j - (k + part + part + part)) ≡ j = omega arith in
                rw e at (each h (j - (k + part + part + part)) (omega arith)).3
          ]
        ]
      ]

-- ---- by the bits of all together

-- two numbers have no bit between them exactly if both are zero
pub no-bit : (a b : ℕ) → (eqb a 0 && eqb b 0) ≡ eqb (bit_or a b) 0
no-bit a b =
    same_test (eqb a 0 && eqb b 0) (eqb (bit_or a b) 0)
    (λ h.
    let (x, y) = both (eqb a 0) (eqb b 0) h in
    let none : bit_or a b ≡ 0 = rw (eqb-true a 0 x, eqb-true b 0 y) refl in
    eq-eqb (bit_or a b) 0 none)
    (λ h.
    let none : bit_or a b ≡ 0 = eqb-true (bit_or a b) 0 h in
    let sum = or_add_and a b in
    let low = and_le_l a b in
    let low' = and_le_l b a in
    let turned = and_comm a b in
    and-on (eqb a 0) (eqb b 0) (eq-eqb a 0 (omega arith)) (eq-eqb b 0 (omega arith)))

-- one entry more, and one more of each of four parts

pub bits-more :
    (l : List ℕ) (k i bits : ℕ) → k ≤ i → eqb bits 0 ≡ all i (zero_at l k) →
    eqb (bit_or bits (get_or l i 0)) 0 ≡ all (i + 1) (zero_at l k)
bits-more l k i bits m e =
    sym (no-bit bits (get_or l i 0)) ∙ ap (λ (b : Bool). b && eqb (get_or l i 0) 0) e ∙ zero_more l k i m

pub four-bits-more :
    (l : List ℕ) (k part i bits : ℕ) → eqb bits 0 ≡ all i (zero_four l k part) →
    eqb (bit_or bits (bit_or (bit_or (bit_or (get_or l (k + i) 0) (get_or l (k + part + i) 0))
    (get_or l (k + part + part + i) 0)) (get_or l (k + part + part + part + i) 0))) 0
    ≡ all (i + 1) (zero_four l k part)
four-bits-more l k part i bits e =
    rw (
      ← no-bit bits _,
      ← no-bit _ (get_or l (k + part + part + part + i) 0),
      ← no-bit _ (get_or l (k + part + part + i) 0),
      ← no-bit _ (get_or l (k + part + i) 0),
      e,
    )
    (four-more l k part i)
