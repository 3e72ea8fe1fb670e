-- The search at a place where the Sets from u on are decided: what is cut off holds no group, what is left at the end
-- is one, and how a Set left out, and one taken in, lead on. Only taking in assumes something of the conflicts.
use mathlib.Core.Path.{◌≡◌, refl, sym, ◌∙◌}
use mathlib.Core.Logic.{inl, inr}
use mathlib.Core.Bool.{Bool, true, false, not, ◌&&◌, ◌||◌}
use mathlib.Core.List.{List}
use Prim.Native.Nat.{ℕ, suc, ◌+◌, ◌-◌, ◌^◌, ◌≤◌, ◌<◌}
use native.Mathlib.Omega.{arith}
use native.Mathlib.Decide.{dec_lt}
use lib.Dec.{eqb, ltb}
use lib.Pow.{pow_pos, pow_mono}
use lib.Bits.{bit_and}
use lib.ListN.{get_or}
use borrow.Author.Tests.{eqb-true, ne_eqb, ltb-true, lt-ltb, le-ltb, not-true}
use Rattle.math_lists.proofs.LastBelow.{last}
use Rattle.math_lists.proofs.Booleans.{clash, decide, off, same_test, both, and-on, either, neither}
use Rattle.math_lists.proofs.Booleans.{or_left, or_right, eqb-self, then-off}
use Rattle.math_maximal.specs.Groups.{bit}
use Rattle.math_maximal.specs.Step.{compatible}
use Rattle.math_maximal.proofs.Bits.{bit-minus, bit-power, bit_high, bit_below, compatible-on, compatible-at}
use Rattle.group_engine.specs.SearchForms.{Conflicts, conflict, is_group, Partial}
use Rattle.group_engine.proofs.BitsFrom.{bit-add, bit-ones, same_above}
use Rattle.group_engine.proofs.MemberByMask.{compatible-part, group_at, group-on}

module _ (ms : List ℕ) (n : ℕ) where
  -- ---- nothing is decided yet

  pub at-start : Partial ms n n 0 (2 ^ n - 1)
  at-start = record {
    within = omega arith;
    bound = omega (arith, pow_pos n);
    undecided = λ i l. none i;
    free = λ i b. clash b (none i);
    may_come = λ i. bit-ones n i ∙ sym (whole (ltb i n) (compatible (get_or ms i 0) 0)
        (compatible-on (get_or ms i 0) 0 0 (omega arith) (λ j b. clash b (none j))));
  }
    where
      none : (i : ℕ) → bit 0 i ≡ false
      none i = bit_high 0 0 (omega arith) i (omega arith)

      whole : (a b : Bool) → b ≡ true → (a && b) ≡ a
      whole true b e = e
      whole false b e = refl

  module _ (u t may : ℕ) (p : Partial ms n u t may) where
    taken-below : t < 2 ^ n
    taken-below = omega (arith, p.within, pow_pos u)

    -- a number that has the bits of t from u on holds all of t
    holds : (g : ℕ) → t ≤ g → g < t + 2 ^ u → (i : ℕ) → bit t i ≡ true → bit g i ≡ true
    holds g a b i h = elim (dec_lt i u) [
      | yes l ↦ clash h (p.undecided i l)
      | no f ↦ same_above u n t g p.within p.undecided a b i (omega arith) ∙ h
    ]

    -- ---- a Set left out that conflicts with none that is in or may come in: no group

    pub stuck-none :
        (i : ℕ) → i < n → u ≤ i → bit t i ≡ false → compatible (get_or ms i 0) t ≡ true →
        compatible (get_or ms i 0) may ≡ true → (g : ℕ) → t ≤ g → g < t + 2 ^ u → is_group ms n g ≡ false
    stuck-none i l o x y z g a b = off (is_group ms n g) (λ m.
        let out = same_above u n t g p.within p.undecided a b i o ∙ x in
        clash (group_at ms n g below m i l ∙ compatible-on (get_or ms i 0) g n below (apart m)) out)
      where
        below : g < 2 ^ n
        below = omega (arith, p.within)

        apart : is_group ms n g ≡ true → (j : ℕ) → bit g j ≡ true → bit (get_or ms i 0) j ≡ false
        apart m j c = elim (dec_lt j u) [
          | yes l ↦ compatible-at (get_or ms i 0) may z j
              (p.may_come j
              ∙ and-on (ltb j u) (compatible (get_or ms j 0) t) (lt-ltb j u l)
              (compatible-part n (get_or ms j 0) t g taken-below (holds g a b)
              (sym (group_at ms n g below m j (bit_below n g below j c)) ∙ c)))
          | no f ↦ compatible-at (get_or ms i 0) t y j
              (sym (same_above u n t g p.within p.undecided a b j (omega arith)) ∙ c)
        ]

    -- ---- none of the last undecided may come in: they are as good as decided

    pub passed_over : (w : ℕ) → w ≤ u → may < 2 ^ w → Partial ms n w t may
    passed_over w l h = record {
      within = omega (arith, p.within, pow_mono l);
      bound = p.bound;
      undecided = λ i k. p.undecided i (omega arith);
      free = p.free;
      may_come = λ i. elim (dec_lt i w) [
        | yes k ↦ p.may_come i ∙ rw (lt-ltb i u (omega arith), lt-ltb i w k)
        | no f ↦ bit_high w may h i (omega arith) ∙ rw (le-ltb i w (omega arith))
      ];
    }

  -- ---- all decided, and each that is left out conflicts with one that is in: a group

  pub is-group :
      (t : ℕ) → Partial ms n 0 t 0 →
      ((i : ℕ) → i < n → bit t i ≡ false → compatible (get_or ms i 0) t ≡ true → ⊥) → is_group ms n t ≡ true
  is-group t p none = group-on ms n t (omega (arith, p.within)) (λ i l. elim (decide (bit t i)) [
    | inl b ↦ b ∙ sym (p.free i b)
    | inr b ↦ b ∙ sym (off (compatible (get_or ms i 0) t) (λ e. absurd (none i l b e)))
  ])

  -- ---- the Set k is decided

  module _ (k t may : ℕ) (p : Partial ms n (suc k) t may) where
    abbrev rest : ℕ
    rest = may - bit_and may (2 ^ k)

    -- of those that may come in, k is none any more
    bit-rest : (i : ℕ) → bit rest i ≡ (ltb i k && compatible (get_or ms i 0) t)
    bit-rest i =
        bit-minus may (2 ^ k) i ∙ rw (bit-power k i, p.may_come i)
        (same_test ((ltb i (suc k) && compatible (get_or ms i 0) t) && not (eqb i k))
        (ltb i k && compatible (get_or ms i 0) t)
        (λ h. let (x, y) = both (ltb i (suc k) && compatible (get_or ms i 0) t) (not (eqb i k)) h in
        let (a, b) = both (ltb i (suc k)) (compatible (get_or ms i 0) t) x in
        and-on (ltb i k) (compatible (get_or ms i 0) t)
        (elim (last (ltb-true i (suc k) a)) [
          | inl l ↦ lt-ltb i k l
          | inr e ↦ clash (rw e (eqb-self k)) (not-true (eqb i k) y)
        ]) b)
        (λ h. let (a, b) = both (ltb i k) (compatible (get_or ms i 0) t) h in
        let l = ltb-true i k a in
        rw (lt-ltb i (suc k) (omega arith), b, ne_eqb i k (λ e. omega arith))))

    pub left_out_lem : Partial ms n k t rest
    left_out_lem = record {
      within = omega (arith, p.within);
      bound = omega (arith, p.bound);
      undecided = λ i l. p.undecided i (omega arith);
      free = p.free;
      may_come = bit-rest;
    }

    below : t < 2 ^ n
    below = omega (arith, p.within, pow_pos k)

    bit_in : (i : ℕ) → bit (t + 2 ^ k) i ≡ (bit t i || eqb i k)
    bit_in = bit-add n k t below (p.undecided k (omega arith))

    in-undecided : (i : ℕ) → i < k → bit (t + 2 ^ k) i ≡ false
    in-undecided i l = bit_in i ∙ rw (p.undecided i (omega arith), ne_eqb i k (λ e. omega arith))

    pub in-has : bit (t + 2 ^ k) k ≡ true
    in-has = bit_in k ∙ or_right (bit t k) (eqb k k) (eqb-self k)

    -- what is left out stays so
    pub still-out : (i : ℕ) → (i ≡ k → ⊥) → bit t i ≡ false → bit (t + 2 ^ k) i ≡ false
    still-out i d h = bit_in i ∙ rw (h, ne_eqb i k d)

    -- what is not in with k was not in, and is not k; what fits with k fitted
    pub neither-in : (i : ℕ) → bit (t + 2 ^ k) i ≡ false → (bit t i ≡ false) × (eqb i k ≡ false)
    neither-in i h = neither (bit t i) (eqb i k) (sym (bit_in i) ∙ h)

    pub fits-less :
        (i : ℕ) → compatible (get_or ms i 0) (t + 2 ^ k) ≡ true → compatible (get_or ms i 0) t ≡ true
    fits-less i = compatible-part n (get_or ms i 0) t (t + 2 ^ k) below
        (λ j x. bit_in j ∙ or_left (bit t j) (eqb j k) x)

    -- k conflicts with one that is in: no group has it with those
    pub no_room :
        bit may k ≡ false → (g : ℕ) → t + 2 ^ k ≤ g → g < t + 2 ^ k + 2 ^ k → is_group ms n g ≡ false
    no_room h g a b = off (is_group ms n g) (λ m.
        clash
        (compatible-part n (get_or ms k 0) t g below part
        (sym (group_at ms n g lg m k (bit_below n g lg k has-k)) ∙ has-k))
        (then-off (ltb k (suc k)) (compatible (get_or ms k 0) t) (lt-ltb k (suc k) (omega arith))
        (sym (p.may_come k) ∙ h)))
      where
        lg : g < 2 ^ n
        lg = omega (arith, p.within)

        above : (i : ℕ) → k ≤ i → bit g i ≡ bit (t + 2 ^ k) i
        above = same_above k n (t + 2 ^ k) g (omega (arith, p.within)) in-undecided a b

        has-k : bit g k ≡ true
        has-k = above k (omega arith) ∙ in-has

        part : (i : ℕ) → bit t i ≡ true → bit g i ≡ true
        part i h = elim (dec_lt i k) [
          | yes l ↦ clash h (p.undecided i (omega arith))
          | no f ↦ above i (omega arith) ∙ bit_in i ∙ or_left (bit t i) (eqb i k) h
        ]

    -- k conflicts with none that is in, and is taken
    module _ (s : Conflicts ms n) (h : bit may k ≡ true) where
      fits-k : compatible (get_or ms k 0) t ≡ true
      fits-k = (both (ltb k (suc k)) (compatible (get_or ms k 0) t) (sym (p.may_come k) ∙ h)).1

      k-below : k < n
      k-below = bit_below n may p.bound k h

      in-below : t + 2 ^ k < 2 ^ n
      in-below = omega (arith, p.within, pow_pos k)

      -- what fits those that are in, and k, fits all
      pub all_fit : (i : ℕ) → compatible (get_or ms i 0) t ≡ true → conflict ms i k ≡ false →
          compatible (get_or ms i 0) (t + 2 ^ k) ≡ true
      all_fit i c e = compatible-on (get_or ms i 0) (t + 2 ^ k) n in-below (λ j b.
          elim (either (bit t j) (eqb j k) (sym (bit_in j) ∙ b)) [
            | inl x ↦ compatible-at (get_or ms i 0) t c j x
            | inr y ↦ rw (eqb-true j k y) e
          ])

      pub taken_in : Partial ms n k (t + 2 ^ k) (rest - bit_and rest (get_or ms k 0))
      taken_in = record {
        within = omega (arith, p.within);
        bound = omega (arith, p.bound);
        undecided = in-undecided;
        free = λ i b. elim (either (bit t i) (eqb i k) (sym (bit_in i) ∙ b)) [
          | inl x ↦ all_fit i (p.free i x)
              (s.turned i k (bit_below n t below i x) k-below ∙ compatible-at (get_or ms k 0) t fits-k i x)
          | inr y ↦ rw (eqb-true i k y) (all_fit k fits-k (s.not_itself k k-below))
        ];
        may_come = λ i. bit-minus rest (get_or ms k 0) i ∙ rw (bit-rest i)
            (same_test ((ltb i k && compatible (get_or ms i 0) t) && not (conflict ms k i))
            (ltb i k && compatible (get_or ms i 0) (t + 2 ^ k))
            (λ e. let (x, y) = both (ltb i k && compatible (get_or ms i 0) t) (not (conflict ms k i)) e in
            let (a, b) = both (ltb i k) (compatible (get_or ms i 0) t) x in
            let l = ltb-true i k a in
            and-on (ltb i k) (compatible (get_or ms i 0) (t + 2 ^ k)) a
            (all_fit i b (s.turned i k (omega (arith, k-below)) k-below ∙ not-true (conflict ms k i) y)))
            (λ e. let (a, b) = both (ltb i k) (compatible (get_or ms i 0) (t + 2 ^ k)) e in
            let l = ltb-true i k a in
            let c : conflict ms k i ≡ false = s.turned k i k-below (omega (arith, k-below))
            ∙ compatible-at (get_or ms i 0) (t + 2 ^ k) b k in-has in
            rw (a, c, fits-less i b)));
      }
