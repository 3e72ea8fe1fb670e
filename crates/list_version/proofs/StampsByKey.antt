-- The Sets of each key, and the peaks among them, one Set after another. Assumes nothing.
use mathlib.Core.Path.{◌≡◌, sym, ap, subst, ◌∙◌}
use mathlib.Core.Bool.{Bool, true, ◌&&◌, ◌||◌, and-false}
use mathlib.Core.Logic.{◌⊎◌, inl, inr}
use mathlib.Core.List.{List}
use Prim.Native.Nat.{ℕ, ◌+◌, ◌/◌, ◌^◌, ◌≤◌, ◌<◌}
use native.Mathlib.Omega.{arith}
use native.Mathlib.Decide.{ℕ_discrete, dec_lt}
use lib.Bits.{bit_or}
use lib.Dec.{eqb, ltb}
use lib.ListN.{length, get_or, set, replicate, get_or-replicate}
use lib.Seq.{get_or-set_same, get_or-set_other}
use borrow.Author.Tests.{ne_eqb, lt-ltb, le-ltb, eqb-true}
use Rattle.math_lists.proofs.Booleans.{clash, either, and-true, or-false, eqb-self, eqb_comm}
use Rattle.edit_record.specs.Layout.{keys}
use Rattle.math_maximal.specs.Groups.{bit}
use Rattle.math_maximal.proofs.Bits.{bit-none, bit-or, bit-power}
use Rattle.list_version.specs.VersionForms.{placings, KeyedTo}

pub keyed-none :
    (stamps by tops : List ℕ) → by ≡ replicate keys 0 → KeyedTo stamps by tops 0 0
keyed-none stamps by tops e = record {
  keyed = record {
    own =
        λ k i l. ap (λ (b : List ℕ). bit (get_or b k 0) i) e ∙ ap (λ (x : ℕ). bit x i) (get_or-replicate keys k 0 0 l)
        ∙ bit-none i
        ∙ sym (ap (λ (b : Bool). b && eqb (get_or stamps i 0 / placings) k) (le-ltb i 0 (omega arith)));
    peak = λ i j b l q. absurd (clash b (bit-none i));
    low = λ i b. absurd (clash b (bit-none i));
  };
  top = λ j l. absurd (omega arith);
}

-- one Set more, with the stamp s
module _ (stamps by tops : List ℕ) (peaks n s : ℕ) (fits : n < length stamps) (keyed-long : length by ≡ keys)
    (small : s / placings < keys) (h : KeyedTo stamps by tops peaks n) where
  abbrev own_key : ℕ
  own_key = s / placings

  abbrev after : List ℕ
  after = set stamps n s

  abbrev by' : List ℕ
  by' = set by own_key (bit_or (get_or by own_key 0) (2 ^ n))

  here : get_or after n 0 ≡ s
  here = get_or-set_same stamps n s 0 fits

  others : (i : ℕ) → (i ≡ n → ⊥) → get_or after i 0 ≡ get_or stamps i 0
  others i d = get_or-set_other stamps n i s 0 d

  below_more : (i : ℕ) → (i ≡ n → ⊥) → ltb i (n + 1) ≡ ltb i n
  below_more i d = elim (dec_lt i n) [
    | yes l ↦ lt-ltb i (n + 1) (omega arith) ∙ sym (lt-ltb i n l)
    | no l ↦ le-ltb i (n + 1) (omega (arith, d)) ∙ sym (le-ltb i n (omega arith))
  ]

  own-more :
      (k i : ℕ) → k < keys → bit (get_or by' k 0) i ≡ (ltb i (n + 1) && eqb (get_or after i 0 / placings) k)
  own-more k i l = in_row ∙ old (ℕ_discrete i n)
    where
      was : bit (get_or by k 0) i ≡ (ltb i n && eqb (get_or stamps i 0 / placings) k)
      was = h.keyed.own k i l

      in_row : bit (get_or by' k 0) i ≡ (bit (get_or by k 0) i || eqb k own_key && eqb i n)
      in_row = elim (ℕ_discrete k own_key) [
        | yes q ↦
            rw (
              q,
              get_or-set_same by own_key (bit_or (get_or by own_key 0) (2 ^ n)) 0 (omega (arith, keyed-long)),
              bit-or (get_or by own_key 0) (2 ^ n) i,
              bit-power n i,
              eqb-self own_key,
            )
        | no f ↦
            rw (get_or-set_other by own_key k (bit_or (get_or by own_key 0) (2 ^ n)) 0 f, ne_eqb k own_key f)
            (sym (or-false (bit (get_or by k 0) i)))
      ]

      old : Dec (i ≡ n) →
          (bit (get_or by k 0) i || eqb k own_key && eqb i n) ≡ (ltb i (n + 1) && eqb (get_or after i 0 / placings) k)
      old (yes e) =
          rw (was, e, le-ltb n n (omega arith), lt-ltb n (n + 1) (omega arith), eqb-self n, here)
          (and-true (eqb k own_key) ∙ eqb_comm k own_key)
      old (no d) =
          rw (was, ne_eqb i n d, below_more i d, others i d)
          (ap (λ (b : Bool). (ltb i n && eqb (get_or stamps i 0 / placings) k) || b) (and-false (eqb k own_key))
          ∙ or-false (ltb i n && eqb (get_or stamps i 0 / placings) k))

  -- a member that was: its stamp and those before it are as they were
  kept-peak :
      (i j : ℕ) → bit peaks i ≡ true → j < i → get_or after j 0 / placings ≡ get_or after i 0 / placings →
      get_or after j 0 ≤ get_or after i 0
  kept-peak i j b l q =
      let low = h.keyed.low i b in
      let ei = others i (λ e. omega arith) in
      let ej = others j (λ e. omega arith) in
      let same = ap (λ (x : ℕ). x / placings) (sym ej) ∙ q ∙ ap (λ (x : ℕ). x / placings) ei in
      omega (arith, ei, ej, h.keyed.peak i j b l same)

  old-top : (j : ℕ) → j < n → get_or after j 0 ≤ get_or tops (get_or after j 0 / placings) 0
  old-top j l = rw (others j (λ e. omega arith)) (h.top j l)

  pub keyed-below : s ≤ get_or tops own_key 0 → KeyedTo after by' tops peaks (n + 1)
  keyed-below le = record {
    keyed = record {
      own = own-more;
      peak = kept-peak;
      low = λ i b. omega (arith, h.keyed.low i b);
    };
    top = λ j l. elim (ℕ_discrete j n) [
      | yes e ↦ rw (e, here) le
      | no d ↦ old-top j (omega (arith, d))
    ];
  }

  pub keyed-above :
      length tops ≡ keys → get_or tops own_key 0 < s →
      KeyedTo after by' (set tops own_key s) (bit_or peaks (2 ^ n)) (n + 1)
  keyed-above long lt = record {
    keyed = record { own = own-more; peak = peak; low = low };
    top = λ j l. elim (ℕ_discrete j n) [
      | yes e ↦ rw (e, here, get_or-set_same tops own_key s 0 (omega (arith, long))) (omega arith)
      | no d ↦ top_kept j (omega (arith, d))
    ];
  }
    where
      in-new : (i : ℕ) → bit (bit_or peaks (2 ^ n)) i ≡ true → (bit peaks i ≡ true) ⊎ (i ≡ n)
      in-new i b = elim (either (bit peaks i) (eqb i n) (sym (bit-or peaks (2 ^ n) i ∙ rw (bit-power n i)) ∙ b)) [
        | inl p ↦ inl p
        | inr q ↦ inr (eqb-true i n q)
      ]

      -- no stamp of its key is above s
      top_kept : (j : ℕ) → j < n → get_or after j 0 ≤ get_or (set tops own_key s) (get_or after j 0 / placings) 0
      top_kept j l = elim (ℕ_discrete (get_or after j 0 / placings) own_key) [
        | yes q ↦
            rw (q, get_or-set_same tops own_key s 0 (omega (arith, long)))
            (omega (arith, lt, subst (λ (k : ℕ). get_or after j 0 ≤ get_or tops k 0) q (old-top j l)))
        | no f ↦ rw (get_or-set_other tops own_key (get_or after j 0 / placings) s 0 f) (old-top j l)
      ]

      peak :
          (i j : ℕ) → bit (bit_or peaks (2 ^ n)) i ≡ true → j < i →
          get_or after j 0 / placings ≡ get_or after i 0 / placings → get_or after j 0 ≤ get_or after i 0
      peak i j b l q = elim (in-new i b) [
        | inl p ↦ kept-peak i j p l q
        | inr e ↦
            let own : get_or after i 0 ≡ s = ap (λ (x : ℕ). get_or after x 0) e ∙ here in
            let key : get_or after j 0 / placings ≡ own_key = q ∙ ap (λ (x : ℕ). x / placings) own in
            omega (arith, own, lt, subst (λ (k : ℕ). get_or after j 0 ≤ get_or tops k 0) key (old-top j (omega (arith, e))))
      ]

      low : (i : ℕ) → bit (bit_or peaks (2 ^ n)) i ≡ true → i < n + 1
      low i b = elim (in-new i b) [
        | inl p ↦ omega (arith, h.keyed.low i p)
        | inr e ↦ omega (arith, e)
      ]
