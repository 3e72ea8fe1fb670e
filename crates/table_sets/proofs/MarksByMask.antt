-- The conflicts of a Set with those before it, found among the Sets of its key. Then a Set put among those of its key.
-- Assumes nothing.
use mathlib.Core.Path.{◌≡◌, refl, sym, ap, ◌∙◌}
use mathlib.Core.Bool.{Bool, ◌&&◌, ◌||◌}
use mathlib.Core.List.{List}
use Prim.Native.Nat.{ℕ, ◌+◌, ◌^◌, ◌≤◌, ◌<◌}
use native.Mathlib.Omega.{arith}
use native.Mathlib.Decide.{ℕ_discrete}
use lib.Bits.{bit_or, or_lt}
use lib.Dec.{eqb}
use lib.ListN.{length, get_or, set}
use lib.Pow.{pow-lt}
use lib.Seq.{get_or-set_same, get_or-set_other}
use borrow.Author.Tests.{ne_eqb}
use Rattle.math_lists.specs.NumbersBelow.{mask}
use Rattle.math_lists.proofs.Booleans.{or-false, or_right, eqb-self}
use Rattle.math_maximal.specs.Groups.{bit}
use Rattle.math_maximal.proofs.Bits.{bit_high, bit-or, bit-power}
use Rattle.edit_record.specs.Layout.{keys}
use Rattle.edit_causal.specs.Conflict.{do_conflict}
use Rattle.group_context.proofs.MaskFromBits.{is-mask}
use Rattle.table_sets.specs.KeyForms.{set_at, chain_of, unlike, Tells, ToldAs}
use Rattle.table_sets.specs.MaskForms.{SetsOf, MaskedTo}
use Rattle.table_sets.proofs.MarksByKey.{told_more}

-- those of its key that it is told to be unlike are all that the i-th Set conflicts with
pub among-all :
    (rs ps : List ℕ) (i sets r : ℕ) → ((j : ℕ) → j < i → Tells (set_at rs ps j) (set_at rs ps i)) →
    SetsOf rs ps (chain_of (set_at rs ps i)) i sets → r ≤ sets →
    ((j : ℕ) → bit r j ≡ (bit sets j && unlike (set_at rs ps j) (set_at rs ps i))) →
    r ≡ mask i (λ j. do_conflict (set_at rs ps j) (set_at rs ps i))
among-all rs ps i sets r tells s l h =
    is-mask i r (λ j. do_conflict (set_at rs ps j) (set_at rs ps i)) (omega (arith, s.low))
    (λ j m. h j
    ∙ ap (λ (b : Bool). b && unlike (set_at rs ps j) (set_at rs ps i)) (s.own j m)
    ∙ sym (tells j m))

-- ---- the i-th Set put among those of its key

pub masked-none : (rs ps sets tolds : List ℕ) → ((x : ℕ) → x < keys → get_or sets x 0 ≡ 0) → MaskedTo rs ps 0 sets tolds
masked-none rs ps sets tolds h = record {
  keyed = λ x l. record { low = omega (arith, h x l); own = λ j m. absurd (omega arith) };
  told = λ j l. absurd (omega arith);
}

module _ (rs ps : List ℕ) (x i s : ℕ) (h : SetsOf rs ps x i s) where
  -- it has another key
  other-more : (chain_of (set_at rs ps i) ≡ x → ⊥) → SetsOf rs ps x (i + 1) s
  other-more d = record {
    low = omega (arith, h.low, pow-lt {i = i} {j = i + 1} (omega arith));
    own =
        λ j m. elim (ℕ_discrete j i) [
          | yes e ↦ rw e (bit_high i s h.low i (omega arith) ∙ sym (ne_eqb (chain_of (set_at rs ps i)) x d))
          | no f ↦ h.own j (omega (arith, f))
        ];
  }

  -- it has this key
  own-more : chain_of (set_at rs ps i) ≡ x → SetsOf rs ps x (i + 1) (bit_or s (2 ^ i))
  own-more q = record {
    low =
        let more = pow-lt {i = i} {j = i + 1} (omega arith) in
        or_lt (i + 1) s (2 ^ i) (omega (arith, h.low, more)) more;
    own =
        λ j m. bit-or s (2 ^ i) j
        ∙ ap (λ (b : Bool). bit s j || b) (bit-power i j)
        ∙ elim (ℕ_discrete j i) [
          | yes e ↦ rw (e, q, eqb-self x) (or_right (bit s i) (eqb i i) (eqb-self i))
          | no f ↦
              ap (λ (b : Bool). bit s j || b) (ne_eqb j i f) ∙ or-false (bit s j) ∙ h.own j (omega (arith, f))
        ];
  }

module _ (rs ps sets tolds : List ℕ) (i y : ℕ) (h : MaskedTo rs ps i sets tolds)
    (l : keys ≤ length sets) (n : i < length tolds) (told : ToldAs y (set_at rs ps i)) where
  abbrev own : ℕ
  own = chain_of (set_at rs ps i)

  pub masked-more : MaskedTo rs ps (i + 1) (set sets own (bit_or (get_or sets own 0) (2 ^ i))) (set tolds i y)
  masked-more = record {
    keyed =
        λ x b. elim (ℕ_discrete x own) [
          | yes e ↦
              rw (e, get_or-set_same sets own (bit_or (get_or sets own 0) (2 ^ i)) 0 (omega arith))
              (own-more rs ps own i (get_or sets own 0) (h.keyed own (omega arith)) refl)
          | no d ↦
              rw (get_or-set_other sets own x (bit_or (get_or sets own 0) (2 ^ i)) 0 d)
              (other-more rs ps x i (get_or sets x 0) (h.keyed x b) (λ q. d (sym q)))
        ];
    told = told_more rs ps tolds i y h.told n told;
  }
