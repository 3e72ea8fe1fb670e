-- The rows of the Sets before Set n, with it marked in those of the members of `row` that have been gone through; the
-- members of `left` are still to come. Assumes nothing.
use mathlib.Core.Path.{◌≡◌, refl, sym, ◌∙◌}
use mathlib.Core.Bool.{true, false}
use mathlib.Core.List.{List}
use Prim.Native.Nat.{ℕ, ◌^◌, ◌<◌}
use native.Mathlib.Decide.{ℕ_discrete}
use lib.Bits.{bit_or}
use lib.ListN.{length, get_or, set}
use lib.Seq.{get_or-set_same, get_or-set_other}
use Rattle.math_lists.proofs.Booleans.{clash}
use Rattle.math_maximal.specs.Groups.{bit}
use Rattle.math_maximal.proofs.Bits.{bit-none}
use Rattle.math_maximal.proofs.OneMemberLess.{fewer, still-left, own-gone, others-left}
use Rattle.group_limited.specs.LimitedForms.{with_mark}

-- of a Set that is still to come, the number is as it was
pub record MarkedBut (left n row : ℕ) (before now : List ℕ) : Type 0 where
  pub part : (i : ℕ) → bit left i ≡ true → bit row i ≡ true
  pub marked : (i : ℕ) → bit left i ≡ false → get_or now i 0 ≡ with_mark n row i (get_or before i 0)
  pub others : (i : ℕ) → bit left i ≡ true → get_or now i 0 ≡ get_or before i 0

-- j is gone through
module _ (left n row j x : ℕ) (before now : List ℕ) (l : j < length now) (m : MarkedBut left n row before now)
    (h : bit left j ≡ true) (e : x ≡ bit_or (get_or now j 0) (2 ^ n)) where
  pub marked-one-more : MarkedBut (fewer left j) n row before (set now j x)
  marked-one-more = record {
    part = λ i b. m.part i (still-left left j i b);
    marked = λ i b. elim (ℕ_discrete i j) [
      | yes q ↦ rw (q, get_or-set_same now j x 0 l, e, m.part j h, m.others j h)
      | no d ↦ get_or-set_other now j i x 0 d ∙ m.marked i (sym (others-left left j i d) ∙ b)
    ];
    others = λ i b. elim (ℕ_discrete i j) [
      | yes q ↦ clash (rw q at b) (own-gone left j)
      | no d ↦ get_or-set_other now j i x 0 d ∙ m.others i (sym (others-left left j i d) ∙ b)
    ];
  }

pub none-marked-yet : (n row : ℕ) (before : List ℕ) → MarkedBut row n row before before
none-marked-yet n row before = record {
  part = λ i b. b;
  marked = λ i b. rw b;
  others = λ i b. refl;
}

pub all-marked :
    (n row left : ℕ) (before now : List ℕ) → left ≡ 0 → MarkedBut left n row before now → (i : ℕ) →
    get_or now i 0 ≡ with_mark n row i (get_or before i 0)
all-marked n row left before now z m i = m.marked i (rw z (bit-none i))
