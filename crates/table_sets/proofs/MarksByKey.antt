-- A Set as one number, and the conflicts of a Set with those before it as one. Assumes nothing.
use mathlib.Core.Path.{◌≡◌, sym, ap, ap₂, ◌∙◌}
use mathlib.Core.Bool.{Bool, false, cond}
use mathlib.Core.List.{List}
use Prim.Native.Nat.{ℕ, zero, suc, ◌+◌, ◌*◌, ◌%◌, ◌^◌, ◌≤◌, ◌<◌}
use native.Mathlib.Nat.{one-mul}
use native.Mathlib.Omega.{arith}
use native.Mathlib.Decide.{ℕ_discrete}
use lib.ListN.{length, get_or, set}
use lib.Pow.{shl_exact}
use lib.Seq.{get_or-set_same, get_or-set_other}
use Rattle.math_lists.specs.NumbersBelow.{mask}
use Rattle.math_lists.proofs.NumbersBelow.{mask-same, mask-more}
use Rattle.edit_record.specs.declared.Edit.{Edit}
use Rattle.edit_record.specs.Layout.{two_bytes, place_length, value_at}
use Rattle.edit_record.specs.RecordBytes.{no_edit, two, four}
use Rattle.edit_record.proofs.NumbersInBytes.{two-drop}
use Rattle.edit_causal.specs.Conflict.{do_conflict}
use Rattle.edit_causal.specs.ConflictForms.{plain_marks}
use Rattle.edit_causal.specs.ShownValue.{shown_value}
use Rattle.edit_history.specs.EditsHeld.{record_at}
use Rattle.edit_history.proofs.EditsInPlaces.{sets-length, set-place}
use Rattle.group_step.specs.GroupRows.{most_sets}
use Rattle.group_sight.specs.SightForms.{sets_in}
use Rattle.table_sets.specs.KeyForms.{set_at, values, ToldAs}
use Rattle.table_sets.specs.MaskForms.{ToldTo}

-- ---- numbers that pass no test are no bits

pub mask-skips :
    (f : ℕ → Bool) (c n : ℕ) → c ≤ n → ((k : ℕ) → c ≤ k → k < n → f k ≡ false) → mask n f ≡ mask c f
mask-skips f c zero l h = let e : c ≡ 0 = omega arith in ap (λ (n : ℕ). mask n f) (sym e)
mask-skips f c (suc n) l h =
    elim (ℕ_discrete c (suc n)) [
      | yes e ↦ ap (λ (m : ℕ). mask m f) (sym e)
      | no d ↦
          (let last : ◌≡◌ {A = ℕ} (cond (f n) (2 ^ n) 0) 0
          = ap (λ (b : Bool). cond b (2 ^ n) 0) (h n (omega (arith, d)) (omega arith)) in
          let rest = mask-skips f c n (omega (arith, d)) (λ k a b. h k a (omega arith)) in
          mask-more n f ∙ omega (arith, last, rest))
    ]

pub shifted_one : (k : ℕ) → k < most_sets → (1 * 2 ^ k) % 2 ^ 64 ≡ 2 ^ k
shifted_one k h = shl_exact {a = 1} 1 k 64 (omega arith) (omega arith) ∙ one-mul (2 ^ k)

-- ---- a Set as one number

pub value-in-place : (rs : List ℕ) (p : ℕ) → (record_at rs p).value ≡ four rs (p * place_length + value_at)
value-in-place rs p =
    let at = p * place_length in
    ap₂ (λ (a b : ℕ). a + b * 65536) (two-drop at rs value_at)
    (two-drop at rs (value_at + 2) ∙ ap (two rs) (omega arith))

pub told_is :
    (e : Edit) (s q v : ℕ) → s ≡ e.site.0 → q ≡ e.seq.0 → v ≡ shown_value e.key e.value → s < 256 →
    q < two_bytes → v < values → ToldAs ((s * two_bytes + q) * values + v) e
told_is e s q v es eq ev ls lq lv = record {
  site = omega (arith, es);
  seq = omega (arith, eq);
  value = omega (arith, ev);
}

-- one Set more is told
pub told_more :
    (rs ps tolds : List ℕ) (i y : ℕ) → ToldTo rs ps i tolds → i < length tolds → ToldAs y (set_at rs ps i) →
    ToldTo rs ps (i + 1) (set tolds i y)
told_more rs ps tolds i y h n told j b = elim (ℕ_discrete j i) [
  | yes e ↦ rw (e, get_or-set_same tolds i y 0 n) told
  | no d ↦ rw (get_or-set_other tolds i j y 0 d) (h j (omega (arith, d)))
]

-- ---- the conflicts of the i-th Set

pub all-marked :
    (rs ps : List ℕ) (i : ℕ) → i ≤ length ps →
    mask i (λ j. do_conflict (set_at rs ps j) (set_at rs ps i)) ≡ plain_marks (set_at rs ps i) (sets_in rs ps i)
unfolding plain_marks
all-marked rs ps i l =
    let e = set_at rs ps i in
    let long = sets-length rs ps i l in
    mask-same i (λ j. do_conflict (set_at rs ps j) e) (λ j. do_conflict (get_or (sets_in rs ps i) j no_edit) e)
    (λ j m. ap (λ (a : Edit). do_conflict a e) (sym (set-place rs ps i l j m)))
    ∙ ap (λ (n : ℕ). mask n (λ j. do_conflict (get_or (sets_in rs ps i) j no_edit) e)) (sym long)
