-- Document 01's conflicts of a Set e with the Sets ms of its object as a number: one Set more marks the next bit, and
-- where no Set is limited the number is that of the conflicts. Assumes nothing else.
use mathlib.Core.Path.{◌≡◌, refl, ap, ◌∙◌}
use mathlib.Core.Logic.{inl, inr}
use mathlib.Core.Bool.{false, cond}
use mathlib.Core.List.{List, [], ◌∷◌, ◌++◌}
use Prim.Native.Nat.{ℕ, suc, ◌+◌, ◌^◌, ◌<◌}
use native.Mathlib.Omega.{arith}
use lib.ListN.{length, get_or, length-append, get_or-append}
use lib.Seq.{get_or-append_seam}
use Rattle.math_lists.specs.NumbersBelow.{sum, mask}
use Rattle.math_lists.proofs.NumbersBelow.{mask-same, mask-more, mask_below}
use Rattle.math_lists.proofs.LastBelow.{last}
use Rattle.edit_record.specs.declared.Edit.{Edit}
use Rattle.edit_record.specs.RecordBytes.{no_edit}
use Rattle.edit_record.specs.Answer1.{is_limited}
use Rattle.edit_causal.specs.Conflict.{do_conflict, conflicts_in, conflicts_with}
use Rattle.edit_causal.specs.ConflictForms.{plain_marks}
use Rattle.edit_causal.proofs.CausalLaws.{conflict-symmetric}
use Rattle.edit_causal.proofs.ConflictsAmongSets.{conflict-plainly}

module _ (e : Edit) where
  pub none-marked : plain_marks e [] ≡ 0
  unfolding plain_marks mask sum
  none-marked = refl

  -- one Set more marks the next bit, if it conflicts with e
  pub one-more-marked :
      (ms : List Edit) (m : Edit) →
      plain_marks e (ms ++ (m ∷ [])) ≡ plain_marks e ms + cond (do_conflict m e) (2 ^ length ms) 0
  unfolding plain_marks
  one-more-marked ms m =
      let ns = ms ++ (m ∷ []) in
      let k = length ms in
      let f : ℕ → _ = λ i. do_conflict (get_or ns i no_edit) e in
      let long : length ns ≡ suc k = omega (arith, length-append ms (m ∷ [])) in
      ap (λ (n : ℕ). mask n f) long
      ∙ mask-more k f
      ∙ rw (get_or-append_seam ms m [] no_edit)
      (ap (λ (x : ℕ). x + cond (do_conflict m e) (2 ^ k) 0)
      (mask-same k f (λ i. do_conflict (get_or ms i no_edit) e)
      (λ i l. rw (get_or-append ms (m ∷ []) no_edit i l))))

  pub marked-below : (ms : List Edit) → plain_marks e ms < 2 ^ length ms
  unfolding plain_marks
  marked-below ms = mask_below (length ms) (λ i. do_conflict (get_or ms i no_edit) e)

  -- where no Set is limited they are all that conflict
  pub marks-are-all :
      (ms : List Edit) → ((i : ℕ) → i < length ms → is_limited (get_or ms i no_edit) ≡ false) → is_limited e ≡ false →
      conflicts_with e ms ≡ plain_marks e ms
  unfolding conflicts_with plain_marks
  marks-are-all ms none own =
      let ns = ms ++ (e ∷ []) in
      let k = length ms in
      let long : length ns ≡ suc k = omega (arith, length-append ms (e ∷ [])) in
      let none' : (i : ℕ) → i < length ns → is_limited (get_or ns i no_edit) ≡ false
      = λ i l. elim (last (rw long at l)) [
        | inl m ↦ rw (get_or-append ms (e ∷ []) no_edit i m) (none i m)
        | inr q ↦ rw (q, get_or-append_seam ms e [] no_edit) own
      ] in
      mask-same k (conflicts_in ns k) (λ i. do_conflict (get_or ms i no_edit) e)
      (λ i l. conflict-plainly ns none' k i (omega arith) (omega arith)
      ∙ rw (get_or-append_seam ms e [] no_edit, get_or-append ms (e ∷ []) no_edit i l)
      (conflict-symmetric e (get_or ms i no_edit)))
