-- The marks of the Sets before e, by one Set more, and those of the names that e lists. Assumes nothing.
use mathlib.Core.Path.{◌≡◌, sym, ap, subst, ◌∙◌, fun_ext}
use mathlib.Core.Bool.{Bool, true, false, not, ◌&&◌, not-not}
use mathlib.Core.List.{List, [], map}
use Prim.Native.Nat.{ℕ, ◌+◌, ◌^◌, ◌<◌}
use native.Mathlib.Numerals.{add-one}
use native.Mathlib.Omega.{arith}
use lib.Bits.{bit_or, or_lt}
use lib.Dec.{eqb}
use lib.ListN.{length, get_or, take}
use lib.Pow.{pow_pos}
use Rattle.math_lists.specs.NumbersBelow.{mask, some}
use Rattle.math_lists.specs.SortedLists.{any, elem}
use Rattle.math_lists.proofs.Booleans.{same_test}
use Rattle.math_lists.proofs.ByPlaces.{any-place-on, any-place-at}
use Rattle.math_lists.proofs.NumbersBelow.{mask-same, mask_below, some-on, some_at, some_same}
use Rattle.math_maximal.specs.Groups.{bit}
use Rattle.math_maximal.specs.Step.{compatible}
use Rattle.math_maximal.proofs.Bits.{bit-none, bit-or, some-common}
use Rattle.math_maximal.proofs.Masks.{mask-bit}
use Rattle.edit_record.specs.declared.Edit.{Edit}
use Rattle.edit_record.specs.RecordBytes.{no_edit}
use Rattle.edit_record.specs.Answer1.{is_limited, name_of, name_in}
use Rattle.edit_causal.specs.Conflict.{lists, listed_by}
use Rattle.edit_causal.specs.ConflictForms.{saw}
use Rattle.edit_history.specs.Answer16.{is_strange}
use Rattle.group_context.proofs.MaskFromBits.{is-mask}
use Rattle.group_sight.specs.SightForms.{seen_marks, named_marks, marks_of_name, is_unseen}
use Rattle.group_sight.proofs.OneMoreTaken.{any-more}

-- ---- the names that are listed

-- one member more of those that are listed
pub listed_more :
    (ns ms : List ℕ) (k i : ℕ) → i < length ms →
    bit_or (mask k (λ j. elem (get_or ns j 0) (map name_in (take i ms)))) (marks_of_name ns k (name_in (get_or ms i 0)))
    ≡ mask k (λ j. elem (get_or ns j 0) (map name_in (take (i + 1) ms)))
listed_more ns ms k i l =
    let before : ℕ → Bool = λ j. elem (get_or ns j 0) (map name_in (take i ms)) in
    let own : ℕ → Bool = λ j. eqb (get_or ns j 0) (name_in (get_or ms i 0)) in
    is-mask k (bit_or (mask k before) (mask k own)) (λ j. elem (get_or ns j 0) (map name_in (take (i + 1) ms)))
    (or_lt k (mask k before) (mask k own) (mask_below k before) (mask_below k own))
    (λ j m. bit-or (mask k before) (mask k own) j
    ∙ rw (mask-bit k before j m, mask-bit k own j m)
    (sym (rw (add-one i) (any-more name_in 0 ms i l (eqb (get_or ns j 0))))))

-- none where none is listed
pub none-listed : (ns : List ℕ) (k : ℕ) → 0 ≡ mask k (λ j. elem (get_or ns j 0) [])
unfolding any
none-listed ns k =
    is-mask k 0 (λ j. elem (get_or ns j 0) []) (pow_pos k) (λ j m. bit-none j)

module _ (ms : List Edit) (k : ℕ) (long : length ms ≡ k) (e : Edit) where
  pub plain-names-none : is_limited e ≡ false → 0 ≡ named_marks e ms
  unfolding named_marks
  plain-names-none h =
      is-mask (length ms) 0 (λ i. lists e (get_or ms i no_edit)) (pow_pos (length ms)) (λ j m. rw h (bit-none j))

  -- ns has the names of the Sets
  module _ (ns : List ℕ) (named : (i : ℕ) → i < k → get_or ns i 0 ≡ name_of (get_or ms i no_edit)) where
    pub marks-named : is_limited e ≡ true → mask k (λ i. elem (get_or ns i 0) (listed_by e)) ≡ named_marks e ms
    unfolding named_marks
    marks-named h =
        mask-same k (λ i. elem (get_or ns i 0) (listed_by e)) (λ i. lists e (get_or ms i no_edit))
        (λ i l. rw (h, named i l))
        ∙ ap (λ (n : ℕ). mask n (λ i. lists e (get_or ms i no_edit))) (sym long)

    -- by the marks of those that were seen, whether the name x is strange
    module _ (seen : ℕ) (h : seen ≡ seen_marks e ms) where
      strange-by-marks : (x : ℕ) → is_unseen ns k seen x ≡ is_strange ms e x
      unfolding seen_marks
      strange-by-marks x =
          let f : Edit → Bool = λ m. saw e m && eqb (name_of m) x in
          let own = marks_of_name ns k x in
          let small : seen < 2 ^ k = subst (λ (n : ℕ). seen < 2 ^ n) long
          (rw h (mask_below (length ms) (λ j. saw e (get_or ms j no_edit)))) in
          sym (not-not (compatible seen own))
          ∙ ap not
          (sym (some-common k seen own small)
          ∙ some_same k (λ i. bit seen i && bit own i) (λ i. f (get_or ms i no_edit))
          (λ i l. rw (
            h,
            mask-bit (length ms) (λ j. saw e (get_or ms j no_edit)) i (omega (arith, long)),
            mask-bit k (λ j. eqb (get_or ns j 0) x) i l,
            named i l,
          ))
          ∙ same_test (some k (λ i. f (get_or ms i no_edit))) (any f ms)
          (λ t. let (i, l, p) = some_at k (λ i. f (get_or ms i no_edit)) t in
          any-place-on f no_edit ms i (omega (arith, long)) p)
          (λ t. let (i, l, p) = any-place-at f no_edit ms t in
          some-on k (λ i. f (get_or ms i no_edit)) i (omega (arith, long)) p))

      pub any-strange : (xs : List ℕ) → any (is_unseen ns k seen) xs ≡ any (is_strange ms e) xs
      any-strange xs = ap (λ (f : ℕ → Bool). any f xs) (fun_ext strange-by-marks)
