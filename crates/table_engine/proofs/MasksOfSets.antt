-- The masks of a box's Sets by the rows that tell of them, and the groups that they give. Assumes, where it is said,
-- that the Sets are proper, or that none of them conflicts with itself.
use mathlib.Core.Path.{◌≡◌, sym, ap, ap₂, ◌∙◌}
use mathlib.Core.Logic.{inl, inr}
use mathlib.Core.Bool.{Bool, false, cond}
use mathlib.Core.List.{List}
use Prim.Native.Nat.{ℕ, ◌+◌, ◌^◌, ◌≤◌, ◌<◌}
use native.Mathlib.Numerals.{add-one}
use native.Mathlib.Omega.{arith}
use lib.Bits.{bit_or}
use lib.ListN.{length, get_or, take}
use Rattle.math_lists.specs.NumbersBelow.{mask}
use Rattle.math_lists.specs.SortedLists.{any}
use Rattle.math_lists.proofs.Booleans.{clash, off}
use Rattle.math_lists.proofs.ByPlaces.{any-place-on}
use Rattle.math_lists.proofs.LastBelow.{last}
use Rattle.math_lists.proofs.NumbersBelow.{mask-same, mask_below}
use Rattle.math_maximal.specs.Groups.{bit}
use Rattle.math_maximal.proofs.Masks.{mask-by-or, mask-bit}
use Rattle.math_contexts.specs.Box.{Box, Lawful}
use Rattle.math_contexts.specs.Contexts.{contexts, conflicts}
use Rattle.math_contexts.specs.Versions.{AllNamed}
use Rattle.math_contexts.specs.NamedVersions.{conflicts_by, contexts_named}
use Rattle.edit_record.specs.declared.Edit.{Edit}
use Rattle.edit_record.specs.RecordBytes.{no_edit}
use Rattle.edit_record.specs.Answer1.{is_limited}
use Rattle.edit_causal.specs.Conflict.{do_conflict, conflicts_in, box_on}
use Rattle.edit_causal.specs.ConflictForms.{NoneItself, Proper, plain_marks}
use Rattle.edit_causal.proofs.CausalLaws.{conflict-symmetric, conflict-irreflexive}
use Rattle.edit_causal.proofs.ConflictsAmongSets.{conflict-plainly, conflicts-turned}
use Rattle.edit_history.specs.EditsHeld.{record_at}
use Rattle.edit_history.proofs.EditsInPlaces.{set-place, sets-length}
use Rattle.group_true.specs.TrueGroups.{groups_of}
use Rattle.group_context.specs.RowsOfBox.{PlainRows}
use Rattle.group_context.proofs.NamedByRows.{conflict-row-named}
use Rattle.group_engine.specs.SearchForms.{conflict, by_masks, Conflicts}
use Rattle.group_engine.proofs.MasksOfElements.{groups-of-elements, conflicts-of-elements}
use Rattle.group_limited.specs.LimitedForms.{with_mark, RowsTell}
use Rattle.group_sight.specs.SightForms.{sets_in}
use Rattle.table_engine.specs.EngineForms.{MasksTell, MaskedFirst}

-- ---- the k Sets of a box

module _ (xs : List Edit) (k : ℕ) (many : k ≡ length xs) where
  -- their masks by the rows that tell of them
  pub masked :
      Proper xs → (plains cs out : List ℕ) → RowsTell xs plains cs →
      ((b : Box) → PlainRows b k plains → take k cs ≡ contexts b k →
      (i : ℕ) → i < k → get_or out i 0 ≡ mask k (conflicts b i)) →
      MasksTell k xs out
  unfolding conflicts_in
  masked proper plains cs out rows told i l =
      let b = box_on xs in
      let law : Lawful b k = rw many proper.lawful in
      let named : AllNamed b k = rw many proper.named in
      told b (rw many rows.plainly) (rw many rows.held) i l
      ∙ conflict-row-named b k law named i l
      ∙ ap (λ (n : ℕ). mask n (conflicts_by b (contexts_named b n) i)) many

  -- what the masks of all of them tell
  module _ (ms : List ℕ) (h : MasksTell k xs ms) where
    told : (i j : ℕ) → i < length xs → j < length xs → conflict ms i j ≡ conflicts_in xs i j
    told i j a b = rw (h i (omega (arith, many))) (mask-bit (length xs) (conflicts_in xs i) j b)

    pub masks-fit : NoneItself xs → Conflicts ms k
    masks-fit irr =
        rw many (conflicts-of-elements (conflicts_in xs) (length xs) ms told (conflicts-turned xs) irr)

    pub masks-groups : by_masks ms k ≡ groups_of xs
    unfolding groups_of
    masks-groups = ap (by_masks ms) many ∙ groups-of-elements (conflicts_in xs) (length xs) ms told

-- ---- the masks by document 01's conflicts, where none of the Sets in the first k of the places ps is limited

module _ (rs ps : List ℕ) (k : ℕ) (fits : k ≤ length ps) where
  abbrev xs : List Edit
  xs = sets_in rs ps k

  long : length xs ≡ k
  long = sets-length rs ps k fits

  module _ (none : any is_limited xs ≡ false) where
    plain_at : (i : ℕ) → i < length xs → is_limited (get_or xs i no_edit) ≡ false
    plain_at i l = off (is_limited (get_or xs i no_edit)) (λ y. clash (any-place-on is_limited no_edit xs i l y) none)

    conflict-at :
        (i j : ℕ) → i < k → j < k →
        conflicts_in xs i j ≡ do_conflict (record_at rs (get_or ps i 0)) (record_at rs (get_or ps j 0))
    conflict-at i j l m =
        conflict-plainly xs plain_at i j (omega (arith, long)) (omega (arith, long))
        ∙ rw (set-place rs ps k fits i l, set-place rs ps k fits j m)

    -- the marks of those before the i-th are the first bits of its mask
    row_is : (i : ℕ) → i < k → plain_marks (record_at rs (get_or ps i 0)) (sets_in rs ps i) ≡ mask i (conflicts_in xs i)
    unfolding plain_marks
    row_is i l =
        let e = record_at rs (get_or ps i 0) in
        let ms = sets_in rs ps i in
        ap (λ (n : ℕ). mask n (λ j. do_conflict (get_or ms j no_edit) e)) (sets-length rs ps i (omega arith))
        ∙ mask-same i (λ j. do_conflict (get_or ms j no_edit) e) (conflicts_in xs i)
        (λ j m. rw (set-place rs ps i (omega arith) j m)
        (conflict-symmetric (record_at rs (get_or ps j 0)) e ∙ sym (conflict-at i j l (omega arith))))

    pub row_small : (i : ℕ) → i < k → plain_marks (record_at rs (get_or ps i 0)) (sets_in rs ps i) < 2 ^ i
    row_small i l = rw (row_is i l) (mask_below i (conflicts_in xs i))

    -- one mask more, marked in those before it
    module _ (i : ℕ) (l : i < k) (row : ℕ) (its : row ≡ plain_marks (record_at rs (get_or ps i 0)) (sets_in rs ps i))
        (before after : List ℕ) (h : MaskedFirst i xs before)
        (marks : (j : ℕ) → j < i → get_or after j 0 ≡ with_mark i row j (get_or before j 0))
        (own : get_or after i 0 ≡ row) where
      pub masked-more : MaskedFirst (i + 1) xs after
      masked-more j m = elim (last {i = j} {n = i} (omega arith)) [
        | inl q ↦ rw (add-one i)
            (marks j q
            ∙ ap₂ (λ (b : Bool) (g : ℕ). cond b (bit_or g (2 ^ i)) g)
            (ap (λ (g : ℕ). bit g j) (its ∙ row_is i l)
            ∙ mask-bit i (conflicts_in xs i) j q ∙ conflicts-turned xs i j) (h j q)
            ∙ sym (mask-by-or i (conflicts_in xs j)))
        | inr q ↦ rw (q, add-one i)
            (own ∙ its ∙ row_is i l
            ∙ sym (mask-by-or i (conflicts_in xs i)
            ∙ rw (conflict-at i i l l ∙ conflict-irreflexive (record_at rs (get_or ps i 0)))))
      ]
