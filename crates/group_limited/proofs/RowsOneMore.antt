-- The rows of the Sets ms with those of one Set more, e. Assumes nothing.
use mathlib.Core.Path.{◌≡◌, refl, sym, ap, ◌∙◌}
use mathlib.Core.Logic.{◌⊎◌, inl, inr}
use mathlib.Core.Bool.{Bool, true, false, cond, or-false}
use mathlib.Core.List.{List, [], ◌∷◌, ◌++◌}
use Prim.Native.Nat.{ℕ, suc, ◌^◌, ◌≤◌, ◌<◌}
use native.Mathlib.Omega.{arith}
use lib.Bits.{bit_or, or_lt}
use lib.Dec.{eqb}
use lib.ListN.{length, get_or, take, set, length-append, get_or-append}
use lib.Pow.{pow_pos, pow_mono}
use lib.Seq.{get_or-append_seam}
use borrow.Author.Tests.{ne_eqb}
use Rattle.math_lists.proofs.Booleans.{eqb-self, or_right}
use Rattle.math_lists.proofs.LastBelow.{last}
use Rattle.math_maximal.specs.Groups.{bit}
use Rattle.math_maximal.proofs.Bits.{bit_high, bit-or, bit-power}
use Rattle.math_maximal.proofs.Masks.{mask-bit}
use Rattle.math_contexts.specs.BoxByArrival.{rel}
use Rattle.math_contexts.specs.Contexts.{contexts, context}
use Rattle.math_contexts.proofs.BoxGrows.{contexts-keep}
use Rattle.edit_record.specs.declared.Edit.{Edit}
use Rattle.edit_record.specs.RecordBytes.{no_edit}
use Rattle.edit_record.specs.Answer1.{is_limited}
use Rattle.edit_causal.specs.Conflict.{do_conflict, lists, box_on}
use Rattle.edit_causal.specs.ConflictForms.{plain_marks, saw}
use Rattle.edit_causal.proofs.CausalLaws.{conflict-symmetric, conflict-irreflexive}
use Rattle.edit_causal.proofs.PlainMarks.{marked-below}
use Rattle.group_context.specs.RowsOfBox.{PlainRows}
use Rattle.group_context.proofs.RowsOfArrival.{one-context-more}
use Rattle.group_limited.specs.LimitedForms.{with_mark, RowsTell}

-- ---- a number with its mark

module _ (n row i g : ℕ) where
  marks-own : bit g n ≡ false → bit (with_mark n row i g) n ≡ bit row i
  marks-own h = go (bit row i)
    where
      go : (t : Bool) → bit (cond t (bit_or g (2 ^ n)) g) n ≡ t
      go true = bit-or g (2 ^ n) n ∙ rw (bit-power n n) (or_right (bit g n) (eqb n n) (eqb-self n))
      go false = h

  marks-others : (j : ℕ) → (j ≡ n → ⊥) → bit (with_mark n row i g) j ≡ bit g j
  marks-others j d = go (bit row i)
    where
      go : (t : Bool) → bit (cond t (bit_or g (2 ^ n)) g) j ≡ bit g j
      go true = bit-or g (2 ^ n) j ∙ rw (bit-power n j, ne_eqb j n d) (or-false (bit g j))
      go false = refl

  mark-below : g < 2 ^ n → with_mark n row i g < 2 ^ suc n
  mark-below l = go (bit row i)
    where
      go : (t : Bool) → cond t (bit_or g (2 ^ n)) g < 2 ^ suc n
      go true = or_lt (suc n) g (2 ^ n) (omega arith) (omega (arith, pow_pos n))
      go false = omega arith

-- ---- the rows

module _ (ms : List Edit) (e : Edit) (n : ℕ) (long : length ms ≡ n) (plains cs marked : List ℕ) (row own : ℕ)
    (tell : RowsTell ms plains cs) (its-row : row ≡ plain_marks e ms)
    (marks : (i : ℕ) → i < n → get_or marked i 0 ≡ with_mark n row i (get_or plains i 0)) (own_row : get_or marked n 0 ≡ row)
  where
    abbrev ns : List Edit
    ns = ms ++ (e ∷ [])

    -- which Set is which
    old : (i : ℕ) → i < n → get_or ns i no_edit ≡ get_or ms i no_edit
    old i l = get_or-append ms (e ∷ []) no_edit i (omega arith)

    new : get_or ns n no_edit ≡ e
    new = ap (λ (i : ℕ). get_or ns i no_edit) (sym long) ∙ get_or-append_seam ms e [] no_edit

    -- what the row says
    row_at : (i : ℕ) → i < n → bit row i ≡ do_conflict (get_or ms i no_edit) e
    unfolding plain_marks
    row_at i l = rw its-row (mask-bit (length ms) (λ j. do_conflict (get_or ms j no_edit) e) i (omega arith))

    row-own : bit row n ≡ false
    row-own = rw its-row (bit_high (length ms) (plain_marks e ms) (marked-below e ms) n (omega arith))

    small : (i : ℕ) → i < n → get_or plains i 0 < 2 ^ n
    small i l = rw long at (tell.narrow i (omega arith))

    free : (i : ℕ) → i < n → bit (get_or plains i 0) n ≡ false
    free i l = bit_high n (get_or plains i 0) (small i l) n (omega arith)

    rows-narrow : (i : ℕ) → i < suc n → get_or marked i 0 < 2 ^ suc n
    rows-narrow i l = elim (last l) [
      | inl p ↦ rw (marks i p) (mark-below n row i (get_or plains i 0) (small i p))
      | inr q ↦ rw (q, own_row, its-row) (omega (arith, long, marked-below e ms, pow-lt-suc))
    ]
      where
        pow-lt-suc : 2 ^ length ms ≤ 2 ^ suc n
        pow-lt-suc = pow_mono (omega arith)

    says :
        (i j : ℕ) → i < suc n → j < suc n → bit (get_or marked i 0) j ≡ do_conflict (get_or ns i no_edit) (get_or ns j no_edit)
    unfolding rel
    says i j l m = go (last l) (last m)
      where
        go : (i < n) ⊎ (i ≡ n) → (j < n) ⊎ (j ≡ n) →
            bit (get_or marked i 0) j ≡ do_conflict (get_or ns i no_edit) (get_or ns j no_edit)
        go (inl p) (inl q) =
            rw (marks i p, old i p, old j q)
            (marks-others n row i (get_or plains i 0) j (λ z. omega arith)
            ∙ tell.plainly.conflicts i j (omega arith) (omega arith))
        go (inl p) (inr q) =
            rw (q, marks i p, old i p, new) (marks-own n row i (get_or plains i 0) (free i p) ∙ row_at i p)
        go (inr p) (inl q) =
            rw (p, own_row, old j q, new)
            (row_at j q ∙ conflict-symmetric (get_or ms j no_edit) e)
        go (inr p) (inr q) =
            rw (p, q, own_row, new) (row-own ∙ sym (conflict-irreflexive e))

    rows-plain : PlainRows (box_on ns) (suc n) marked
    unfolding rel
    rows-plain = record {
      symmetric = λ i j p q. conflict-symmetric (get_or ns i no_edit) (get_or ns j no_edit);
      conflicts = says;
    }

    held_more : n < length cs → own ≡ context (box_on ns) n → take (suc n) (set cs n own) ≡ contexts (box_on ns) (suc n)
    held_more l h =
        one-context-more (box_on ns) cs n own l
        (rw (← long) (tell.held ∙ sym (contexts-keep no_edit do_conflict saw lists is_limited ms (e ∷ [])))) h

    pub tell-one-more : n < length cs → own ≡ context (box_on ns) n → RowsTell ns marked (set cs n own)
    tell-one-more l h =
        let more : length ns ≡ suc n = omega (arith, length-append ms (e ∷ [])) in
        record { plainly = rw more rows-plain; narrow = rw more rows-narrow; held = rw more (held_more l h) }
