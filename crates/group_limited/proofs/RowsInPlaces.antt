-- The rows of the Sets in the first places, and what their authors had seen, one Set more at a time. Assumes nothing.
use mathlib.Core.Path.{◌≡◌, refl, sym, ap, ◌∙◌}
use mathlib.Core.Logic.{inl, inr}
use mathlib.Core.List.{List, [], ◌∷◌, ◌++◌}
use Prim.Native.Nat.{ℕ, suc, ◌+◌, ◌%◌, ◌≤◌, ◌<◌}
use native.Mathlib.Numerals.{add-one}
use native.Mathlib.Omega.{arith}
use lib.ListN.{length, get_or, set, length-append, get_or-append}
use lib.Seq.{get_or-append_seam, get_or-set_same, get_or-set_other}
use Rattle.math_lists.specs.NumbersBelow.{mask}
use Rattle.math_lists.proofs.LastBelow.{last}
use Rattle.math_lists.proofs.NumbersBelow.{mask-same}
use Rattle.math_contexts.specs.Contexts.{contexts, context}
use Rattle.edit_record.specs.declared.Edit.{Edit}
use Rattle.edit_record.specs.RecordBytes.{no_edit}
use Rattle.edit_causal.specs.Conflict.{box_on}
use Rattle.edit_causal.specs.ConflictForms.{plain_marks, saw}
use Rattle.edit_history.specs.EditsHeld.{record_at}
use Rattle.edit_history.proofs.EditsInPlaces.{sets-length}
use Rattle.group_limited.specs.LimitedForms.{RowsTell}
use Rattle.group_sight.specs.SightForms.{sets_in, most_recent, seen_marks, SeesTell}
use Rattle.group_sight.proofs.OneMoreTaken.{sets_more}

-- rows of no Set, whatever stands there
pub no_rows : (plains cs : List ℕ) → RowsTell [] plains cs
unfolding contexts
no_rows plains cs = record {
  plainly = record { symmetric = λ i j p q. absurd (omega arith); conflicts = λ i j p q. absurd (omega arith) };
  narrow = λ i p. absurd (omega arith);
  held = refl;
}

-- plains and cs become plains' and cs' where the row and the context of the next Set are put down
pub rows_more :
    (rs ps : List ℕ) (i : ℕ) → i < length ps → (row own : ℕ) (plains cs plains' cs' : List ℕ) →
    let ms = sets_in rs ps i in
    let e = record_at rs (get_or ps i 0) in
    RowsTell ms plains cs → row ≡ plain_marks e ms → own ≡ context (box_on (ms ++ (e ∷ []))) (length ms) →
    ((ms : List Edit) (e : Edit) → length ms ≡ i → RowsTell ms plains cs → row ≡ plain_marks e ms →
    own ≡ context (box_on (ms ++ (e ∷ []))) i → RowsTell (ms ++ (e ∷ [])) plains' cs') →
    RowsTell (sets_in rs ps (i + 1)) plains' cs'
rows_more rs ps i l row own plains cs plains' cs' tell its-row its put =
    let ms = sets_in rs ps i in
    let e = record_at rs (get_or ps i 0) in
    let size = sets-length rs ps i (omega arith) in
    rw (add-one i, sets_more rs ps i l)
    (put ms e size tell its-row (its ∙ ap (context (box_on (ms ++ (e ∷ [])))) size))

-- ---- what was seen

pub none-sees : (sees : List ℕ) → SeesTell [] sees
none-sees sees i l recent = absurd (omega arith)

-- of one Set more, e
pub sees-one-more :
    (ms : List Edit) (e : Edit) (n : ℕ) → length ms ≡ n → (sees : List ℕ) (x : ℕ) → SeesTell ms sees →
    x ≡ seen_marks e ms → most_recent ≤ length sees → SeesTell (ms ++ (e ∷ [])) (set sees (n % most_recent) x)
unfolding seen_marks
sees-one-more ms e n long sees x tell its fits i l recent =
    let size : length ns ≡ suc n = omega (arith, length-append ms (e ∷ []), long) in
    elim (last {i = i} {n = n} (omega (arith, length-append ms (e ∷ []), long))) [
      | inl m ↦
          get_or-set_other sees (n % most_recent) (i % most_recent) x 0 (λ z. omega (arith, z, recent, size, m))
          ∙ tell i (omega arith) (omega (arith, recent, size, long))
          ∙ mask-same i (λ j. saw (get_or ms i no_edit) (get_or ms j no_edit))
          (λ j. saw (get_or ns i no_edit) (get_or ns j no_edit))
          (λ j o. rw (old i m, old j (omega arith)))
      | inr q ↦
          rw q
          (get_or-set_same sees (n % most_recent) x 0 (omega (arith, fits)) ∙ its
          ∙ mask-same (length ms) (λ j. saw e (get_or ms j no_edit)) (λ j. saw (get_or ns n no_edit) (get_or ns j no_edit))
          (λ j o. rw (new, old j (omega arith)))
          ∙ ap (λ (k : ℕ). mask k (λ j. saw (get_or ns n no_edit) (get_or ns j no_edit))) long)
    ]
  where
    ns : List Edit
    ns = ms ++ (e ∷ [])

    old : (i : ℕ) → i < n → get_or ns i no_edit ≡ get_or ms i no_edit
    old i m = get_or-append ms (e ∷ []) no_edit i (omega arith)

    new : get_or ns n no_edit ≡ e
    new = ap (λ (i : ℕ). get_or ns i no_edit) (sym long) ∙ get_or-append_seam ms e [] no_edit

pub sees_more :
    (rs ps : List ℕ) (i : ℕ) → i < length ps → (sees : List ℕ) (x : ℕ) → SeesTell (sets_in rs ps i) sees →
    x ≡ seen_marks (record_at rs (get_or ps i 0)) (sets_in rs ps i) → most_recent ≤ length sees →
    SeesTell (sets_in rs ps (i + 1)) (set sees (i % most_recent) x)
sees_more rs ps i l sees x tell its fits =
    rw (add-one i, sets_more rs ps i l)
    (sees-one-more (sets_in rs ps i) (record_at rs (get_or ps i 0)) i (sets-length rs ps i (omega arith)) sees x tell its
    fits)
