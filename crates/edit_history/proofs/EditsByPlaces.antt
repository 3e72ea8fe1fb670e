-- The edits in the first n places of a table, one by one: which edit stands where, and what holds between each record
-- and each later one. Assumes nothing.
use mathlib.Core.Path.{◌≡◌, sym, ap, ◌∙◌}
use mathlib.Core.Logic.{◌⊎◌, inl, inr}
use mathlib.Core.List.Memᴰ
use mathlib.Core.List.{List, [], ◌∷◌, ◌++◌}
use Prim.Native.Nat.{ℕ, zero, suc, ◌<◌}
use native.Mathlib.Omega.{arith}
use lib.ListN.{length, get_or, get_or-append}
use lib.Seq.{get_or-append_seam}
use Rattle.math_lists.specs.SortedLists.{Asc}
use Rattle.math_lists.specs.Rearranged.{Mem}
use Rattle.math_lists.proofs.LastBelow.{last}
use Rattle.math_lists.proofs.PairsInList.{pairs-snoc}
use Rattle.edit_record.specs.declared.Edit.{Edit}
use Rattle.edit_history.specs.EditsHeld.{record_at, edits_of}
use Rattle.edit_history.proofs.EditsHeld.{edits-length}

pub edits-at : (d : Edit) (rs : List ℕ) (n j : ℕ) → j < n → get_or (edits_of rs n) j d ≡ record_at rs j
unfolding edits_of
edits-at d rs zero j l = absurd (omega arith)
edits-at d rs (suc n) j l = go (last l) (edits-at d rs n j)
  where
    long : length (edits_of rs n) ≡ n
    long = edits-length rs n

    go : (j < n) ⊎ (j ≡ n) → (j < n → get_or (edits_of rs n) j d ≡ record_at rs j) →
        get_or (edits_of rs n ++ (record_at rs n ∷ [])) j d ≡ record_at rs j
    go (inl m) ih = get_or-append (edits_of rs n) (record_at rs n ∷ []) d j (omega (arith, long)) ∙ ih m
    go (inr e) ih =
        ap (λ (i : ℕ). get_or (edits_of rs n ++ (record_at rs n ∷ [])) i d) (e ∙ sym long)
        ∙ get_or-append_seam (edits_of rs n) (record_at rs n) [] d ∙ ap (record_at rs) (sym e)

module _ (rs : List ℕ) where
  pub edit-in : (k : ℕ) (y : Edit) → Mem y (edits_of rs k) → (p : ℕ) × (p < k) × (y ≡ record_at rs p)
  unfolding edits_of
  edit-in zero y w = absurd (Memᴰ.not-nil w)
  edit-in (suc k) y w =
      elim (Memᴰ.append_cases (edits_of rs k) w) [
        | inl u ↦ (let (p, l, e) = edit-in k y u in (p, omega arith, e))
        | inr v ↦ (k, omega arith, Memᴰ.eq_of_singleton v)
      ]

  -- what holds between each record and each later one holds between the edits
  pub edits-pairs :
      (R : Edit → Edit → Type 0) (k : ℕ) →
      ((p q : ℕ) → p < q → q < k → R (record_at rs p) (record_at rs q)) → Asc R (edits_of rs k)
  unfolding edits_of
  edits-pairs R zero h = tt
  edits-pairs R (suc k) h =
      pairs-snoc R (edits_of rs k) (record_at rs k) (edits-pairs R k (λ p q l m. h p q l (omega arith)))
      (λ y w. let (p, m, e) = edit-in k y w in rw e (h p k m (omega arith)))
