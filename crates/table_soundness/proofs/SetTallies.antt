-- The tallies by the index of places are the numbers of Sets: where each Set has its Create before it, a Set aimed at a
-- place is a Set on the record there. A larger index tells the same. Assumes nothing.
use mathlib.Core.Path.{◌≡◌, refl, sym, ap, ◌∙◌}
use mathlib.Core.Bool.{Bool, true, false}
use mathlib.Core.Logic.{◌⊎◌, inl, inr}
use mathlib.Core.List.{List}
use Prim.Native.Nat.{ℕ, zero, suc, ◌+◌, ◌≤◌, ◌<◌}
use native.Mathlib.Omega.{arith}
use lib.Dec.{eqb}
use lib.ListN.{length}
use borrow.Author.Tests.{eqb-true, eq-eqb}
use Rattle.edit_walk.specs.WalkForms.{place_of, Indexed}
use Rattle.math_lists.specs.SortedLists.{filter}
use Rattle.math_lists.proofs.Booleans.{decide, same_test, both, and-on}
use Rattle.math_lists.proofs.GrownAtEnd.{filter-snoc}
use Rattle.edit_record.specs.declared.Edit.{Edit}
use Rattle.edit_record.specs.Answer1.{is_set}
use Rattle.edit_history.specs.EditsHeld.{record_at, edits_of, is_set_on, sets_on, most_records}
use Rattle.edit_causal.specs.Causal.{same_edit}
use Rattle.table_soundness.specs.SoundnessForms.{Targeted, Tallied, aims_at, Tallying}

-- ---- tests of records

-- two tests that agree on the first n records choose the same of them
filter-agree :
    (f g : Edit → Bool) (rs : List ℕ) (n : ℕ) →
    ((p : ℕ) → p < n → f (record_at rs p) ≡ g (record_at rs p)) →
    filter f (edits_of rs n) ≡ filter g (edits_of rs n)
unfolding edits_of filter
filter-agree f g rs zero h = refl
filter-agree f g rs (suc n) h =
    filter-snoc f (edits_of rs n) (record_at rs n)
    ∙ rw (filter-agree f g rs n (λ p l. h p (omega arith)), h n (omega arith))
    (sym (filter-snoc g (edits_of rs n) (record_at rs n)))

-- ---- a Set aimed at the place q, and a Set on the record there

module _ (rs ps : List ℕ) (n : ℕ) (index : Indexed rs n ps) (targets : Targeted rs n) where
  aimed_on :
      (q p : ℕ) → p < n → aims_at ps q (record_at rs p) ≡ true →
      is_set_on (record_at rs q).site (record_at rs q).seq (record_at rs p) ≡ true
  aimed_on q p m h =
      let e = record_at rs p in
      let a = record_at rs q in
      let at = place_of ps e.tsite.0 e.tseq.0 in
      let (s, t) = both (is_set e) (eqb at q) h in
      let (k, o, _, u, v) = targets p m s in
      let i : at ≡ k = rw (u, v) at (index k (omega arith)) in
      let j : k ≡ q = sym i ∙ eqb-true at q t in
      and-on (is_set e) (same_edit e.tsite e.tseq a.site a.seq) s
      (and-on (eqb e.tsite.0 a.site.0) (eqb e.tseq.0 a.seq.0)
      (eq-eqb e.tsite.0 a.site.0 (rw j at (sym u)))
      (eq-eqb e.tseq.0 a.seq.0 (rw j at (sym v))))

  on-aimed :
      (q p : ℕ) → q < n → is_set_on (record_at rs q).site (record_at rs q).seq (record_at rs p) ≡ true →
      aims_at ps q (record_at rs p) ≡ true
  on-aimed q p l h =
      let e = record_at rs p in
      let a = record_at rs q in
      let at = place_of ps e.tsite.0 e.tseq.0 in
      let (s, t) = both (is_set e) (same_edit e.tsite e.tseq a.site a.seq) h in
      let (u, v) = both (eqb e.tsite.0 a.site.0) (eqb e.tseq.0 a.seq.0) t in
      and-on (is_set e) (eqb at q) s
      (eq-eqb at q (rw (eqb-true e.tsite.0 a.site.0 u, eqb-true e.tseq.0 a.seq.0 v) (index q l)))

  pub aims-is :
      (q p : ℕ) → q < n → p < n →
      aims_at ps q (record_at rs p) ≡ is_set_on (record_at rs q).site (record_at rs q).seq (record_at rs p)
  aims-is q p l m = same_test _ _ (aimed_on q p m) (on-aimed q p l)

  pub tallied : (ts : List ℕ) → n ≤ most_records → Tallying rs n ps ts → Tallied rs n ts
  unfolding sets_on
  tallied ts l h q m =
      h.1 q (omega arith)
      ∙ ap length
      (filter-agree (aims_at ps q) (is_set_on (record_at rs q).site (record_at rs q).seq) rs n
      (λ p o. aims-is q p m o))

-- ---- a Set's target stands before it, so that the index of the records before the last tells the targets of all

pub tallied-still :
    (rs ps ps' ts : List ℕ) (n : ℕ) → Targeted rs (n + 1) → Indexed rs n ps → Indexed rs n ps' →
    Tallying rs (n + 1) ps ts → Tallying rs (n + 1) ps' ts
tallied-still rs ps ps' ts n targets index index' (l, h) =
    (l, λ p m. h p m ∙ ap length (filter-agree (aims_at ps p) (aims_at ps' p) rs (n + 1) (same p)))
  where
    same : (p q : ℕ) → q < n + 1 → aims_at ps p (record_at rs q) ≡ aims_at ps' p (record_at rs q)
    same p q o = go (decide (is_set (record_at rs q)))
      where
        go : (is_set (record_at rs q) ≡ true) ⊎ (is_set (record_at rs q) ≡ false) →
            aims_at ps p (record_at rs q) ≡ aims_at ps' p (record_at rs q)
        go (inl y) =
            let (k, m, _, u, v) = targets q o y in
            rw (← u, ← v, index k (omega arith), index' k (omega arith))
        go (inr y) = rw y
