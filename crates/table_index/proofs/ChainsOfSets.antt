-- The chain of an object's Sets of one key: its latest place, and whether one of the object's Sets is limited, after
-- one record more; and the marks of those in conflict with an edit, found along the chain from its head back. Assumes
-- nothing.
use mathlib.Core.Path.{◌≡◌, refl, sym, ap, ◌∙◌}
use mathlib.Core.Logic.{inl, inr}
use mathlib.Core.Bool.{Bool, true, false, ◌||◌, cond, and-false}
use mathlib.Core.List.{List, [], ◌∷◌, map, map-append}
use Prim.Native.Nat.{ℕ, zero, suc, ◌+◌, ◌^◌, ◌<◌}
use native.Mathlib.Omega.{arith}
use lib.Dec.{eqb}
use lib.ListN.{length, length-map}
use borrow.Author.Tests.{eq-eqb}
use Rattle.math_lists.specs.NumbersBelow.{keep}
use Rattle.math_lists.specs.SortedLists.{any}
use Rattle.math_lists.proofs.Booleans.{clash, decide, both, and-on}
use Rattle.math_lists.proofs.GrownAtEnd.{any_snoc}
use Rattle.edit_record.specs.declared.Edit.{Edit}
use Rattle.edit_record.specs.Answer1.{is_set, is_limited}
use Rattle.edit_causal.specs.Conflict.{do_conflict}
use Rattle.edit_causal.specs.ConflictForms.{plain_marks}
use Rattle.edit_causal.proofs.PlainMarks.{none-marked, one-more-marked}
use Rattle.edit_history.specs.EditsHeld.{record_at}
use Rattle.table_index.specs.IndexForms.{is_on, places_on, is_keyed, latest_on, limited_on, marks_on}
use Rattle.table_index.proofs.MarksInPlaces.{keys-differ}
use Rattle.table_index.proofs.PlacesOfSets.{places-added, places-stay, places-none}

module _ (rs : List ℕ) (q : ℕ) where
  -- ---- the latest place

  latest-more : (y n : ℕ) → latest_on rs q y (suc n) ≡ cond (is_keyed rs q y n) n (latest_on rs q y n)
  unfolding latest_on
  latest-more y n = refl

  pub latest-here : (y n : ℕ) → is_keyed rs q y n ≡ true → latest_on rs q y (suc n) ≡ n
  latest-here y n h = latest-more y n ∙ rw h

  pub latest-before : (y n : ℕ) → is_keyed rs q y n ≡ false → latest_on rs q y (suc n) ≡ latest_on rs q y n
  latest-before y n h = latest-more y n ∙ rw h

  pub latest-stays : (y n : ℕ) → is_on rs q n ≡ false → latest_on rs q y (suc n) ≡ latest_on rs q y n
  latest-stays y n h = latest-before y n (rw h)

  pub latest-none : (y n : ℕ) → ((p : ℕ) → p < n → is_on rs q p ≡ false) → latest_on rs q y n ≡ 0
  unfolding latest_on
  latest-none y zero h = refl
  latest-none y (suc n) h = latest-stays y n (h n (omega arith)) ∙ latest-none y n (λ p l. h p (omega arith))

  pub latest-low : (y n : ℕ) → 0 < n → latest_on rs q y n < n
  unfolding latest_on
  latest-low y zero l = absurd (omega arith)
  latest-low y (suc n) l = go (is_keyed rs q y n) n (latest-low y n)
    where
      go : (b : Bool) (n : ℕ) → (0 < n → latest_on rs q y n < n) → cond b n (latest_on rs q y n) < suc n
      go true n ih = omega arith
      go false zero ih = omega arith
      go false (suc n) ih = omega (arith, ih (omega arith))

  -- ---- a limited one

  pub limited-added :
      (n : ℕ) → is_on rs q n ≡ true → limited_on rs q (suc n) ≡ (limited_on rs q n || is_limited (record_at rs n))
  unfolding limited_on
  limited-added n h =
      ap (λ (l : List ℕ). any is_limited (map (record_at rs) l)) (places-added rs q n h)
      ∙ ap (any is_limited) (map-append (record_at rs) (places_on rs n q) (n ∷ []))
      ∙ any_snoc is_limited (map (record_at rs) (places_on rs n q)) (record_at rs n)

  pub limited-stays : (n : ℕ) → is_on rs q n ≡ false → limited_on rs q (suc n) ≡ limited_on rs q n
  unfolding limited_on
  limited-stays n h = ap (λ (l : List ℕ). any is_limited (map (record_at rs) l)) (places-stay rs q n h)

  pub limited-none : (n : ℕ) → ((p : ℕ) → p < n → is_on rs q p ≡ false) → limited_on rs q n ≡ false
  unfolding limited_on any
  limited-none n h = ap (λ (l : List ℕ). any is_limited (map (record_at rs) l)) (places-none rs q n h)

  -- ---- the marks

  module _ (e : Edit) where
    marks-added :
        (n : ℕ) → is_on rs q n ≡ true →
        marks_on rs (suc n) q e
        ≡ marks_on rs n q e + cond (do_conflict (record_at rs n) e) (2 ^ length (places_on rs n q)) 0
    marks-added n h =
        ap (λ (l : List ℕ). plain_marks e (map (record_at rs) l)) (places-added rs q n h)
        ∙ ap (plain_marks e) (map-append (record_at rs) (places_on rs n q) (n ∷ []))
        ∙ one-more-marked e (map (record_at rs) (places_on rs n q)) (record_at rs n)
        ∙ ap
        (λ (k : ℕ). marks_on rs n q e + cond (do_conflict (record_at rs n) e) (2 ^ k) 0)
        (length-map (places_on rs n q) (record_at rs))

    -- an edit that is in conflict with none has no marks: one that is no Set is such a one
    pub marks-apart : (n : ℕ) → ((p : ℕ) → p < n → do_conflict (record_at rs p) e ≡ false) → marks_on rs n q e ≡ 0
    unfolding places_on keep
    marks-apart zero h = none-marked e
    marks-apart (suc n) h = elim (decide (is_on rs q n)) [
      | inl on ↦ marks-added n on ∙ rw (h n (omega arith)) (omega (arith, marks-apart n (λ p l. h p (omega arith))))
      | inr none ↦
          ap (λ (l : List ℕ). plain_marks e (map (record_at rs) l)) (places-stay rs q n none)
          ∙ marks-apart n (λ p l. h p (omega arith))
    ]

    pub marks-unset : (n : ℕ) → is_set e ≡ false → marks_on rs n q e ≡ 0
    marks-unset n h = marks-apart n (λ p l. rw (h, and-false (is_set (record_at rs p))))

    -- a Set of another key, and what is no Set on the Create, marks nothing
    marks_stay : (n : ℕ) → is_keyed rs q e.key n ≡ false → marks_on rs (suc n) q e ≡ marks_on rs n q e
    marks_stay n h = elim (decide (is_on rs q n)) [
      | inl on ↦
          (let other : do_conflict (record_at rs n) e ≡ false
          = sym (keys-differ (record_at rs n) e (λ k. clash
          (and-on (is_on rs q n) (eqb (record_at rs n).key e.key) on (eq-eqb (record_at rs n).key e.key k)) h)) in
          marks-added n on ∙ rw other (omega arith))
      | inr none ↦ ap (λ (l : List ℕ). plain_marks e (map (record_at rs) l)) (places-stay rs q n none)
    ]

    -- one link back
    pub record Down (m p : ℕ) : Type 0 where
      pub low : p < m
      pub keyed : is_keyed rs q e.key p ≡ true
      pub marks :
          marks_on rs m q e
          ≡ marks_on rs p q e + cond (do_conflict (record_at rs p) e) (2 ^ length (places_on rs p q)) 0

    pub marks-down : (m : ℕ) → 0 < latest_on rs q e.key m → Down m (latest_on rs q e.key m)
    unfolding latest_on
    marks-down zero l = absurd (omega arith)
    marks-down (suc m) l = go (is_keyed rs q e.key m) refl l (marks-down m)
      where
        go : (b : Bool) → is_keyed rs q e.key m ≡ b → 0 < cond b m (latest_on rs q e.key m) →
            (0 < latest_on rs q e.key m → Down m (latest_on rs q e.key m)) →
            Down (suc m) (cond b m (latest_on rs q e.key m))
        go true h l ih =
            record {
              low = omega arith;
              keyed = h;
              marks = marks-added m (both (is_on rs q m) (eqb (record_at rs m).key e.key) h).0;
            }
        go false h l ih =
            let d = ih l in
            record { low = omega (arith, d.low); keyed = d.keyed; marks = marks_stay m h ∙ d.marks }

    pub marks-none :
        (m : ℕ) → is_on rs q 0 ≡ false → latest_on rs q e.key m ≡ 0 → marks_on rs m q e ≡ 0
    unfolding latest_on places_on keep
    marks-none zero first l = none-marked e
    marks-none (suc m) first l = go (is_keyed rs q e.key m) refl l (marks-none m first)
      where
        go : (b : Bool) → is_keyed rs q e.key m ≡ b → cond b m (latest_on rs q e.key m) ≡ 0 →
            (latest_on rs q e.key m ≡ 0 → marks_on rs m q e ≡ 0) → marks_on rs (suc m) q e ≡ 0
        go true h l ih =
            clash (rw l at (both (is_on rs q m) (eqb (record_at rs m).key e.key) h).0) first
        go false h l ih = marks_stay m h ∙ ih l
