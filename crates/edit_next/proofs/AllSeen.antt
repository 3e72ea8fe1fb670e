-- An edit that is the next of its site and has seen all that is held: nothing is missing, and no vector that is held
-- has a larger entry. So 1 and 5 decide, but for its entries past the sites, where nothing is counted. Assumes no more
-- sites than entries.
use mathlib.Core.Path.{◌≡◌, sym, ◌∙◌}
use mathlib.Core.Logic.{inl, inr}
use mathlib.Core.Bool.{Bool, true, false, not, ◌&&◌, ◌||◌}
use mathlib.Core.List.{List}
use Prim.Native.Nat.{ℕ, ◌+◌, ◌≤◌, ◌<◌}
use native.Mathlib.Omega.{arith}
use native.Mathlib.Decide.{dec_lt, ℕ_discrete}
use lib.Dec.{eqb, leb, ltb}
use lib.ListN.{get_or}
use borrow.Author.Tests.{eqb-true, eq-eqb, leb-true, leb-false, le-leb, ltb-true}
use Rattle.math_lists.proofs.Booleans.{off, both, either, off-where}
use Rattle.math_lists.proofs.NumbersBelow.{all-at, some_at, some-off}
use Rattle.edit_record.specs.declared.Edit.{Edit}
use Rattle.edit_record.specs.Layout.{most_sites}
use Rattle.edit_record.specs.Answer1.{is_aimed, nonzero_past, unfit}
use Rattle.edit_causal.specs.Causal.{has_seen}
use Rattle.edit_history.specs.EditsHeld.{record_at, edits_of, count_from}
use Rattle.edit_history.specs.Answers2to5.{larger_somewhere, tears, is_torn, records_pass}
use Rattle.edit_history.specs.SurveyForms.{Counted}
use Rattle.edit_history.proofs.EditsHeld.{any-edit-at}
use Rattle.edit_history.proofs.RecordsPassed.{InTurn, formed-at, seq-held, place-of}
use Rattle.edit_walk.specs.WalkForms.{target_held, passes_against, same_but, sees_all, Passing}
use Rattle.edit_next.proofs.NextDecides.{seen-held, turn-decides}

-- ---- what it has seen

module _ (counts : List ℕ) (e : Edit) (sees : sees_all counts e ≡ true) where
  parts : (eqb e.seq.0 (get_or counts e.site.0 0 + 1) ≡ true) × (same_but counts e.vector e.site.0 ≡ true)
  unfolding sees_all
  parts = both (eqb e.seq.0 (get_or counts e.site.0 0 + 1)) (same_but counts e.vector e.site.0) sees

  pub all-next : e.seq.0 ≡ get_or counts e.site.0 0 + 1
  all-next = eqb-true e.seq.0 (get_or counts e.site.0 0 + 1) parts.0

  others-seen : (t : ℕ) → t < most_sites → (t ≡ e.site.0 → ⊥) → get_or e.vector t 0 ≡ get_or counts t 0
  unfolding same_but
  others-seen t l d =
      elim (either (eqb t e.site.0) (eqb (get_or counts t 0) (get_or e.vector t 0))
      (all-at most_sites (λ u. eqb u e.site.0 || eqb (get_or counts u 0) (get_or e.vector u 0)) parts.1 t l)) [
        | inl y ↦ absurd (d (eqb-true t e.site.0 y))
        | inr y ↦ sym (eqb-true (get_or counts t 0) (get_or e.vector t 0) y)
      ]

  module _ (sites : ℕ) (few : sites ≤ most_sites) (rs : List ℕ) (n : ℕ) (pass : records_pass sites rs n ≡ true)
      (counted : Counted counts (edits_of rs n)) where
    -- nothing is counted past the sites
    none-past : (t : ℕ) → t < most_sites → sites ≤ t → get_or counts t 0 ≡ 0
    none-past t l past = elim (dec_lt 0 (count_from t (edits_of rs n))) [
      | yes some ↦
          (let (p, lp, site, _) = place-of sites rs n pass n (omega arith) t 1 (omega arith) (omega arith) in
          absurd (omega (arith, (formed-at sites rs n pass p lp).site, site)))
      | no f ↦ omega (arith, counted t l)
    ]

    all-not-past : leb sites e.site.0 ≡ false → nonzero_past sites e.vector ≡ false
    unfolding nonzero_past
    all-not-past h =
        some-off most_sites (λ i. leb sites i && not (eqb (get_or e.vector i 0) 0)) (λ i l.
        off-where (leb sites i) (not (eqb (get_or e.vector i 0) 0)) (λ y.
        let past = leb-true sites i y in
        let low = leb-false sites e.site.0 h in
        rw (eq-eqb (get_or e.vector i 0) 0 (others-seen i l (λ z. omega arith) ∙ none-past i l past))))

    -- its vector is nowhere below what is counted
    module _ (turn : InTurn sites (edits_of rs n) e) where
      not-below : (t : ℕ) → t < most_sites → count_from t (edits_of rs n) ≤ get_or e.vector t 0
      not-below t l = elim (ℕ_discrete t e.site.0) [
        | yes y ↦ rw y (omega (arith, turn.next, turn.formed.own))
        | no d ↦ omega (arith, others-seen t l d, counted t l)
      ]

      pub all_whole : is_torn (edits_of rs n) e ≡ false
      unfolding is_torn larger_somewhere
      all_whole = off (is_torn (edits_of rs n) e) (λ h.
          let (p, lp, torn) = any-edit-at (tears e) rs n h in
          let a = record_at rs p in
          let (_, larger)
          = both (has_seen e.vector a.site a.seq) (larger_somewhere a.vector e.vector) torn in
          let (t, l, less) = some_at most_sites (λ s. ltb (get_or e.vector s 0) (get_or a.vector s 0)) larger in
          omega (
            arith,
            ltb-true (get_or e.vector t 0) (get_or a.vector t 0) less,
            seen-held sites few rs n pass p t lp l,
            not-below t l,
          ))

      -- it has seen each edit that is held
      pub all_seen : (p : ℕ) → p < n → has_seen e.vector (record_at rs p).site (record_at rs p).seq ≡ true
      all_seen p lp =
          let a = record_at rs p in
          let low = (formed-at sites rs n pass p lp).site in
          le-leb a.seq.0 (get_or e.vector a.site.0 0)
          (omega (arith, seq-held sites rs n pass p n lp (omega arith), not-below a.site.0 (omega arith)))

-- ---- 1 and 5 decide

-- what says so of a record with no entry past the sites says it of one that has seen all
pub all-tells :
    (sites : ℕ) {counts rs ps : List ℕ} {n : ℕ} → Passing sites counts rs n ps → (e : Edit) {b : Bool} →
    sees_all counts e ≡ true →
    ((leb sites e.site.0 ≡ false → nonzero_past sites e.vector ≡ false) →
    b ≡ not (unfit sites e || is_aimed e && not (target_held counts rs ps e))) →
    b ≡ passes_against sites counts rs ps e
all-tells sites {counts} {rs} {ps} {n} ok e sees told =
    told (all-not-past counts e sees sites ok.few rs n ok.pass ok.counted)
    ∙ sym
    (turn-decides sites ok.few rs n ok.pass ps ok.indexed counts ok.counted e (all-next counts e sees)
    (λ t l d. omega (arith, others-seen counts e sees t l d, ok.counted t l))
    (all_whole counts e sees sites ok.few rs n ok.pass ok.counted))
