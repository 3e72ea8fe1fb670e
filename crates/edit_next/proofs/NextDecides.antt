-- Where the records held pass 1 to 5, an edit whose vector is that of one of them with one edit more of its own has
-- seen nothing that is missing and nothing torn: whatever it has seen that one had seen, and that one passed. So 1 and
-- 5 decide, but for its entries past the sites. Assumes no more sites than entries.
use mathlib.Core.Path.{◌≡◌, sym, ◌∙◌}
use mathlib.Core.Logic.{◌⊎◌, inl, inr}
use mathlib.Core.Bool.{Bool, true, false, not, ◌&&◌, ◌||◌}
use mathlib.Core.List.{List}
use Prim.Native.Nat.{ℕ, ◌+◌, ◌-◌, ◌≤◌, ◌<◌}
use native.Mathlib.Omega.{arith}
use native.Mathlib.Decide.{ℕ_discrete}
use lib.Dec.{eqb, leb, ltb}
use lib.ListN.{length, get_or, take, drop, length-drop}
use lib.Seq.{take_all, get_or-set_other}
use borrow.Author.Tests.{eqb-true, eqb-false, eq-eqb, leb-true, leb-false, lt-leb, le-ltb, ltb-true}
use borrow.Author.Tests.{not-true}
use Rattle.math_lists.proofs.Booleans.{decide, off, both, either, off-where, or_off}
use Rattle.math_lists.proofs.NumbersBelow.{all-at, some_at, some-off}
use Rattle.edit_record.specs.declared.Edit.{Edit}
use Rattle.edit_record.specs.Layout.{most_sites}
use Rattle.edit_record.specs.Answer1.{is_aimed, nonzero_past, unfit}
use Rattle.edit_record.proofs.WellFormed.{well-formed}
use Rattle.edit_history.specs.EditsHeld.{record_at, edits_of, count_from}
use Rattle.edit_history.specs.Answers2to5.{larger_somewhere, is_torn, records_pass}
use Rattle.edit_history.specs.SurveyForms.{Counted, ahead_elsewhere, repeated_against, early_against}
use Rattle.edit_history.proofs.EditsHeld.{count-grows}
use Rattle.edit_history.proofs.RecordsPassed.{InTurn, passed-at, seq-held}
use Rattle.edit_walk.specs.WalkForms.{place_of, Indexed, torn_by, torn_by_news, target_held, passes_against}
use Rattle.edit_walk.specs.WalkForms.{same_but, is_next, Passing}
use Rattle.edit_walk.proofs.LatestDecides.{latest_seen, torn_at, torn_by_latest, one-before, torn-same}
use Rattle.edit_walk.proofs.NewsDecide.{seen-through, news-same}

-- ---- what is lent of a table from a place on

pub from_place : (rs : List ℕ) (from : ℕ) → take (length rs - from) (drop from rs) ≡ drop from rs
from_place rs from = take_all (length rs - from) (drop from rs) (simp length-drop (omega arith))

-- ---- the entries

module _ (v w : List ℕ) (s : ℕ) (grown : is_next v w s ≡ true) where
  parts : (eqb (get_or w s 0) (get_or v s 0 + 1) ≡ true) × (same_but v w s ≡ true)
  unfolding is_next
  parts = both (eqb (get_or w s 0) (get_or v s 0 + 1)) (same_but v w s) grown

  own : get_or w s 0 ≡ get_or v s 0 + 1
  own = eqb-true (get_or w s 0) (get_or v s 0 + 1) parts.0

  other : (t : ℕ) → t < most_sites → (t ≡ s → ⊥) → get_or w t 0 ≡ get_or v t 0
  unfolding same_but
  other t l d =
      elim (either (eqb t s) (eqb (get_or v t 0) (get_or w t 0))
      (all-at most_sites (λ u. eqb u s || eqb (get_or v u 0) (get_or w u 0)) parts.1 t l)) [
        | inl y ↦ absurd (d (eqb-true t s y))
        | inr y ↦ sym (eqb-true (get_or v t 0) (get_or w t 0) y)
      ]

  not-larger : larger_somewhere v w ≡ true → ⊥
  unfolding larger_somewhere
  not-larger h =
      let (t, l, p) = some_at most_sites (λ u. ltb (get_or w u 0) (get_or v u 0)) h in
      let less = ltb-true (get_or w t 0) (get_or v t 0) p in
      elim (ℕ_discrete t s) [
        | yes y ↦ let more : get_or w t 0 ≡ get_or v t 0 + 1 = rw y own in omega arith
        | no d ↦ omega (arith, other t l d)
      ]

-- ---- 1 to 4

module _
    (sites : ℕ)
    (few : sites ≤ most_sites)
    (rs : List ℕ)
    (n : ℕ)
    (pass : records_pass sites rs n ≡ true) where
  -- what the edit in place p had seen is held
  pub seen-held : (p t : ℕ) → p < n → t < most_sites → get_or (record_at rs p).vector t 0 ≤ count_from t (edits_of rs n)
  seen-held p t lp lt =
      let turn = (passed-at sites rs n pass p lp).in_turn in
      elim (ℕ_discrete t (record_at rs p).site.0) [
        | yes y ↦ rw (y, ← turn.formed.own) (seq-held sites rs n pass p n lp (omega arith))
        | no d ↦ omega (arith, turn.others t lt d, count-grows t rs p n (omega arith))
      ]

  module _
      (e : Edit)
      (x : ℕ)
      (lx : x < n)
      (grown : is_next (record_at rs x).vector e.vector e.site.0 ≡ true) where
    abbrev v : List ℕ
    v = (record_at rs x).vector

    abbrev w : List ℕ
    w = e.vector

    abbrev s : ℕ
    s = e.site.0

    pub next-not-past : leb sites s ≡ false → nonzero_past sites w ≡ false
    unfolding nonzero_past
    next-not-past h =
        some-off most_sites (λ i. leb sites i && not (eqb (get_or w i 0) 0)) (λ i l.
        off-where (leb sites i) (not (eqb (get_or w i 0) 0)) (λ y.
        let past = leb-true sites i y in
        let low = leb-false sites s h in
        let none = (passed-at sites rs n pass x lx).in_turn.formed.past i l past in
        rw (eq-eqb (get_or w i 0) 0 (other v w s grown i l (λ z. omega arith) ∙ none))))

    module _ (ps : List ℕ) (ix : Indexed rs n ps) (turn : InTurn sites (edits_of rs n) e) where
      latest-same : (t : ℕ) → t < most_sites → latest_seen e t ≡ get_or v t 0
      unfolding latest_seen
      latest-same t l = elim (ℕ_discrete s t) [
        | yes y ↦ one-before w s t (get_or v t 0) y (rw (← y) (own v w s grown))
        | no d ↦
            get_or-set_other w s t _ 0 (λ z. d (sym z)) ∙ other v w s grown t l (λ z. d (sym z))
      ]

      pub next-whole : is_torn (edits_of rs n) e ≡ false
      unfolding torn_by torn_by_latest
      next-whole = sym (torn-same sites few rs n pass ps ix e turn) ∙ none
        where
          at : (t : ℕ) → t < most_sites → torn_at rs ps e t ≡ true → ⊥
          at t l h =
              let q = latest_seen e t in
              let (some-q, larger)
              = both (not (eqb q 0)) (larger_somewhere (record_at rs (place_of ps t q)).vector w) h in
              let one = eqb-false q 0 (not-true (eqb q 0) some-q) in
              not-larger v w s grown
              (seen-through sites few rs n pass ps ix x t q lx l (omega (arith, one)) (latest-same t l) w larger)

          none : torn_by_latest rs ps e ≡ false
          none = some-off most_sites (torn_at rs ps e) (λ t l. off (torn_at rs ps e t) (at t l))

-- ---- 1 and 5 decide

-- they do of an edit whose turn it is, if it is whole then
pub turn-decides :
    (sites : ℕ) → sites ≤ most_sites → (rs : List ℕ) (n : ℕ) → records_pass sites rs n ≡ true →
    (ps : List ℕ) → Indexed rs n ps → (counts : List ℕ) → Counted counts (edits_of rs n) →
    (e : Edit) → e.seq.0 ≡ get_or counts e.site.0 0 + 1 →
    ((t : ℕ) → t < most_sites → (t ≡ e.site.0 → ⊥) → get_or e.vector t 0 ≤ count_from t (edits_of rs n)) →
    (InTurn sites (edits_of rs n) e → is_torn (edits_of rs n) e ≡ false) →
    passes_against sites counts rs ps e ≡ not (unfit sites e || is_aimed e && not (target_held counts rs ps e))
unfolding passes_against ahead_elsewhere
turn-decides sites few rs n pass ps ix counts counted e next others whole = go (decide (unfit sites e))
  where
    early : early_against counts e ≡ false
    early =
        or_off _ _ (le-ltb (get_or counts e.site.0 0 + 1) e.seq.0 (omega arith))
        (some-off most_sites (λ t. not (eqb t e.site.0) && ltb (get_or counts t 0) (get_or e.vector t 0)) (λ t l.
        off-where (not (eqb t e.site.0)) (ltb (get_or counts t 0) (get_or e.vector t 0)) (λ y.
        le-ltb (get_or counts t 0) (get_or e.vector t 0)
        (rw (counted t l) (others t l (eqb-false t e.site.0 (not-true (eqb t e.site.0) y)))))))

    go : (unfit sites e ≡ true) ⊎ (unfit sites e ≡ false) →
        not
        (unfit sites e
        || repeated_against counts e
        || early_against counts e
        || torn_by_news rs ps e.vector e.site
        || is_aimed e && not (target_held counts rs ps e))
        ≡ not (unfit sites e || is_aimed e && not (target_held counts rs ps e))
    go (inl u) = rw u
    go (inr u) =
        let held = counted e.site.0 (omega (arith, (well-formed sites e u).site, few)) in
        let turn : InTurn sites (edits_of rs n) e
        = record { formed = well-formed sites e u; next = rw (← held) next; others = others } in
        rw (
          u,
          lt-leb e.seq.0 (get_or counts e.site.0 0) (omega arith),
          early,
          news-same sites few rs n pass ps ix e turn,
          whole turn,
        )

pub next-decides :
    (sites : ℕ) → sites ≤ most_sites → (rs : List ℕ) (n : ℕ) → records_pass sites rs n ≡ true →
    (ps : List ℕ) → Indexed rs n ps → (counts : List ℕ) → Counted counts (edits_of rs n) →
    (e : Edit) (x : ℕ) → x < n → is_next (record_at rs x).vector e.vector e.site.0 ≡ true →
    e.seq.0 ≡ get_or counts e.site.0 0 + 1 →
    passes_against sites counts rs ps e ≡ not (unfit sites e || is_aimed e && not (target_held counts rs ps e))
next-decides sites few rs n pass ps ix counts counted e x lx grown next =
    turn-decides sites few rs n pass ps ix counts counted e next
    (λ t l d. rw (other (record_at rs x).vector e.vector e.site.0 grown t l d)
    (seen-held sites few rs n pass x t lx l))
    (next-whole sites few rs n pass e x lx grown ps ix)

-- what says so of a record with no entry past the sites says it of one that follows
pub next-tells :
    (sites : ℕ) {counts rs ps : List ℕ} {n : ℕ} → Passing sites counts rs n ps → (e : Edit) (x : ℕ) {b : Bool} →
    x < n → is_next (record_at rs x).vector e.vector e.site.0 ≡ true →
    e.seq.0 ≡ get_or counts e.site.0 0 + 1 →
    ((leb sites e.site.0 ≡ false → nonzero_past sites e.vector ≡ false) →
    b ≡ not (unfit sites e || is_aimed e && not (target_held counts rs ps e))) →
    b ≡ passes_against sites counts rs ps e
next-tells sites {counts} {rs} {ps} {n} ok e x before grown next told =
    told (next-not-past sites ok.few rs n ok.pass e x before grown)
    ∙ sym
    (next-decides sites ok.few rs n ok.pass ps ok.indexed counts ok.counted e x before grown next)
