-- Where the records held pass 1 to 5 and e passes 1 to 3, its author's edit before it decides 4, with the latest edits
-- that e has seen and that one had not: what that one had seen it holds no entry above its own, since it passed. Then
-- counts and index decide 1 to 5. Assumes no more sites than entries.
use mathlib.Core.Path.{◌≡◌, refl, ap, sym, ◌∙◌}
use mathlib.Core.Logic.{inl, inr}
use mathlib.Core.Bool.{Bool, true, false, not, ◌&&◌, ◌||◌}
use mathlib.Core.List.{List}
use Prim.Native.Nat.{ℕ, ◌≤◌, ◌<◌}
use native.Mathlib.Omega.{arith}
use native.Mathlib.Decide.{ℕ_discrete}
use lib.Dec.{eqb, ltb}
use lib.ListN.{length, get_or, replicate}
use borrow.Author.Tests.{eqb-false, eq-eqb, ne_eqb, le-leb, ltb-true, not-true}
use Rattle.math_lists.specs.NumbersBelow.{some}
use Rattle.math_lists.specs.SortedLists.{any}
use Rattle.math_lists.proofs.Booleans.{clash, off, same_test, both, and-on, either, neither, or_left, or_right}
use Rattle.math_lists.proofs.ByPlaces.{zero-anywhere}
use Rattle.math_lists.proofs.NumbersBelow.{some-on, some_at}
use Rattle.edit_record.specs.declared.Edit.{Edit}
use Rattle.edit_record.specs.Layout.{most_sites}
use Rattle.edit_record.specs.Answer1.{is_aimed, unfit}
use Rattle.edit_record.proofs.WellFormed.{well-formed}
use Rattle.edit_causal.specs.Causal.{has_seen}
use Rattle.edit_causal.proofs.VectorSums.{NowhereAbove}
use Rattle.edit_history.specs.EditsHeld.{record_at, edits_of, count_from, is_target}
use Rattle.edit_history.specs.Answers2to5.{is_repeated, is_early, larger_somewhere, tears, is_torn, is_astray, passes}
use Rattle.edit_history.specs.Answers2to5.{records_pass}
use Rattle.edit_history.specs.SurveyForms.{Counted, repeated_against, early_against}
use Rattle.edit_history.proofs.EditsHeld.{any-edit-on}
use Rattle.edit_history.proofs.ByCounts.{repeated-against, early-against}
use Rattle.edit_history.proofs.RecordsPassed.{InTurn, in-turn, passed-at, place-of}
use Rattle.edit_walk.specs.WalkForms.{place_of, Indexed, seen_before, torn_by, vector_by, seen_by_last, torn_by_news}
use Rattle.edit_walk.specs.WalkForms.{target_held, in_turn_against, passes_against}
use Rattle.edit_walk.proofs.LatestDecides.{latest_seen, torn_at, torn_by_latest, latest, nowhere-above}
use Rattle.edit_walk.proofs.LatestDecides.{larger-through, found, torn-same, target-same}

-- ---- an edit that is there, or none

zeros-not-larger : (w : List ℕ) → larger_somewhere (replicate most_sites 0) w ≡ true → ⊥
unfolding larger_somewhere
zeros-not-larger w h =
    let (t, _, p) = some_at most_sites (λ s. ltb (get_or w s 0) (get_or (replicate most_sites 0) s 0)) h in
    omega (arith, ltb-true (get_or w t 0) (get_or (replicate most_sites 0) t 0) p, zero-anywhere most_sites t)

module _ (rs ps : List ℕ) (s q : ℕ) where
  there : (q ≡ 0 → ⊥) → vector_by rs ps s q ≡ (record_at rs (place_of ps s q)).vector
  unfolding vector_by
  there d = rw (ne_eqb q 0 d)

  none-there : q ≡ 0 → vector_by rs ps s q ≡ replicate most_sites 0
  unfolding vector_by
  none-there e = rw (eq-eqb q 0 e)

  larger-torn : (w : List ℕ) → larger_somewhere (vector_by rs ps s q) w ≡ true → torn_by rs ps w s q ≡ true
  unfolding torn_by
  larger-torn w h = go (ℕ_discrete q 0)
    where
      go : Dec (q ≡ 0) → (not (eqb q 0) && larger_somewhere (record_at rs (place_of ps s q)).vector w) ≡ true
      go (yes e) = absurd (zeros-not-larger w (rw (none-there e) at h))
      go (no d) = rw (ne_eqb q 0 d) (rw (there d) at h)

-- ---- 1 to 3

-- an edit to which none of them applies by the counts
pub turn-against :
    (sites : ℕ) → sites ≤ most_sites → (counts : List ℕ) (es : List Edit) → Counted counts es → (e : Edit) →
    in_turn_against sites counts e ≡ true → InTurn sites es e
unfolding in_turn_against
turn-against sites few counts es counted e y =
    let u = unfit sites e in
    let r = repeated_against counts e in
    let a = early_against counts e in
    let (ur, early) = neither (u || r) a (not-true (u || r || a) y) in
    let (fit, repeated) = neither u r ur in
    let low : e.site.0 < most_sites = omega (arith, (well-formed sites e fit).site, few) in
    in-turn sites es e fit (sym (repeated-against counts es counted e low) ∙ repeated)
    (sym (early-against counts es counted e low) ∙ early)

-- ---- 4

module _
    (sites : ℕ)
    (few : sites ≤ most_sites)
    (rs : List ℕ)
    (n : ℕ)
    (pass : records_pass sites rs n ≡ true)
    (ps : List ℕ)
    (ix : Indexed rs n ps) where
  -- what the edit in place p had seen of another site has no entry above its own
  seen_below :
      (p t q : ℕ) → p < n → t < most_sites → (t ≡ (record_at rs p).site.0 → ⊥) → 0 < q →
      q ≡ get_or (record_at rs p).vector t 0 →
      NowhereAbove most_sites (record_at rs (place_of ps t q)).vector (record_at rs p).vector
  unfolding is_torn
  seen_below p t q lp lt d one is =
      let f = record_at rs p in
      let held : q ≤ count_from t (edits_of rs p) = rw is ((passed-at sites rs n pass p lp).in_turn.others t lt d) in
      let (i, li, es, eq) = place-of sites rs n pass p (omega arith) t q one held in
      let a = record_at rs i in
      let at : place_of ps t q ≡ i = rw (es, eq) at (ix i (omega arith)) in
      let seen : has_seen f.vector a.site a.seq ≡ true
      = rw (es, eq) (le-leb q (get_or f.vector t 0) (omega arith)) in
      rw at
      (nowhere-above a.vector f.vector
      (off (larger_somewhere a.vector f.vector) (λ y.
      clash
      (any-edit-on (tears f) rs p i li
      (and-on (has_seen f.vector a.site a.seq) (larger_somewhere a.vector f.vector) seen y))
      (passed-at sites rs n pass p lp).whole)))

  -- an edit that the one in place p had seen, or that one itself, tears w only where that one does
  pub seen-through :
      (p t q : ℕ) → p < n → t < most_sites → 0 < q → q ≡ get_or (record_at rs p).vector t 0 → (w : List ℕ) →
      larger_somewhere (record_at rs (place_of ps t q)).vector w ≡ true →
      larger_somewhere (record_at rs p).vector w ≡ true
  seen-through p t q lp lt one is w larger = elim (ℕ_discrete t (record_at rs p).site.0) [
    | yes y ↦
        let own : q ≡ (record_at rs p).seq.0 = is ∙ rw y (sym (passed-at sites rs n pass p lp).in_turn.formed.own) in
        rw (y, own, ix p lp) at larger
    | no y ↦
        larger-through (record_at rs (place_of ps t q)).vector (record_at rs p).vector w
        (seen_below p t q lp lt y one is) larger
  ]

  module _ (e : Edit) (turn : InTurn sites (edits_of rs n) e) where
    abbrev own : ℕ
    own = e.site.0

    abbrev was : List ℕ
    was = seen_by_last rs ps e.vector e.site

    abbrev is_news : ℕ → Bool
    is_news t =
        not (eqb (get_or (seen_before e.vector e.site) t 0) (get_or was t 0))
        && torn_by rs ps e.vector t (get_or (seen_before e.vector e.site) t 0)

    own-low : own < most_sites
    own-low = omega (arith, turn.formed.site, few)

    news-latest : torn_by_news rs ps e.vector e.site ≡ true → torn_by_latest rs ps e ≡ true
    unfolding torn_by_news torn_by_latest latest_seen
    news-latest h = elim (either (larger_somewhere was e.vector) (some most_sites is_news) h) [
      | inl larger ↦
          some-on most_sites (torn_at rs ps e) own own-low (larger-torn rs ps own (latest_seen e own) e.vector larger)
      | inr news ↦
          let (t, low, p) = some_at most_sites is_news news in
          some-on most_sites (torn_at rs ps e) t low
          (both (not (eqb (latest_seen e t) (get_or was t 0))) (torn_at rs ps e t) p).1
    ]

    -- an edit that the author's last one had seen tears e only where that one does
    by_last : (t : ℕ) → t < most_sites → latest_seen e t ≡ get_or was t 0 → torn_at rs ps e t ≡ true →
        larger_somewhere was e.vector ≡ true
    unfolding torn_by latest_seen
    by_last t low same torn = go (ℕ_discrete (latest_seen e own) 0)
      where
        q : ℕ
        q = latest_seen e t

        parts : (not (eqb q 0) ≡ true) × (larger_somewhere (record_at rs (place_of ps t q)).vector e.vector ≡ true)
        parts = both (not (eqb q 0)) (larger_somewhere (record_at rs (place_of ps t q)).vector e.vector) torn

        some-q : q ≡ 0 → ⊥
        some-q = eqb-false q 0 (not-true (eqb q 0) parts.0)

        go : Dec (latest_seen e own ≡ 0) → larger_somewhere was e.vector ≡ true
        go (yes z) =
            let none : get_or was t 0 ≡ 0
            = ap (λ (l : List ℕ). get_or l t 0) (none-there rs ps own (latest_seen e own) z) ∙ zero-anywhere most_sites t in
            absurd (some-q (same ∙ none))
        go (no d) =
            let is : was ≡ (record_at rs (place_of ps own (latest_seen e own))).vector
            = there rs ps own (latest_seen e own) d in
            let late = latest sites (edits_of rs n) e turn own own-low in
            let (p, lp, es, eq, at)
            = found sites few rs n pass ps ix own (latest_seen e own) (omega arith) late.held in
            rw (is, at)
            (seen-through p t q lp low (omega (arith, some-q)) (same ∙ rw (is, at)) e.vector parts.1)

    latest-news : torn_by_latest rs ps e ≡ true → torn_by_news rs ps e.vector e.site ≡ true
    unfolding torn_by_news torn_by_latest latest_seen
    latest-news h =
        let (t, low, torn) = some_at most_sites (torn_at rs ps e) h in
        elim (ℕ_discrete (latest_seen e t) (get_or was t 0)) [
          | yes same ↦
              or_left (larger_somewhere was e.vector) (some most_sites is_news) (by_last t low same torn)
          | no d ↦
              or_right (larger_somewhere was e.vector) (some most_sites is_news)
              (some-on most_sites is_news t low
              (and-on (not (eqb (latest_seen e t) (get_or was t 0))) (torn_at rs ps e t)
              (rw (ne_eqb (latest_seen e t) (get_or was t 0) d)) torn))
        ]

    pub news-same : torn_by_news rs ps e.vector e.site ≡ is_torn (edits_of rs n) e
    news-same =
        same_test (torn_by_news rs ps e.vector e.site) (torn_by_latest rs ps e) news-latest latest-news
        ∙ torn-same sites few rs n pass ps ix e turn

-- ---- 1 to 5

first_three :
    (u r x t a r' x' t' a' : Bool) → (u ≡ false → (r ≡ r') × (x ≡ x')) →
    (u ≡ false → r' ≡ false → x' ≡ false → (t ≡ t') × (a ≡ a')) →
    not (u || r || x || t || a) ≡ not (u || r' || x' || t' || a')
first_three true r x t a r' x' t' a' f g = refl
first_three false r x t a true x' t' a' f g = rw (f refl).0
first_three false r x t a false true t' a' f g = rw ((f refl).0, (f refl).1)
first_three false r x t a false false t' a' f g =
    rw ((f refl).0, (f refl).1, (g refl refl refl).0, (g refl refl refl).1)

pub news-decide :
    (sites : ℕ) → sites ≤ most_sites → (rs : List ℕ) (n : ℕ) → records_pass sites rs n ≡ true →
    (ps : List ℕ) → Indexed rs n ps → (counts : List ℕ) → length counts ≡ most_sites → Counted counts (edits_of rs n) →
    (e : Edit) → passes_against sites counts rs ps e ≡ passes sites (edits_of rs n) e
unfolding passes_against passes is_astray
news-decide sites few rs n pass ps ix counts long counted e =
    first_three (unfit sites e) (repeated_against counts e) (early_against counts e) (torn_by_news rs ps e.vector e.site)
    (is_aimed e && not (target_held counts rs ps e)) (is_repeated (edits_of rs n) e) (is_early (edits_of rs n) e)
    (is_torn (edits_of rs n) e) (is_aimed e && not (any (is_target e) (edits_of rs n)))
    (λ fit.
    let low : e.site.0 < most_sites = omega (arith, (well-formed sites e fit).site) in
    (repeated-against counts (edits_of rs n) counted e low, early-against counts (edits_of rs n) counted e low))
    (λ fit r x. (
      news-same sites few rs n pass ps ix e (in-turn sites (edits_of rs n) e fit r x),
      ap (λ (b : Bool). is_aimed e && not b) (target-same sites few rs n pass ps ix counts long counted e),
    ))
