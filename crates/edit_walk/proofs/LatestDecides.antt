-- Where the records held pass 1 to 5 and e passes 1 to 3, the latest seen edit of each site decides 4, since the
-- vectors of a site's edits grow, and the index of places decides 5. Assumes no more sites than entries.
use mathlib.Core.Path.{◌≡◌, sym, ◌∙◌}
use mathlib.Core.Bool.{Bool, true, false, not, ◌&&◌}
use mathlib.Core.List.{List}
use Prim.Native.Nat.{ℕ, ◌+◌, ◌-◌, ◌≤◌, ◌<◌}
use native.Mathlib.Omega.{arith}
use native.Mathlib.Decide.{dec_lt, ℕ_discrete}
use lib.Dec.{eqb, leb, ltb}
use lib.ListN.{length, get_or, set, get_or-eq_default}
use lib.Seq.{get_or-set_same, get_or-set_other}
use borrow.Author.Tests.{eqb-false, eq-eqb, ne_eqb, leb-true, le-leb, ltb-true, ltb-false, lt-ltb, not-true}
use Rattle.math_lists.specs.NumbersBelow.{some}
use Rattle.math_lists.specs.SortedLists.{any}
use Rattle.math_lists.proofs.Booleans.{clash, off, same_test, both, and-on}
use Rattle.math_lists.proofs.NumbersBelow.{some-on, some_at, none-at}
use Rattle.edit_record.specs.declared.Edit.{Edit}
use Rattle.edit_record.specs.Layout.{most_sites}
use Rattle.edit_record.specs.Answer1.{is_create}
use Rattle.edit_causal.specs.Causal.{same_edit, has_seen}
use Rattle.edit_causal.proofs.VectorSums.{NowhereAbove}
use Rattle.edit_history.specs.EditsHeld.{record_at, edits_of, count_from, is_target}
use Rattle.edit_history.specs.Answers2to5.{larger_somewhere, tears, is_torn, records_pass}
use Rattle.edit_history.specs.SurveyForms.{Counted}
use Rattle.edit_walk.specs.WalkForms.{place_of, Indexed, seen_before, torn_by, target_held}
use Rattle.edit_history.proofs.EditsHeld.{target-parts, any-edit-on, any-edit-at}
use Rattle.edit_history.proofs.RecordsPassed.{InTurn, passed-at, formed-at, seq-held, seq-later, place-of}

-- ---- 4 by the latest seen edits

-- the latest edit of site s that e has seen, itself left out; 0 is none
unfoldable pub latest_seen : Edit → ℕ → ℕ
latest_seen e s = get_or (seen_before e.vector e.site) s 0

abbrev pub torn_at : List ℕ → List ℕ → Edit → ℕ → Bool
torn_at rs ps e s = torn_by rs ps e.vector s (latest_seen e s)

unfoldable pub torn_by_latest : List ℕ → List ℕ → Edit → Bool
torn_by_latest rs ps e = some most_sites (torn_at rs ps e)

-- ---- larger somewhere, or nowhere above

pub nowhere-above : (v w : List ℕ) → larger_somewhere v w ≡ false → NowhereAbove most_sites v w
unfolding larger_somewhere
nowhere-above v w h i l =
    ltb-false (get_or w i 0) (get_or v i 0) (none-at most_sites (λ s. ltb (get_or w s 0) (get_or v s 0)) h i l)

pub larger-through :
    (u v w : List ℕ) → NowhereAbove most_sites u v → larger_somewhere u w ≡ true → larger_somewhere v w ≡ true
unfolding larger_somewhere
larger-through u v w h k =
    let (i, l, p) = some_at most_sites (λ s. ltb (get_or w s 0) (get_or u s 0)) k in
    some-on most_sites (λ s. ltb (get_or w s 0) (get_or v s 0)) i l
    (lt-ltb (get_or w i 0) (get_or v i 0) (omega (arith, ltb-true (get_or w i 0) (get_or u i 0) p, h i l)))

-- ---- the latest seen edit of a site

pub record Latest (es : List Edit) (e : Edit) (s : ℕ) : Type 0 where
  pub held : latest_seen e s ≤ count_from s es
  pub seen : latest_seen e s ≤ get_or e.vector s 0
  pub most : (q : ℕ) → q ≤ get_or e.vector s 0 → q ≤ count_from s es → q ≤ latest_seen e s

pub one-before :
    (v : List ℕ) (i s n : ℕ) → i ≡ s → get_or v s 0 ≡ n + 1 → get_or (set v i (get_or v i 0 - 1)) s 0 ≡ n
one-before v i s n y h = elim (dec_lt s (length v)) [
  | yes l ↦ rw y (get_or-set_same v s (get_or v s 0 - 1) 0 l ∙ omega arith)
  | no l ↦ absurd (omega (arith, get_or-eq_default v 0 {n = s} (omega arith)))
]

pub latest :
    (sites : ℕ) (es : List Edit) (e : Edit) → InTurn sites es e → (s : ℕ) → s < most_sites → Latest es e s
unfolding latest_seen
latest sites es e turn s l = go (ℕ_discrete e.site.0 s)
  where
    go : Dec (e.site.0 ≡ s) → Latest es e s
    go (yes y) =
        let next : get_or e.vector s 0 ≡ count_from s es + 1 = rw (← y) (sym turn.formed.own ∙ turn.next) in
        let is : latest_seen e s ≡ count_from s es = one-before e.vector e.site.0 s (count_from s es) y next in
        record { held = omega arith; seen = omega arith; most = λ q a b. omega arith }
    go (no d) =
        let is : latest_seen e s ≡ get_or e.vector s 0
        = get_or-set_other e.vector e.site.0 s (get_or e.vector e.site.0 0 - 1) 0 (λ y. d (sym y)) in
        let low = turn.others s l (λ y. d (sym y)) in
        record { held = omega arith; seen = omega arith; most = λ q a b. omega arith }

module _
    (sites : ℕ)
    (few : sites ≤ most_sites)
    (rs : List ℕ)
    (n : ℕ)
    (pass : records_pass sites rs n ≡ true) where
  -- along a site no vector has an entry above a later one's
  along :
      (i p : ℕ) → i < n → p < n → (record_at rs i).site.0 ≡ (record_at rs p).site.0 →
      (record_at rs i).seq.0 ≤ (record_at rs p).seq.0 →
      NowhereAbove most_sites (record_at rs i).vector (record_at rs p).vector
  unfolding is_torn
  along i p li lp es eq = go (dec_lt i p) (ℕ_discrete i p)
    where
      go : Dec (i < p) → Dec (i ≡ p) → NowhereAbove most_sites (record_at rs i).vector (record_at rs p).vector
      go (yes a) w =
          let e = record_at rs p in
          let f = record_at rs i in
          let own = (formed-at sites rs n pass p lp).own in
          let seen : has_seen e.vector f.site f.seq ≡ true
          = rw es (le-leb f.seq.0 (get_or e.vector e.site.0 0) (omega arith)) in
          nowhere-above f.vector e.vector
          (off (larger_somewhere f.vector e.vector)
          (λ y. clash
          (any-edit-on (tears e) rs p i a
          (and-on (has_seen e.vector f.site f.seq) (larger_somewhere f.vector e.vector) seen y))
          (passed-at sites rs n pass p lp).whole))
      go (no a) (yes b) = λ t l. rw b (omega arith)
      go (no a) (no b) = absurd (omega (arith, seq-later sites rs n pass p i (omega arith) li (sym es)))

  module _ (ps : List ℕ) (ix : Indexed rs n ps) where
    -- what the index says of an edit that is counted
    pub found :
        (s q : ℕ) → 0 < q → q ≤ count_from s (edits_of rs n) →
        (p : ℕ) × (p < n) × ((record_at rs p).site.0 ≡ s) × ((record_at rs p).seq.0 ≡ q) × (place_of ps s q ≡ p)
    found s q one l =
        let (p, lp, es, eq) = place-of sites rs n pass n (omega arith) s q one l in
        (p, lp, es, eq, (rw (es, eq) at (ix p lp)))

    -- ---- 4

    module _ (e : Edit) (turn : InTurn sites (edits_of rs n) e) where
      torn-latest : is_torn (edits_of rs n) e ≡ true → torn_by_latest rs ps e ≡ true
      unfolding is_torn torn_by_latest torn_by
      torn-latest h =
          let (i, li, t) = any-edit-at (tears e) rs n h in
          let f = record_at rs i in
          let s = f.site.0 in
          let (seen, larger)
          = both (has_seen e.vector f.site f.seq) (larger_somewhere f.vector e.vector) t in
          let low : s < most_sites = omega (arith, (formed-at sites rs n pass i li).site) in
          let q = latest_seen e s in
          let k : f.seq.0 ≤ q
          = (latest sites (edits_of rs n) e turn s low).most f.seq.0
          (leb-true f.seq.0 (get_or e.vector s 0) seen)
          (seq-held sites rs n pass i n li (omega arith)) in
          let one : 0 < q = omega (arith, (formed-at sites rs n pass i li).seq) in
          let (p, lp, es, eq, at) = found s q one (latest sites (edits_of rs n) e turn s low).held in
          some-on most_sites (torn_at rs ps e) s low
          (and-on (not (eqb q 0)) (larger_somewhere (record_at rs (place_of ps s q)).vector e.vector)
          (rw (ne_eqb q 0 (λ z. omega arith)))
          (rw at (larger-through f.vector (record_at rs p).vector e.vector
          (along i p li lp (sym es) (omega arith)) larger)))

      latest-torn : torn_by_latest rs ps e ≡ true → is_torn (edits_of rs n) e ≡ true
      unfolding is_torn torn_by_latest torn_by
      latest-torn h =
          let (s, low, t) = some_at most_sites (torn_at rs ps e) h in
          let q = latest_seen e s in
          let (some-q, larger)
          = both (not (eqb q 0)) (larger_somewhere (record_at rs (place_of ps s q)).vector e.vector) t in
          let late = latest sites (edits_of rs n) e turn s low in
          let nonzero = eqb-false q 0 (not-true (eqb q 0) some-q) in
          let (p, lp, es, eq, at) = found s q (omega arith) late.held in
          let f = record_at rs p in
          any-edit-on (tears e) rs n p lp
          (and-on (has_seen e.vector f.site f.seq) (larger_somewhere f.vector e.vector)
          (rw (es, eq) (le-leb q (get_or e.vector s 0) late.seen))
          (rw at at larger))

      pub torn-same : torn_by_latest rs ps e ≡ is_torn (edits_of rs n) e
      torn-same = same_test (torn_by_latest rs ps e) (is_torn (edits_of rs n) e) latest-torn torn-latest

    -- ---- 5

    module _
        (counts : List ℕ)
        (long : length counts ≡ most_sites)
        (counted : Counted counts (edits_of rs n))
        (e : Edit) where
      held-target : target_held counts rs ps e ≡ true → any (is_target e) (edits_of rs n) ≡ true
      unfolding target_held
      held-target h =
          let s = e.tsite.0 in
          let q = e.tseq.0 in
          let one = ltb 0 q in
          let seen = leb q (get_or e.vector s 0) in
          let held = leb q (get_or counts s 0) in
          let (h3, create) = both (one && seen && held) (is_create (record_at rs (place_of ps s q))) h in
          let (h2, held_on) = both (one && seen) held h3 in
          let (one_on, seen-on) = both one seen h2 in
          let most : q ≤ get_or counts s 0 = leb-true q (get_or counts s 0) held_on in
          let low : s < most_sites = low-site s (ltb-true 0 q one_on) most (dec_lt s most_sites) in
          let (p, lp, es, eq, at) = found s q (ltb-true 0 q one_on) (rw (counted s low) at most) in
          let f = record_at rs p in
          let same = same_edit f.site f.seq e.tsite e.tseq in
          any-edit-on (is_target e) rs n p lp
          (and-on (is_create f && same) (has_seen e.vector f.site f.seq)
          (and-on (is_create f) same (rw at at create)
          (and-on (eqb f.site.0 s) (eqb f.seq.0 q) (eq-eqb f.site.0 s es) (eq-eqb f.seq.0 q eq)))
          (rw (es, eq) seen-on))
        where
          low-site : (s : ℕ) → 0 < e.tseq.0 → e.tseq.0 ≤ get_or counts s 0 → Dec (s < most_sites) → s < most_sites
          low-site s one most (yes l) = l
          low-site s one most (no d) =
              let none : get_or counts s 0 ≡ 0 = get_or-eq_default counts 0 (omega arith) in
              absurd (omega arith)

      target-held : any (is_target e) (edits_of rs n) ≡ true → target_held counts rs ps e ≡ true
      unfolding target_held
      target-held h =
          let (p, lp, t) = any-edit-at (is_target e) rs n h in
          let f = record_at rs p in
          let s = e.tsite.0 in
          let q = e.tseq.0 in
          let parts = target-parts e f t in
          let formed = formed-at sites rs n pass p lp in
          let low : s < most_sites = omega (arith, formed.site, parts.site) in
          let one : 0 < q = omega (arith, formed.seq, parts.seq) in
          let seen : leb q (get_or e.vector s 0) ≡ true = rw (parts.site, parts.seq) at parts.seen in
          let count : q ≤ count_from s (edits_of rs n)
          = rw (parts.site, parts.seq) at (seq-held sites rs n pass p n lp (omega arith)) in
          let at : place_of ps s q ≡ p = rw (parts.site, parts.seq) at (ix p lp) in
          rw (
            lt-ltb 0 q one,
            seen,
            le-leb q (get_or counts s 0) (rw (counted s low) count),
            at,
            parts.create,
          )

      pub target-same : target_held counts rs ps e ≡ any (is_target e) (edits_of rs n)
      target-same = same_test (target_held counts rs ps e) (any (is_target e) (edits_of rs n)) held-target target-held
