-- Of records that pass 1 to 5 in their order: an edit that another has seen stands before it, in the table and in the
-- total order; and who has seen an edit has seen what its author had seen. Assumes nothing.
use mathlib.Core.Path.{◌≡◌, sym, ap, ◌∙◌}
use mathlib.Core.Bool.{true, false, not}
use mathlib.Core.List.{List}
use Prim.Native.Nat.{ℕ, ◌+◌, ◌≤◌, ◌<◌}
use native.Mathlib.Omega.{arith}
use native.Mathlib.Decide.{ℕ_discrete}
use lib.ListN.{get_or}
use lib.Dec.{eqb, ltb}
use borrow.Author.Tests.{eq-eqb, eqb-true, leb-true, le-leb, ltb-false, not-true}
use Rattle.math_lists.proofs.Booleans.{clash, off, both}
use Rattle.math_lists.proofs.NumbersBelow.{none-at}
use Rattle.edit_record.specs.declared.Edit.{Edit}
use Rattle.edit_record.specs.Layout.{most_sites}
use Rattle.edit_causal.specs.Causal.{same_edit, has_seen, comes_before}
use Rattle.edit_causal.specs.TotalOrder.{ranks_before}
use Rattle.edit_causal.proofs.VectorSums.{NowhereAbove, larger-ranks-later}
use Rattle.edit_history.specs.EditsHeld.{record_at, edits_of, count_from}
use Rattle.edit_history.specs.Answers2to5.{larger_somewhere, tears, is_torn, records_pass}
use Rattle.edit_history.proofs.EditsHeld.{any-edit-on, count-grows}
use Rattle.edit_history.proofs.RecordsPassed.{passed-at, next-at, formed-at, one_place, place-of}

module _ (sites : ℕ) (few : sites ≤ most_sites) (rs : List ℕ) (n : ℕ) (pass : records_pass sites rs n ≡ true)
    (p q : ℕ) (lp : p < n) (lq : q < n) where
  abbrev a : Edit
  a = record_at rs p

  abbrev b : Edit
  b = record_at rs q

  abbrev other : (x y : ℕ) → x < n → y < n → ((record_at rs x).site.0 ≡ (record_at rs y).site.0 → ⊥) →
      get_or (record_at rs x).vector (record_at rs y).site.0 0 ≤ count_from (record_at rs y).site.0 (edits_of rs x)
  other x y lx ly d =
      (passed-at sites rs n pass x lx).in_turn.others (record_at rs y).site.0
      (omega (arith, (formed-at sites rs n pass y ly).site))
      (λ e. d (sym e))

  module _ (h : comes_before a b ≡ true) where
    apart : (a.site.0 ≡ b.site.0) → (a.seq.0 ≡ b.seq.0) → ⊥
    apart e f =
        let (d, _) = both (not (same_edit a.site a.seq b.site b.seq))
        (has_seen b.vector a.site a.seq) h in
        let same : same_edit a.site a.seq b.site b.seq ≡ true
        = rw (eq-eqb a.site.0 b.site.0 e, eq-eqb a.seq.0 b.seq.0 f) in
        clash same (not-true (same_edit a.site a.seq b.site b.seq) d)

    seen : has_seen b.vector a.site a.seq ≡ true
    seen = (both (not (same_edit a.site a.seq b.site b.seq)) (has_seen b.vector a.site a.seq) h).1

    reached : a.seq.0 ≤ get_or b.vector a.site.0 0
    reached = leb-true a.seq.0 (get_or b.vector a.site.0 0) seen

    -- what b has seen of a's site was held before b
    counted : a.seq.0 ≤ count_from a.site.0 (edits_of rs q)
    counted =
        elim (ℕ_discrete a.site.0 b.site.0) [
          | yes e ↦
              (let own : b.seq.0 ≡ get_or b.vector a.site.0 0
              = (formed-at sites rs n pass q lq).own ∙ ap (λ (s : ℕ). get_or b.vector s 0) (sym e) in
              let next : b.seq.0 ≡ count_from a.site.0 (edits_of rs q) + 1
              = next-at sites rs n pass q lq ∙ ap (λ (s : ℕ). count_from s (edits_of rs q) + 1) (sym e) in
              let d : a.seq.0 ≡ b.seq.0 → ⊥ = apart e in
              omega (arith, reached))
          | no d ↦ omega (arith, reached, other q p lq lp (λ e. d (sym e)))
        ]

    pub stands-before : p < q
    stands-before =
        let (r, l, e, f) = place-of sites rs n pass q (omega arith) a.site.0 a.seq.0
        (formed-at sites rs n pass p lp).seq counted in
        let same : r ≡ p = one_place sites rs n pass r p (omega arith) lp e f in
        omega arith

    calm : larger_somewhere a.vector b.vector ≡ false
    unfolding is_torn
    calm =
        off (larger_somewhere a.vector b.vector) (λ t.
        clash (any-edit-on (tears b) rs q p stands-before (rw (seen, t))) (passed-at sites rs n pass q lq).whole)

    nowhere-above : NowhereAbove most_sites a.vector b.vector
    unfolding larger_somewhere
    nowhere-above i l =
        ltb-false (get_or b.vector i 0) (get_or a.vector i 0)
        (none-at most_sites (λ s. ltb (get_or b.vector s 0) (get_or a.vector s 0)) calm i l)

    below-own : get_or a.vector b.site.0 0 < get_or b.vector b.site.0 0
    below-own =
        let own : b.seq.0 ≡ get_or b.vector b.site.0 0 = (formed-at sites rs n pass q lq).own in
        elim (ℕ_discrete a.site.0 b.site.0) [
          | yes e ↦
              (let mine : a.seq.0 ≡ get_or a.vector b.site.0 0
              = (formed-at sites rs n pass p lp).own ∙ ap (λ (s : ℕ). get_or a.vector s 0) e in
              let up : a.seq.0 ≤ get_or b.vector b.site.0 0
              = rw e at reached in
              let d : a.seq.0 ≡ b.seq.0 → ⊥ = apart e in
              omega arith)
          | no d ↦
              omega (
                arith,
                other p q lp lq d,
                next-at sites rs n pass q lq,
                count-grows b.site.0 rs p q (omega (arith, stands-before)),
              )
        ]

    pub before-ranks : ranks_before a b ≡ true
    before-ranks =
        larger-ranks-later a b nowhere-above b.site.0 (omega (arith, (formed-at sites rs n pass q lq).site))
        below-own

-- ---- who has seen an edit has seen what its author had seen

module _ (sites : ℕ) (few : sites ≤ most_sites) (rs : List ℕ) (n : ℕ) (pass : records_pass sites rs n ≡ true)
    (p q r : ℕ) (lp : p < n) (lq : q < n) (lr : r < n) where
  pub seen-through :
      comes_before (record_at rs p) (record_at rs q) ≡ true → comes_before (record_at rs q) (record_at rs r) ≡ true →
      comes_before (record_at rs p) (record_at rs r) ≡ true
  seen-through h k =
      let a = record_at rs p in
      let c = record_at rs r in
      let one = stands-before sites few rs n pass p q lp lq h in
      let two = stands-before sites few rs n pass q r lq lr k in
      let site : a.site.0 < most_sites = omega (arith, (formed-at sites rs n pass p lp).site) in
      let seen : has_seen c.vector a.site a.seq ≡ true
      = le-leb a.seq.0 (get_or c.vector a.site.0 0)
      (omega (
        arith,
        reached sites few rs n pass p q lp lq h,
        nowhere-above sites few rs n pass q r lq lr k a.site.0 site,
      )) in
      let other : same_edit a.site a.seq c.site c.seq ≡ false
      = off (same_edit a.site a.seq c.site c.seq) (λ e.
      let (s, t) = both (eqb a.site.0 c.site.0) (eqb a.seq.0 c.seq.0) e in
      let same = one_place sites rs n pass p r lp lr (eqb-true a.site.0 c.site.0 s)
      (eqb-true a.seq.0 c.seq.0 t) in
      omega arith) in
      rw (other, seen)
