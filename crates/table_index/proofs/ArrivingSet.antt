-- A Set that arrives, against one that is held, of its object and its key: the one that is held has not seen it, so
-- that they are in conflict exactly if it has not seen that one and is shown otherwise. Assumes that the records pass.
use mathlib.Core.Path.{◌≡◌, sym, ap, ◌∙◌}
use mathlib.Core.Bool.{Bool, true, false, not, ◌&&◌, and-true, and-false}
use mathlib.Core.List.{List}
use Prim.Native.Nat.{ℕ, ◌≤◌, ◌<◌}
use native.Mathlib.Omega.{arith}
use native.Mathlib.Decide.{ℕ_discrete}
use lib.Dec.{eqb}
use lib.ListN.{get_or}
use borrow.Author.Tests.{eqb-true, eq-eqb, leb-true}
use Rattle.math_lists.proofs.Booleans.{off, both, and-on}
use Rattle.edit_record.specs.declared.Edit.{Edit}
use Rattle.edit_record.specs.Answer1.{is_set}
use Rattle.edit_record.specs.Layout.{most_sites}
use Rattle.edit_causal.specs.Causal.{same_edit, has_seen, are_concurrent}
use Rattle.edit_causal.specs.Conflict.{do_conflict}
use Rattle.edit_causal.specs.ShownValue.{shown_value}
use Rattle.edit_history.specs.EditsHeld.{record_at, edits_of, count_from}
use Rattle.edit_history.proofs.EditsHeld.{target-parts, count-grows}
use Rattle.edit_history.proofs.RecordsPassed.{InTurn, passed-at, formed-at, seq-held}
use Rattle.group_sight.proofs.NamesOfSets.{seen-never-conflicts}
use Rattle.table_drawing.specs.declared.Counters.{Counters}
use Rattle.table_index.specs.IndexForms.{is_on, is_keyed, Holds, Arriving, unseen_other}
use Rattle.table_index.proofs.SurveyByIndex.{turn}

module _ (c : Counters) (rs : List ℕ) (h : Holds c rs) (q : ℕ) (e : Edit) (arriving : Arriving c rs q e) where
  pub in-turn : InTurn c.sites (edits_of rs c.records) e
  in-turn = turn c rs h e arriving.in-turn

  module _ (p : ℕ) (l : p < c.records) where
    abbrev a : Edit
    a = record_at rs p

    site-low : e.site.0 < most_sites
    site-low = omega (arith, in-turn.formed.site, h.few-sites)

    -- it is another one
    not_same : same_edit a.site a.seq e.site e.seq ≡ false
    not_same = off (same_edit a.site a.seq e.site e.seq) (λ y.
        let (s, k) = both (eqb a.site.0 e.site.0) (eqb a.seq.0 e.seq.0) y in
        let site = eqb-true a.site.0 e.site.0 s in
        let held : a.seq.0 ≤ count_from e.site.0 (edits_of rs c.records)
        = rw (← site) (seq-held c.sites rs c.records h.pass p c.records l (omega arith)) in
        omega (arith, eqb-true a.seq.0 e.seq.0 k, in-turn.next))

    -- the one that is held has not seen it
    entry-low : get_or a.vector e.site.0 0 ≤ count_from e.site.0 (edits_of rs c.records)
    entry-low = go (ℕ_discrete e.site.0 a.site.0)
      where
        go : Dec (e.site.0 ≡ a.site.0) →
            get_or a.vector e.site.0 0 ≤ count_from e.site.0 (edits_of rs c.records)
        go (yes y) =
            let own = (formed-at c.sites rs c.records h.pass p l).own in
            let held = seq-held c.sites rs c.records h.pass p c.records l (omega arith) in
            rw y (omega (arith, own, held))
        go (no d) =
            omega (
              arith,
              (passed-at c.sites rs c.records h.pass p l).in_turn.others e.site.0 site-low d,
              count-grows e.site.0 rs p c.records (omega arith),
            )

    not_seen : has_seen a.vector e.site e.seq ≡ false
    not_seen = off (has_seen a.vector e.site e.seq) (λ y.
        omega (arith, leb-true e.seq.0 (get_or a.vector e.site.0 0) y, entry-low, in-turn.next))

    pub conflict-unseen :
        is_set e ≡ true → is_keyed rs q e.key p ≡ true →
        unseen_other a e (shown_value e.key e.value) ≡ do_conflict a e
    conflict-unseen set keyed =
        let g = record_at rs q in
        let parts = target-parts e g arriving.target in
        let (on, key) = both (is_on rs q p) (eqb a.key e.key) keyed in
        let (is, aim) = both (is_set a) (same_edit a.tsite a.tseq g.site g.seq) on in
        let (s, k) = both (eqb a.tsite.0 g.site.0) (eqb a.tseq.0 g.seq.0) aim in
        let target : same_edit a.tsite a.tseq e.tsite e.tseq ≡ true
        = and-on (eqb a.tsite.0 e.tsite.0) (eqb a.tseq.0 e.tseq.0)
        (eq-eqb a.tsite.0 e.tsite.0 (eqb-true a.tsite.0 g.site.0 s ∙ parts.site))
        (eq-eqb a.tseq.0 e.tseq.0 (eqb-true a.tseq.0 g.seq.0 k ∙ parts.seq)) in
        let seen = has_seen e.vector a.site a.seq in
        let together : are_concurrent a e ≡ not seen
        = rw (not_same, not_seen, and-false (not (same_edit e.site e.seq a.site a.seq)))
        (and-true (not seen)) in
        let other = not (eqb (shown_value a.key a.value) (shown_value e.key e.value)) in
        ap (λ (b : Bool). b && other) (sym together)
        ∙ rest (is_set a) (is_set e) (are_concurrent a e) (same_edit a.tsite a.tseq e.tsite e.tseq)
        (eqb a.key e.key) other is set target key
      where
        rest :
            (i j s t k v : Bool) → i ≡ true → j ≡ true → t ≡ true → k ≡ true →
            (s && v) ≡ (i && j && s && t && k && v)
        rest i j true t k v a b d f = rw (a, b, d, f)
        rest i j false t k v a b d f = rw (a, b)

    -- one that it has seen is in conflict with it no more
    pub seen_apart : has_seen e.vector a.site a.seq ≡ true → do_conflict a e ≡ false
    seen_apart seen =
        seen-never-conflicts a e
        (and-on (not (same_edit a.site a.seq e.site e.seq)) (has_seen e.vector a.site a.seq)
        (rw not_same) seen)
