-- The to-top edits noted one by one, each for the record that the index gives as its target: no other record is its
-- target, since each edit held has one place. Assumes nothing.
use mathlib.Core.Path.{◌≡◌, sym, ap, ap₂, ◌∙◌}
use mathlib.Core.Bool.{Bool, true, false, cond}
use mathlib.Core.List.{List, [], ◌∷◌, ◌++◌, append-nil}
use Prim.Native.Nat.{ℕ, ◌+◌, ◌≤◌, ◌<◌, max}
use native.Mathlib.Numerals.{add-one}
use native.Mathlib.Omega.{arith}
use native.Mathlib.Decide.{ℕ_discrete}
use lib.ListN.{length, get_or, set, replicate}
use lib.Dec.{eqb}
use lib.Seq.{get_or-set_same, get_or-set_other}
use borrow.Author.Tests.{eqb-true, eq-eqb}
use Rattle.math_lists.specs.SortedLists.{filter}
use Rattle.math_lists.proofs.Booleans.{both, and-on, or_left, off}
use Rattle.math_lists.proofs.ByPlaces.{zero-anywhere}
use Rattle.math_lists.proofs.GrownAtEnd.{filter-snoc}
use Rattle.edit_record.specs.Answer1.{is_top, is_bottom}
use Rattle.edit_record.proofs.WellFormed.{layer-aimed}
use Rattle.edit_causal.specs.Causal.{same_edit}
use Rattle.edit_history.specs.EditsHeld.{record_at, edits_of}
use Rattle.edit_history.proofs.EditsHeld.{target-parts}
use Rattle.edit_history.proofs.RecordsPassed.{target-before}
use Rattle.edit_walk.specs.WalkForms.{place_of, Indexed}
use Rattle.table_drawing.specs.Tables.{Tables}
use Rattle.table_soundness.proofs.SoundFacts.{Sound}
use Rattle.list_order.specs.LayerForms.{rank_of, ranks}
use Rattle.list_objects.specs.ObjectForms.{key_on, largest_of, tops_of, TopsAimed, TopsNoted, CreatesHeld}
use Rattle.list_objects.proofs.LargestKey.{largest-snoc}

-- ---- in sound tables

pub tops-aimed : (t : Tables) → Sound t → TopsAimed t.records t.counters.records
tops-aimed t s p l h =
    let e = record_at t.records p in
    let aimed = layer-aimed e (or_left (is_top e) (is_bottom e) h) in
    let (q, m, y) = target-before t.counters.sites t.records t.counters.records s.pass p l aimed in
    let x = target-parts e (record_at t.records q) y in
    (q, omega arith, x.site, x.seq)

pub creates-held : (t : Tables) → Sound t → CreatesHeld t.objects t.counters.objects t.counters.records
creates-held t s o l = (s.object o l).entry.place

-- ---- none yet

pub none-noted : (rs : List ℕ) (n k : ℕ) → TopsNoted rs n 0 (replicate k 0)
unfolding largest_of filter edits_of
none-noted rs n k p l = zero-anywhere k p

-- ---- one record more

module _ (rs ps : List ℕ) (n : ℕ) where
  abbrev most : ℕ → ℕ → ℕ
  most p i = largest_of (key_on (record_at rs p).site (record_at rs p).seq) (tops_of rs i)

  tops-more : (i : ℕ) → tops_of rs (i + 1) ≡ tops_of rs i ++ cond (is_top (record_at rs i)) (record_at rs i ∷ []) []
  unfolding edits_of
  tops-more i = rw add-one (filter-snoc is_top (edits_of rs i) (record_at rs i))

  pub no-top-more :
      (i : ℕ) (tops : List ℕ) → is_top (record_at rs i) ≡ false → TopsNoted rs n i tops → TopsNoted rs n (i + 1) tops
  no-top-more i tops h noted p l =
      let same : tops_of rs (i + 1) ≡ tops_of rs i = tops-more i ∙ rw h (append-nil (tops_of rs i)) in
      noted p l ∙ ap (largest_of (key_on (record_at rs p).site (record_at rs p).seq)) (sym same)

  module _ (index : Indexed rs n ps) (aims : TopsAimed rs n) (i : ℕ) (l : i < n) (top : is_top (record_at rs i) ≡ true)
    where
      abbrev aim : ℕ
      aim = place_of ps (record_at rs i).tsite.0 (record_at rs i).tseq.0

      abbrev on? : ℕ → Bool
      on? p = same_edit (record_at rs i).tsite (record_at rs i).tseq (record_at rs p).site (record_at rs p).seq

      pub aim-held : aim < n
      aim-held =
          let (q, less, u, v) = aims i l top in
          let e : aim ≡ q = rw (u, v) at (index q less) in
          omega arith

      on-own : on? aim ≡ true
      on-own =
          let (q, less, u, v) = aims i l top in
          let a = record_at rs i in
          let e : aim ≡ q = rw (u, v) at (index q less) in
          let b = record_at rs aim in
          let site : a.tsite.0 ≡ b.site.0 = sym u ∙ ap (λ (x : ℕ). (record_at rs x).site.0) (sym e) in
          let seq : a.tseq.0 ≡ b.seq.0 = sym v ∙ ap (λ (x : ℕ). (record_at rs x).seq.0) (sym e) in
          and-on (eqb a.tsite.0 b.site.0) (eqb a.tseq.0 b.seq.0)
          (eq-eqb a.tsite.0 b.site.0 site) (eq-eqb a.tseq.0 b.seq.0 seq)

      on-no-other : (p : ℕ) → p < n → (p ≡ aim → ⊥) → on? p ≡ false
      on-no-other p m d =
          off (on? p) (λ h.
          let a = record_at rs i in
          let b = record_at rs p in
          let (u, v) = both (eqb a.tsite.0 b.site.0) (eqb a.tseq.0 b.seq.0) h in
          d (sym (rw (eqb-true a.tsite.0 b.site.0 u, eqb-true a.tseq.0 b.seq.0 v) (index p m))))

      most-more : (p : ℕ) → most p (i + 1) ≡ max (most p i) (cond (on? p) (ranks + rank_of (record_at rs i)) 0)
      most-more p =
          let f = key_on (record_at rs p).site (record_at rs p).seq in
          ap (largest_of f) (tops-more i ∙ rw top) ∙ largest-snoc f (tops_of rs i) (record_at rs i)

      pub top-more :
          (tops : List ℕ) (key : ℕ) → n ≤ length tops → key ≡ ranks + rank_of (record_at rs i) →
          TopsNoted rs n i tops → TopsNoted rs n (i + 1) (set tops aim (max (get_or tops aim 0) key))
      top-more tops key fits new noted p m = go (ℕ_discrete p aim)
        where
          go : Dec (p ≡ aim) → get_or (set tops aim (max (get_or tops aim 0) key)) p 0 ≡ most p (i + 1)
          go (yes e) =
              let own : most aim (i + 1) ≡ max (most aim i) (ranks + rank_of (record_at rs i))
              = most-more aim ∙ rw on-own in
              rw (e, get_or-set_same tops aim (max (get_or tops aim 0) key) 0 (omega (arith, aim-held)))
              (ap₂ max (noted aim aim-held) new ∙ sym own)
          go (no d) =
              let other : most p (i + 1) ≡ max (most p i) 0 = most-more p ∙ rw (on-no-other p m d) in
              get_or-set_other tops aim p (max (get_or tops aim 0) key) 0 d ∙ noted p m ∙ omega (arith, other)
