-- An accepted Set leaves sound tables sound: its object has one Set more and the groups that the step gives.
-- Assumes nothing.
use mathlib.Core.Path.{◌≡◌, sym, ap, ap₂, ◌∙◌}
use mathlib.Core.Bool.{true, false, ◌&&◌}
use mathlib.Core.List.{List, ◌++◌}
use Prim.Native.Nat.{ℕ, suc, ◌+◌, ◌-◌, ◌*◌, ◌≤◌, ◌<◌}
use native.Mathlib.Omega.{arith}
use native.Mathlib.Numerals.{add-one}
use native.Mathlib.Decide.{ℕ_discrete}
use lib.ListN.{length, replicate}
use Rattle.math_lists.specs.SortedLists.{any}
use Rattle.math_lists.proofs.Booleans.{off, both}
use Rattle.edit_record.specs.declared.Site.{Site}
use Rattle.edit_record.specs.declared.Seq.{Seq}
use Rattle.edit_record.specs.declared.Edit.{Edit}
use Rattle.edit_record.specs.Layout.{most_sites}
use Rattle.edit_record.specs.RecordBytes.{decode_of}
use Rattle.edit_record.specs.Answer1.{is_set}
use Rattle.edit_causal.specs.Causal.{same_edit}
use Rattle.edit_causal.proofs.CausalLaws.{same-reflexive}
use Rattle.edit_history.specs.EditsHeld.{record_at, edits_of, creates, is_set_on, is_target, object_of}
use Rattle.edit_history.proofs.RecordsPassed.{one_place}
use Rattle.group_step.specs.GroupRows.{most_groups, put_row}
use Rattle.table_drawing.specs.Tables.{Tables, held_by, place_at, sets_at, groups_at, entry_length}
use Rattle.table_soundness.proofs.SoundFacts.{Sound}
use Rattle.table_soundness.proofs.EachObject.{Entry, Row, Object}
use Rattle.table_arrival.specs.Answers6and7.{mates_of, groups_after}
use Rattle.table_arrival.specs.Arrival.{put_counts, put_record, with_set}
use Rattle.table_arrival.proofs.Admitted.{Accepted, admitted-target}
use Rattle.edit_causal.proofs.Identities.{same_parts}
use Rattle.table_arrival.proofs.ObjectOfSet.{object-less, target, target-site, target-seq, sets-are, row_fits}
use Rattle.table_arrival.proofs.ObjectOfSet.{after-ascending, after-below, after-some}
use Rattle.table_arrival.proofs.EntriesAfterStore.{object_of_lem, counts-long, counts-other, counts-place}
use Rattle.table_arrival.proofs.EntriesAfterStore.{counts-sets, counts-groups, other_place, other-sets}
use Rattle.table_arrival.proofs.EntriesAfterStore.{other-groups}
use Rattle.table_arrival.proofs.RowsAfterStore.{row-put-long, row-elsewhere, new_row, other_row}
use Rattle.table_arrival.proofs.UntouchedSound.{entry_kept, entry-grown, sound-after}
use Rattle.edit_record.proofs.WellFormed.{set-not-create, set-aimed}

-- ---- the row of its object

module _ (t : Tables) (b : List ℕ) (s : Sound t) (a : Accepted t b) (k : is_set (decode_of b) ≡ true) where
  abbrev e : Edit
  e = decode_of b

  abbrev o : ℕ
  o = object_of e (held_by t)

  abbrev p : ℕ
  p = place_at t.objects o

  abbrev aim : any (is_target e) (held_by t) ≡ true
  aim = admitted-target t b a.admitted (set-aimed e k)

  abbrev after : List ℕ
  after = groups_after t e

  abbrev gs' : List ℕ
  gs' = put_row o t.groups (after ++ replicate (most_groups - length after) 0)

  row-after : Row gs' o (length (mates_of t e) + 1) (length after)
  row-after =
      rw (add-one (length (mates_of t e)))
      (new_row t.groups o after (a.few k) (row_fits t s e aim) (suc (length (mates_of t e)))
      (after-ascending t s e aim) (after-below t s e aim) (after-some t s e aim))

  -- ---- the tables after an accepted Set

  module _ (wide : length t.counters.held ≡ most_sites) where
    abbrev n : ℕ
    n = t.counters.records

    abbrev rs : List ℕ
    rs = t.records

    abbrev rs' : List ℕ
    rs' = put_record rs n b

    abbrev os' : List ℕ
    os' = put_counts t.objects o (length (mates_of t e) + 1) (length after)

    fits : o * entry_length + entry_length ≤ length t.objects
    fits = omega (arith, s.objects-long, s.few-objects, (object-less t s e aim))

    -- its object, which has one Set more
    its-object : Object rs' (n + 1) os' gs' o
    its-object =
        let x = (s.object o (object-less t s e aim)).entry in
        let r = record_at rs p in
        let on : is_set_on r.site r.seq e ≡ true
        = ap₂ (λ (y : Site) (z : Seq). is_set e && same_edit e.tsite e.tseq y z) (target-site t s e aim)
        (target-seq t s e aim)
        ∙ rw (k, same-reflexive e.tsite e.tseq) in
        let grown : Entry rs' (n + 1) o p (sets_at t.objects o + 1)
        = entry-grown t b s wide a.admitted o p (sets_at t.objects o) x on
        (omega (arith, (sets-are t s e aim), a.admitted.set_room k)) in
        object_of_lem rs' (n + 1) os' gs' o (counts-place t.objects o (length (mates_of t e) + 1) (length after) fits)
        (counts-sets t.objects o (length (mates_of t e) + 1) (length after) fits)
        (counts-groups t.objects o (length (mates_of t e) + 1) (length after) fits)
        (rw (sets-are t s e aim) at grown)
        row-after

    -- no other object's Create has the identity that it names
    pub not_on : (q : ℕ) → q < t.counters.objects → (q ≡ o → ⊥) →
        is_set_on (record_at rs (place_at t.objects q)).site (record_at rs (place_at t.objects q)).seq e ≡ false
    not_on q l d =
        let r = record_at rs (place_at t.objects q) in
        let x = (s.object q l).entry in
        let y = (s.object o (object-less t s e aim)).entry in
        off (is_set_on r.site r.seq e) (λ h.
        let (is, eq) = both (is_set e) (same_edit e.tsite e.tseq r.site r.seq) h in
        let (hs, hq) = same_parts e.tsite e.tseq r.site r.seq eq in
        let places : place_at t.objects q ≡ p
        = one_place t.counters.sites rs n s.pass (place_at t.objects q) p x.place y.place
        (ap (λ (z : Site). z.0) (sym hs) ∙ sym (target t s e aim).site)
        (ap (λ (z : Seq). z.0) (sym hq) ∙ sym (target t s e aim).seq) in
        d (sym x.number ∙ ap (λ (i : ℕ). length (creates (edits_of rs i))) places ∙ y.number))

    other-object : (q : ℕ) → q < t.counters.objects → (q ≡ o → ⊥) → Object rs' (n + 1) os' gs' q
    other-object q l d =
        let x = s.object q l in
        let m = length (mates_of t e) + 1 in
        object_of_lem rs' (n + 1) os' gs' q (other_place t.objects q o m (length after) d)
        (other-sets t.objects q o m (length after) d)
        (other-groups t.objects q o m (length after) d)
        (entry_kept t b s wide a.admitted q (place_at t.objects q) (sets_at t.objects q) x.entry
        (not_on q l d))
        (other_row t.groups o after (a.few k) (row_fits t s e aim) q (sets_at t.objects q)
        (groups_at t.objects q) d x.row)

    pub set-keeps-sound : Sound (with_set t b)
    unfolding with_set
    set-keeps-sound =
        let m = length (mates_of t e) + 1 in
        let long : length os' ≡ length t.objects = counts-long t.objects o m (length after) in
        let wide_row : length gs' ≡ length t.groups
        = row-put-long t.groups o after (a.few k) (row_fits t s e aim) in
        sound-after t b s wide a.admitted 0 os' gs' (rw (set-not-create e k)) (omega (arith, s.few-objects))
        (long ∙ s.objects-long) (wide_row ∙ s.groups-long)
        (λ q l.
        let l' : q < t.counters.objects = omega arith in
        elim (ℕ_discrete q o) [ yes h ↦ rw h its-object | no d ↦ other-object q l' d ])
        (λ i l j.
        counts-other t.objects o m (length after) i (λ q. omega (arith, (object-less t s e aim)))
        (λ q. omega (arith, (object-less t s e aim)))
        ∙ s.objects-zero i (omega arith) (omega arith))
        (λ i l j.
        row-elsewhere t.groups o after (a.few k) (row_fits t s e aim) i (omega (arith, (object-less t s e aim)))
        ∙ s.groups-zero i (omega arith) (omega arith))
