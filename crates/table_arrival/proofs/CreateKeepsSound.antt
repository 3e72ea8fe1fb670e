-- An accepted Create leaves sound tables sound: one object more, with no Sets and the empty group. Assumes nothing.
use mathlib.Core.Path.{◌≡◌, refl, sym, ap, ◌∙◌}
use mathlib.Core.Logic.{inl, inr}
use mathlib.Core.Bool.{true, false, cond}
use mathlib.Core.List.{List, [], ◌∷◌, ◌++◌}
use Prim.Native.Nat.{ℕ, suc, ◌+◌, ◌*◌, ◌≤◌, ◌<◌}
use native.Mathlib.Omega.{arith}
use lib.ListN.{length, get_or}
use lib.Dec.{eqb}
use borrow.Author.Tests.{eq-eqb, leb-false}
use Rattle.math_lists.proofs.Booleans.{off, both}
use Rattle.math_lists.proofs.LastBelow.{last}
use Rattle.edit_record.specs.declared.Site.{Site}
use Rattle.edit_record.specs.declared.Seq.{Seq}
use Rattle.edit_record.specs.declared.Edit.{Edit}
use Rattle.edit_record.specs.Layout.{most_sites}
use Rattle.edit_record.specs.RecordBytes.{decode_of}
use Rattle.edit_record.specs.Answer1.{is_create, is_set}
use Rattle.edit_causal.specs.Causal.{same_edit}
use Rattle.edit_history.specs.EditsHeld.{record_at, edits_of, count_from, creates, is_set_on, sets_on}
use Rattle.edit_history.specs.Answers2to5.{is_repeated}
use Rattle.edit_history.proofs.EditsHeld.{target-parts, count-more, count-grows}
use Rattle.edit_history.proofs.RecordsPassed.{next-at, target-before}
use Rattle.group_step.specs.GroupRows.{most_groups}
use Rattle.table_drawing.specs.Tables.{Tables, held_by, place_at, entry_length}
use Rattle.table_soundness.proofs.SoundFacts.{Sound}
use Rattle.table_soundness.proofs.EachObject.{Entry, Row, Object}
use Rattle.table_arrival.specs.Arrival.{put_entry, put_record, with_create}
use Rattle.table_arrival.proofs.Admitted.{Admitted}
use Rattle.table_arrival.proofs.RecordsOneMore.{put-here, put-edits-before}
use Rattle.edit_causal.proofs.Identities.{same_parts}
use Rattle.table_soundness.proofs.ObjectsByNumber.{chosen_none}
use Rattle.table_arrival.proofs.EntriesAfterStore.{object_of_lem, entry-long, entry_past, entry_here, entry_other}
use Rattle.table_arrival.proofs.UntouchedSound.{sets-snoc, room, held_after, entry_kept, sound-after}
use Rattle.edit_record.proofs.WellFormed.{create-not-set, set-aimed}

-- ---- an accepted edit is the first of its identity

module _ (t : Tables) (b : List ℕ) (s : Sound t) (wide : length t.counters.held ≡ most_sites)
    (a : Admitted t b) where
  abbrev e : Edit
  e = decode_of b

  abbrev n : ℕ
  n = t.counters.records

  abbrev rs : List ℕ
  rs = t.records

  -- no edit held has its identity
  identity-new : (p : ℕ) → p < n → (record_at rs p).site.0 ≡ e.site.0 → (record_at rs p).seq.0 ≡ e.seq.0 → ⊥
  unfolding is_repeated
  identity-new p l hs hq =
      let x = (record_at rs p).site.0 in
      let new : count_from e.site.0 (held_by t) < e.seq.0 = leb-false e.seq.0 _ a.fresh in
      let one : ◌≡◌ {A = ℕ} (cond (eqb (record_at rs p).site.0 x) 1 0) 1 = rw (eq-eqb x x refl) in
      let here : count_from x (edits_of rs (suc p)) ≡ count_from x (edits_of rs p) + 1 = count-more x rs p ∙ rw one in
      let more : count_from x (edits_of rs (suc p)) ≤ count_from x (held_by t) = count-grows x rs (suc p) n l in
      let same : count_from x (held_by t) ≡ count_from e.site.0 (held_by t) = ap (λ (y : ℕ). count_from y (held_by t))
      hs in
      omega (arith, next-at t.counters.sites rs n s.pass p l)

  -- so no Set held names it
  pub no-set-held : length (sets_on e.site e.seq (held_by t)) ≡ 0
  unfolding sets_on
  no-set-held =
      chosen_none (is_set_on e.site e.seq) rs n (λ p l. off (is_set_on e.site e.seq (record_at rs p)) (λ h.
      let m = record_at rs p in
      let (is, eq) = both (is_set m) (same_edit m.tsite m.tseq e.site e.seq) h in
      let (ts, tq) = same_parts m.tsite m.tseq e.site e.seq eq in
      let (q, lq, tgt) = target-before t.counters.sites rs n s.pass p l (set-aimed m is) in
      let x = target-parts m (record_at rs q) tgt in
      identity-new q (omega arith) (x.site ∙ ap (λ (y : Site). y.0) ts) (x.seq ∙ ap (λ (y : Seq). y.0) tq)))

  -- ---- the tables after an accepted Create

  module _ (k : is_create e ≡ true) where
    abbrev m : ℕ
    m = t.counters.objects

    abbrev rs' : List ℕ
    rs' = put_record rs n b

    abbrev os' : List ℕ
    os' = put_entry t.objects m n 0 1

    fits : m * entry_length + entry_length ≤ length t.objects
    fits = omega (arith, s.objects-long, a.create-room k)

    -- the objects that there were, and the new one
    old-object : (o : ℕ) → o < m → Object rs' (n + 1) os' t.groups o
    old-object o l =
        let x = s.object o l in
        let p = place_at t.objects o in
        let (ep, ek, eg) = entry_other t.objects m n 0 1 o (λ q. omega arith) in
        let other : is_set_on (record_at rs p).site (record_at rs p).seq e ≡ false = rw (create-not-set e k) in
        object_of_lem rs' (n + 1) os' t.groups o ep ek eg (entry_kept t b s wide a o p _ x.entry other) x.row

    new-entry : Entry rs' (n + 1) m n 0
    new-entry =
        let here : record_at rs' n ≡ e = put-here rs n b (room t b s wide a) in
        let none : length (sets_on e.site e.seq (held_by t ++ (e ∷ []))) ≡ 0
        = sets-snoc e.site e.seq (held_by t) e ∙ rw (no-set-held, create-not-set e k) in
        record {
          place = omega arith;
          create = ap is_create here ∙ k;
          number =
              ap (λ (es : List Edit). length (creates es))
              (put-edits-before rs n b (room t b s wide a) n (omega arith))
              ∙ sym s.objects;
          sets =
              sym (ap (λ (r : Edit). length (sets_on r.site r.seq (edits_of rs' (n + 1)))) here
              ∙ ap (λ (es : List Edit). length (sets_on e.site e.seq es)) (held_after t b s wide a)
              ∙ none);
          few = omega arith;
        }

    new_row : Row t.groups m 0 1
    new_row =
        let zero-at : (i : ℕ) → i < most_groups → get_or t.groups (m * most_groups + i) 0 ≡ 0
        = λ i l. s.groups-zero (m * most_groups + i) (omega arith) (omega (arith, s.groups-long, a.create-room k)) in
        record {
          some = omega arith;
          few = omega arith;
          small = λ i l. omega (arith, zero-at i (omega arith));
          rising = λ i l. absurd (omega arith);
          rest = λ i l g. zero-at i l;
        }

    new-object : Object rs' (n + 1) os' t.groups m
    new-object =
        let (ep, ek, eg) = entry_here t.objects m n 0 1 fits in
        object_of_lem rs' (n + 1) os' t.groups m ep ek eg new-entry new_row

    pub create-keeps-sound : Sound (with_create t b)
    unfolding with_create
    create-keeps-sound =
        sound-after t b s wide a 1 os' t.groups (rw k) (omega (arith, a.create-room k))
        (entry-long t.objects m n 0 1 ∙ s.objects-long) s.groups-long
        (λ o l.
        let l' : o < suc m = omega arith in
        elim (last l') [ inl j ↦ old-object o j | inr q ↦ rw q new-object ])
        (λ i l j.
        entry_past t.objects m n 0 1 i (omega arith)
        ∙ s.objects-zero i (omega arith) (omega (arith, entry-long t.objects m n 0 1)))
        (λ i l j. s.groups-zero i (omega arith) j)
