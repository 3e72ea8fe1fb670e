-- `table_replay::take_records` meets its contract. Assumes nothing.
use mathlib.Core.Path.{◌≡◌, refl, sym, ap, subst, ◌∙◌}
use mathlib.Core.Bool.{true}
use mathlib.Core.List.{List}
use Prim.Native.Nat.{ℕ, ◌+◌, ◌-◌, ◌<◌}
use native.Mathlib.Numerals.{add-one}
use native.Mathlib.Omega.{arith}
use lib.ListN.{length, take, drop}
use borrow.Author.Tests.{eq-eqb}
use borrow.Author.Rules.{rules}
use Rattle.edit_record.specs.Layout.{most_sites, record_length}
use Rattle.edit_record.specs.declared.Edit.{Edit}
use Rattle.edit_record.specs.RecordBytes.{decode_of, span_of}
use Rattle.edit_form.specs.OldForm.{old_form, long_from, start_of, stored_in}
use Rattle.edit_form.proofs.CopiedParts.{length-least}
use Rattle.edit_form.proofs.OldRecords.{long-old, long-from-whole}
use Rattle.edit_form.proofs.Stretches.{next_start, next-inside, lent_is, start-inside, lent-there}
use Rattle.edit_history.specs.EditsHeld.{most_records, edits_of, count_from}
use Rattle.edit_walk.specs.WalkForms.{Spaced}
use Rattle.edit_walk.proofs.RoomInIndex.{spaced-same}
use Rattle.table_drawing.specs.Tables.{Tables, empty_drawing, sites_right, held_by}
use Rattle.table_drawing.specs.Tables.{records_length, objects_length, groups_length}
use Rattle.table_drawing.proofs.RefusalNumbers.{refused}
use Rattle.table_index.specs.IndexForms.{IndexOf}
use Rattle.table_arrival.proofs.Faithful.{faithful-apart}
use Rattle.table_plain.specs.TakingForms.{Takes}
use Rattle.table_kept.specs.BoxForms.{KeptFor}
use Rattle.table_given.specs.Replay.{edits_in}
use Rattle.table_given.proofs.OwnRecords.{holds, held-edits}
use Rattle.table_given.proofs.ReplayGoes.{Going, going_start, going-faithful, going-sound}
use Rattle.table_given.proofs.ReplayGoes.{going-ends, going-long, next-long}
use Rattle.table_replay.proofs.RoomForAll.{next-room}
use Rattle.table_replay.proofs.ShortOrLong.{short-kept, long-takes, long-leaves}
use Rattle.table_replay.proofs.ShortOrLong.{going_next, parts-after, kept-after}
use Rattle.table_replay.proofs.take_records.Invariants.{counted-in}
use Rattle.table_replay.proofs.take_records.Goals as goal
use Rattle.table_replay.proofs.take_records.Goals.{then-form-eq-OLD, else-form-eq-OLD}

-- ---- of a replay that has come to record i, where t are the tables

module _ (sites : ℕ) (rs : ℕ → List ℕ) (right : sites_right sites ≡ true) (i : ℕ) (t : Tables) (g : Going sites rs i t) where
  -- the edits held are the stretch's
  held-now : edits_of t.records t.counters.records ≡ edits_in rs i
  held-now = held-edits sites rs i t (holds sites rs right i t g)

  wide_at : length t.counters.held ≡ most_sites
  wide_at = (going-faithful sites rs right i t g).kept.wide

  -- what taking the next record needs
  takes :
      (n : ℕ) → i < n → (ps ns cs hs : List ℕ) → IndexOf t.records t.counters.records ps ns cs hs →
      Spaced (λ s. count_from s (edits_in rs n)) ps → Takes t ps ns cs hs (rs i)
  takes n below ps ns cs hs index spaced =
      record {
        is_sound = going-sound sites rs right i t g;
        wide = wide_at;
        index = index;
        apart = faithful-apart t (going-faithful sites rs right i t g);
        room = next-room sites rs right i n below t g ps spaced;
      }

-- lists of the stated lengths are as long as those of the tables s at the start
same-lengths :
    (sites : ℕ) (rs : ℕ → List ℕ) → sites_right sites ≡ true → {s : Tables} → s ≡ empty_drawing sites →
    (xs ys zs : List ℕ) →
    (length xs ≡ records_length) × (length ys ≡ objects_length) × (length zs ≡ groups_length) →
    (length xs ≡ length s.records) × (length ys ≡ length s.objects) × (length zs ≡ length s.groups)
same-lengths sites rs right {s = s} e xs ys zs (x, y, z) =
    let (u, v, w) = going-long sites rs right 0 s (going_start sites rs s e) in
    (x ∙ sym u, y ∙ sym v, z ∙ sym w)

-- ---- the record that is taken

pub loop-i-init : goal.loop-i-init
unfolding start_of edits_in
loop-i-init c = (refl, going_start _ _ _ c.requires.0, c.requires.1, c.requires.2, c.requires.6, refl)

pub slice_bounds-rest-count : goal.slice_bounds-rest-count
slice_bounds-rest-count c =
    let a = c.args in
    let l = c.loop-i in
    start-inside a.form a.recs.now l.i l.at l.invariant.0 a.n c.loop-i-test.true c.requires.5

pub slice_bounds-rest-start : goal.slice_bounds-rest-start
slice_bounds-rest-start c =
    let a = c.args in
    let l = c.loop-i in
    start-inside a.form a.recs.now l.i l.at l.invariant.0 a.n c.loop-i-test.true c.requires.5

pub overflow_add-at : goal.overflow_add-at
overflow_add-at c =
    let a = c.args in
    let l = c.loop-i in
    let next = next-inside a.form a.recs.now l.i l.at l.invariant.0 a.n c.loop-i-test.true c.requires.5
    c.length_from-used.result c.length_from-used.ensures in
    omega (arith, next, c.well_formed)

pub widened_from-wide-requires : goal.widened_from-wide-requires
widened_from-wide-requires c =
    let a = c.args in
    let l = c.loop-i in
    let there = lent-there a.form a.recs.now l.i l.at l.invariant.0 a.n c.loop-i-test.true c.requires.5 in
    omega (arith, length-least a.form (take (length a.recs.now - l.at) (drop l.at a.recs.now)), there)

pub slice_bounds-long_in-end : goal.slice_bounds-long_in-end
slice_bounds-long_in-end c =
    let wide : length c.if-form-eq-OLD.wide ≡ record_length = elim c.if-form-eq-OLD.branch [
      | then-form-eq-OLD v ↦ rw v.wide-is (search rules)
      | else-form-eq-OLD v ↦ rw v.wide-is c.loop-i.invariant.5
    ] in
    sym wide

-- where the form is the old one, the record is there as a long one
pub long_in-rec-requires : goal.long_in-rec-requires
long_in-rec-requires c =
    let a = c.args in
    let l = c.loop-i in
    let rest = take (length a.recs.now - l.at) (drop l.at a.recs.now) in
    let widened : a.form ≡ old_form → c.if-form-eq-OLD.wide ≡ long_from a.form rest
    = λ old. elim c.if-form-eq-OLD.branch [
      | then-form-eq-OLD v ↦ v.wide-is ∙ v.widened_from-wide.ensures ∙ sym (long-old a.form rest (eq-eqb a.form old_form old))
      | else-form-eq-OLD v ↦ absurd (v.if-form-eq-OLD.false old)
    ] in (
      lent-there a.form a.recs.now l.i l.at l.invariant.0 a.n c.loop-i-test.true c.requires.5,
      c.length_from-used.ensures,
      widened,
    )

pub slice_bounds-take_short-end : goal.slice_bounds-take_short-end
slice_bounds-take_short-end c = sym (wide_at c.args.sites _ c.requires.3 c.loop-i.i _ c.loop-i.invariant.1)

-- ---- the short way

pub take_short-requires : goal.take_short-requires
take_short-requires c =
    let a = c.args in
    let l = c.loop-i in
    let rest = take (length a.recs.now - l.at) (drop l.at a.recs.now) in
    let there = lent-there a.form a.recs.now l.i l.at l.invariant.0 a.n c.loop-i-test.true c.requires.5 in
    let lent = lent_is a.form a.recs.now l.i l.at l.invariant.0 _ refl in
    let is = c.long_in-rec.ensures ∙ lent in (
      rw is (record {
        takes = takes a.sites _ c.requires.3 l.i _ l.invariant.1 a.n c.loop-i-test.true _ _ _ _ l.invariant.2 l.invariant.3;
        few = omega (arith, c.loop-i-test.true, c.requires.4);
        whole =
            subst (λ (y : List ℕ). length y ≡ span_of y) lent (long-from-whole a.form rest there);
      }),
      subst (λ (es : List Edit). KeptFor es l.kept.names l.kept.rows)
          (sym (held-now a.sites _ c.requires.3 l.i _ l.invariant.1)) l.invariant.4,
    )

pub loop-i-preserved-in-Some : goal.loop-i-preserved-in-Some
loop-i-preserved-in-Some c =
    let a = c.args in
    let l = c.loop-i in
    let p = c.take_short in
    let is = c.long_in-rec.ensures ∙ lent_is a.form a.recs.now l.i l.at l.invariant.0 _ refl in
    let lv = c.in-Some.ensures.0.taken refl in (
      rw (add-one l.i)
          (next_start a.form a.recs.now l.i l.at l.invariant.0 c.length_from-used.result c.length_from-used.ensures),
      going_next a.sites _ c.requires.3 l.i _ l.invariant.1 _ (rw is at lv.outcome),
      lv.index refl,
      spaced-same (counted-in a.form a.recs.now a.n) _ _ (lv.starts refl) (lv.index refl).places-long l.invariant.3,
      kept-after (stored_in a.form a.recs.now) l.i _ _ _ _ (held-now a.sites _ c.requires.3 l.i _ l.invariant.1)
          (ap decode_of is) (c.in-Some.ensures.1),
      elim c.if-form-eq-OLD.branch [
        | then-form-eq-OLD v ↦ rw v.wide-is (search rules)
        | else-form-eq-OLD v ↦ rw v.wide-is c.loop-i.invariant.5
      ],
    )

pub overflow_cast-c : goal.overflow_cast-c
overflow_cast-c c =
    let few : c.loop-i.i < most_records = omega (arith, c.loop-i-test.true, c.requires.4) in
    search (rules, few)

-- ---- the long way

pub take_next-requires : goal.take_next-requires
take_next-requires c =
    let a = c.args in
    let l = c.loop-i in
    let p = c.take_short in
    let is = c.long_in-rec.ensures ∙ lent_is a.form a.recs.now l.i l.at l.invariant.0 _ refl in
    let same = ap held_by (short-kept a.sites l.i c.in_default.ensures.0) in (
      rw is
          (long-takes a.sites l.i c.in_default.ensures.0
          (stored_in a.form a.recs.now l.i)
          (takes a.sites _ c.requires.3 l.i _ l.invariant.1 a.n c.loop-i-test.true _ _ _ _ l.invariant.2 l.invariant.3)),
      subst (λ (es : List Edit). KeptFor es p.new.kept.names p.new.kept.rows) (sym same) (c.in_default.ensures.1),
    )

pub shape_of-records-in-Err : goal.shape_of-records-in-Err
shape_of-records-in-Err c =
    let a = c.args in
    let l = c.loop-i in
    let p = c.take_short in
    let is = c.long_in-rec.ensures ∙ lent_is a.form a.recs.now l.i l.at l.invariant.0 _ refl in
    let lv = long-leaves a.sites l.i c.in_default.ensures.0
    (stored_in a.form a.recs.now l.i) _ _ _ _ _ _ (rw is at c.in-Err.ensures.0) in
    (same-lengths a.sites (stored_in a.form a.recs.now) c.requires.3 c.requires.0 _ _ _ (next-long a.sites _ c.requires.3 l.i _ l.invariant.1 _ _ lv.outcome)).0

pub shape_of-objects-in-Err : goal.shape_of-objects-in-Err
shape_of-objects-in-Err c =
    let a = c.args in
    let l = c.loop-i in
    let p = c.take_short in
    let is = c.long_in-rec.ensures ∙ lent_is a.form a.recs.now l.i l.at l.invariant.0 _ refl in
    let lv = long-leaves a.sites l.i c.in_default.ensures.0
    (stored_in a.form a.recs.now l.i) _ _ _ _ _ _ (rw is at c.in-Err.ensures.0) in
    (same-lengths a.sites (stored_in a.form a.recs.now) c.requires.3 c.requires.0 _ _ _ (next-long a.sites _ c.requires.3 l.i _ l.invariant.1 _ _ lv.outcome)).1

pub shape_of-groups-in-Err : goal.shape_of-groups-in-Err
shape_of-groups-in-Err c =
    let a = c.args in
    let l = c.loop-i in
    let p = c.take_short in
    let is = c.long_in-rec.ensures ∙ lent_is a.form a.recs.now l.i l.at l.invariant.0 _ refl in
    let lv = long-leaves a.sites l.i c.in_default.ensures.0
    (stored_in a.form a.recs.now l.i) _ _ _ _ _ _ (rw is at c.in-Err.ensures.0) in
    (same-lengths a.sites (stored_in a.form a.recs.now) c.requires.3 c.requires.0 _ _ _ (next-long a.sites _ c.requires.3 l.i _ l.invariant.1 _ _ lv.outcome)).2

pub returns-in-Err : goal.returns-in-Err
returns-in-Err c =
    let a = c.args in
    let l = c.loop-i in
    let p = c.take_short in
    let is = c.long_in-rec.ensures ∙ lent_is a.form a.recs.now l.i l.at l.invariant.0 _ refl in
    let lv = long-leaves a.sites l.i c.in_default.ensures.0
    (stored_in a.form a.recs.now l.i) _ _ _ _ _ _ (rw is at c.in-Err.ensures.0) in
    going-ends a.sites _ c.requires.3 l.i _ l.invariant.1 _ _ lv.outcome (refused c.in-Err.refusal) a.n c.loop-i-test.true

pub loop-i-preserved : goal.loop-i-preserved
loop-i-preserved c =
    let a = c.args in
    let l = c.loop-i in
    let p = c.take_short in
    let k = c.take_next in
    let is = c.long_in-rec.ensures ∙ lent_is a.form a.recs.now l.i l.at l.invariant.0 _ refl in
    let lv = long-leaves a.sites l.i c.in_default.ensures.0
    (stored_in a.form a.recs.now l.i) _ _ _ _ _ _ (rw is at c.in-Ok.ensures.0) in
    let same = ap held_by (short-kept a.sites l.i c.in_default.ensures.0) in
    let parts = parts-after _ _ (stored_in a.form a.recs.now l.i) lv.outcome in (
      rw (add-one l.i)
          (next_start a.form a.recs.now l.i l.at l.invariant.0 c.length_from-used.result c.length_from-used.ensures),
      subst (Going a.sites (stored_in a.form a.recs.now) (l.i + 1)) parts
          (going_next a.sites _ c.requires.3 l.i _ l.invariant.1 _ lv.outcome),
      subst
          (λ (u : Tables). IndexOf u.records u.counters.records k.new.ix.places k.new.ix.numbers k.new.ix.counts k.new.ix.chains)
          parts (lv.index refl),
      spaced-same (counted-in a.form a.recs.now a.n) _ _ (lv.starts refl) (lv.index refl).places-long l.invariant.3,
      kept-after (stored_in a.form a.recs.now) l.i _ _ _ _
          (same ∙ held-now a.sites _ c.requires.3 l.i _ l.invariant.1) (ap decode_of is) c.in-Ok.ensures.1,
      elim c.if-form-eq-OLD.branch [
        | then-form-eq-OLD v ↦ rw v.wide-is (search rules)
        | else-form-eq-OLD v ↦ rw v.wide-is c.loop-i.invariant.5
      ],
    )

-- ---- the lengths stay

pub shape_of-records : goal.shape_of-records
shape_of-records c =
    let a = c.args in
    let l = c.loop-i in
    (same-lengths a.sites (stored_in a.form a.recs.now) c.requires.3 c.requires.0 _ _ _ (going-long a.sites _ c.requires.3 l.i _ l.invariant.1)).0

pub shape_of-objects : goal.shape_of-objects
shape_of-objects c =
    let a = c.args in
    let l = c.loop-i in
    (same-lengths a.sites (stored_in a.form a.recs.now) c.requires.3 c.requires.0 _ _ _ (going-long a.sites _ c.requires.3 l.i _ l.invariant.1)).1

pub shape_of-groups : goal.shape_of-groups
shape_of-groups c =
    let a = c.args in
    let l = c.loop-i in
    (same-lengths a.sites (stored_in a.form a.recs.now) c.requires.3 c.requires.0 _ _ _ (going-long a.sites _ c.requires.3 l.i _ l.invariant.1)).2

pub returns : goal.returns
returns c =
    let k : c.loop-i.i ≡ c.args.n = omega arith in
    rw k at c.loop-i.invariant.1
