-- The tables that are what their records give from an empty drawing are the sound ones whose rows are true: no other
-- entry of sound tables can be untrue. Then the answers of the check. Assumes nothing.
use mathlib.Core.Path.{◌≡◌, sym, ap, ap₂, subst, ◌∙◌}
use mathlib.Core.Logic.{inl, inr}
use mathlib.Core.Bool.{Bool, true, false, ◌&&◌, cond}
use mathlib.Core.List.{List}
use Prim.Native.Nat.{ℕ, ◌*◌, ◌<◌}
use native.Mathlib.Omega.{arith}
use lib.ListN.{length, get_or}
use lib.Seq.{get_or-take}
use lib.Dec.{eqb, leb}
use borrow.Author.Tests.{eqb-true, eq-eqb, leb-true, le-leb}
use Rattle.math_lists.specs.NumbersBelow.{all, same_list}
use Rattle.math_lists.proofs.Booleans.{decide, same_test, both, and-on}
use Rattle.math_lists.proofs.NumbersBelow.{all-on, all-at}
use Rattle.math_lists.proofs.ByPlaces.{list-equal, same_self}
use Rattle.edit_record.specs.Layout.{most_sites, place_length}
use Rattle.edit_record.specs.Answer1.{is_create}
use Rattle.edit_history.specs.EditsHeld.{bytes_at, record_at, edits_of, creates, most_records}
use Rattle.edit_history.specs.Answer16.{records_named}
use Rattle.group_step.specs.GroupRows.{most_objects}
use Rattle.group_named.specs.NamedForms.{is_named_at}
use Rattle.group_named.proofs.BoxesNamed.{named-by-boxes}
use Rattle.table_drawing.specs.declared.Counters.{Counters}
use Rattle.table_drawing.specs.Tables.{Tables, tables_of, held_by, place_at, records_length, objects_length, groups_length}
use Rattle.table_drawing.specs.Tables.{lengths_right, sites_right}
use Rattle.table_soundness.specs.Sound.{within_limits, sound}
use Rattle.table_soundness.specs.SoundnessForms.{sound_but_named}
use Rattle.table_soundness.proofs.SoundFacts.{Sound, SoundBut, entered, sound-at, sound-on, but-at, but-off}
use Rattle.table_soundness.proofs.SoundFacts.{but-and-named}
use Rattle.table_soundness.proofs.ObjectsByNumber.{entered-at-place}
use Rattle.table_arrival.specs.Answers6and7.{row_of}
use Rattle.group_true.specs.TrueGroups.{true_groups}
use Rattle.table_arrival.proofs.Faithful.{RowsTrue, Faithful}
use Rattle.table_given.specs.Replay.{Replayed, replay_of}
use Rattle.table_given.proofs.ReplayFaithful.{replay-faithful}
use Rattle.table_given.proofs.OwnRecords.{HoldsGiven, going_of, holds}
use Rattle.table_check.specs.Check.{same_counters, same_tables, gives_back, is_true, check_of}
use Rattle.table_check.specs.CheckForms.{row_true, rows_true, row_stands, rows_stand}
use Rattle.table_check.proofs.SettledByRecords.{same-records, same_number, same-counts, same_sum, same-groups}
use Rattle.table_check.proofs.SettledByRecords.{same-objects, Rested, rested, places_same}
use Rattle.table_check.proofs.AllTaken.{all-taken}

-- ---- the rows

equal-same : (l m : List ℕ) → l ≡ m → same_list l m ≡ true
equal-same l m e = rw e (same_self m)

module _ (t : Tables) where
  abbrev groups_over : ℕ → List ℕ
  groups_over o = true_groups (held_by t) (record_at t.records (place_at t.objects o))

  rows_at : rows_true t ≡ true → RowsTrue t
  unfolding rows_true
  rows_at h o l = list-equal (row_of t o) (groups_over o) (all-at t.counters.objects (row_true t) h o l)

  rows_on : RowsTrue t → rows_true t ≡ true
  unfolding rows_true
  rows_on h = all-on t.counters.objects (row_true t) (λ o l. equal-same (row_of t o) (groups_over o) (h o l))

  abbrev c : Counters
  c = t.counters

  abbrev r : Replayed
  r = replay_of c.sites (bytes_at t.records) c.records

  abbrev u : Tables
  u = r.after

  abbrev d : Counters
  d = u.counters

  abbrev held? : ℕ → Bool
  held? x = eqb (get_or c.held x 0) (get_or d.held x 0)

  -- ---- tables that are given back

  -- t with the counts of u
  abbrev counted : Tables
  counted =
      tables_of (record { sites = c.sites; records = c.records; objects = c.objects; held = d.held; sum = c.sum })
      t.records t.objects t.groups

  abbrev made : ℕ → ℕ → ℕ → ℕ → List ℕ → List ℕ → List ℕ → Tables
  made x n m w rs os gs = tables_of (record { sites = x; records = n; objects = m; held = d.held; sum = w }) rs os gs

  same_at : same_tables t u ≡ true → (counted ≡ u) × ((x : ℕ) → x < most_sites → get_or c.held x 0 ≡ get_or d.held x 0)
  same_at h =
      let rs? = same_list t.records u.records in
      let os? = same_list t.objects u.objects in
      let (h2, gs) = both (same_counters c d && rs? && os?) (same_list t.groups u.groups) h in
      let (h1, os) = both (same_counters c d && rs?) os? h2 in
      let (hc, rs) = both (same_counters c d) rs? h1 in
      let x? = eqb c.sites d.sites in
      let n? = eqb c.records d.records in
      let m? = eqb c.objects d.objects in
      let w? = eqb c.sum d.sum in
      let (c3, w) = both (x? && n? && m? && all most_sites held?) w? hc in
      let (c2, held) = both (x? && n? && m?) (all most_sites held?) c3 in
      let (c1, m) = both (x? && n?) m? c2 in
      let (x, n) = both x? n? c1 in (
        ap₂ (λ (a b : ℕ). made a b c.objects c.sum t.records t.objects t.groups)
            (eqb-true c.sites d.sites x) (eqb-true c.records d.records n)
            ∙ ap₂ (λ (a b : ℕ). made d.sites d.records a b t.records t.objects t.groups)
            (eqb-true c.objects d.objects m) (eqb-true c.sum d.sum w)
            ∙ ap (λ (l : List ℕ). made d.sites d.records d.objects d.sum l t.objects t.groups)
            (list-equal t.records u.records rs)
            ∙ ap₂ (made d.sites d.records d.objects d.sum u.records)
            (list-equal t.objects u.objects os) (list-equal t.groups u.groups gs),
        λ i l. eqb-true (get_or c.held i 0) (get_or d.held i 0) (all-at most_sites held? held i l),
      )

  given-back-sound : is_true t ≡ true → Sound t × RowsTrue t
  unfolding is_true gives_back
  given-back-sound h =
      let lengths? = lengths_right t.records t.objects t.groups in
      let (lw, g) = both (lengths? && within_limits c) (eqb r.answer 0 && same_tables t u) h in
      let limits = (both lengths? (within_limits c) lw).1 in
      let n? = leb c.records most_records in
      let (sr, _) = both (sites_right c.sites && n?) (leb c.objects most_objects) limits in
      let (right, _) = both (sites_right c.sites) n? sr in
      let (some, few) = both (leb 1 c.sites) (leb c.sites most_sites) right in
      let (e, held) = same_at (both (eqb r.answer 0) (same_tables t u) g).1 in
      let f : Faithful counted
      = subst Faithful (sym e)
      (replay-faithful c.sites (leb-true 1 c.sites some) (leb-true c.sites most_sites few)
      (bytes_at t.records) c.records) in
      let s = f.kept.is_sound in (
        record {
          records-long = s.records-long;
          objects-long = s.objects-long;
          groups-long = s.groups-long;
          some-sites = s.some-sites;
          few-sites = s.few-sites;
          few-records = s.few-records;
          few-objects = s.few-objects;
          held = λ x l. held x l ∙ s.held x l;
          sum = s.sum;
          objects = s.objects;
          pass = s.pass;
          object = s.object;
          records-zero = s.records-zero;
          objects-zero = s.objects-zero;
          groups-zero = s.groups-zero;
          rests = s.rests;
          named = s.named;
        },
        f.rows,
      )

  -- ---- sound tables whose rows are true

  module _ (s : Sound t) (rows : RowsTrue t) where
    right-sites : sites_right c.sites ≡ true
    right-sites =
        and-on (leb 1 c.sites) (leb c.sites most_sites) (le-leb 1 c.sites s.some-sites)
        (le-leb c.sites most_sites s.few-sites)

    taken : r.answer ≡ 0
    taken = all-taken t s rows

    faithful : Faithful u
    faithful = replay-faithful c.sites s.some-sites s.few-sites (bytes_at t.records) c.records

    its : HoldsGiven c.sites (bytes_at t.records) c.records u
    its =
        holds c.sites (bytes_at t.records) right-sites c.records u
        (going_of c.sites (bytes_at t.records) c.records taken)

    bytes : (i : ℕ) → i < c.records * place_length → get_or t.records i 0 ≡ get_or u.records i 0
    bytes i l =
        let n = c.records in
        let k = n * place_length in
        let rests = subst (Rested u.records) its.count (rested u faithful.kept.is_sound) in
        let same = places_same u.records t.records n rests (rested t s) its.bytes n (omega arith) in
        sym (get_or-take k t.records i 0 l)
        ∙ ap (λ (x : List ℕ). get_or x i 0) (sym same)
        ∙ get_or-take k u.records i 0 l

    count : c.records ≡ d.records
    count = sym its.count

    same-counters : same_counters c d ≡ true
    same-counters =
        let w = faithful.kept.is_sound in
        let number = same_number t u s w rows faithful.rows count bytes in
        rw (
          eq-eqb c.sites d.sites (sym its.sites-are),
          eq-eqb c.records d.records count,
          eq-eqb c.objects d.objects number,
          all-on most_sites held? (λ x l. eq-eqb (get_or c.held x 0) (get_or d.held x 0)
              (same-counts t u s w rows faithful.rows count bytes x l)),
          eq-eqb c.sum d.sum (same_sum t u s w rows faithful.rows count bytes),
        )

    same-on : same_tables t u ≡ true
    same-on =
        let w = faithful.kept.is_sound in
        rw (
          same-counters,
          equal-same t.records u.records (same-records t u s w rows faithful.rows count bytes),
          equal-same t.objects u.objects (same-objects t u s w rows faithful.rows count bytes),
          equal-same t.groups u.groups (same-groups t u s w rows faithful.rows count bytes),
        )

    given_back : is_true t ≡ true
    unfolding is_true gives_back
    given_back =
        rw (
          eq-eqb (length t.records) records_length s.records-long,
          eq-eqb (length t.objects) objects_length s.objects-long,
          eq-eqb (length t.groups) groups_length s.groups-long,
          right-sites,
          le-leb c.records most_records s.few-records,
          le-leb c.objects most_objects s.few-objects,
          taken,
          same-on,
        )

  pub true-exactly : is_true t ≡ (sound t && rows_true t)
  true-exactly =
      same_test (is_true t) (sound t && rows_true t)
      (λ h. let (s, rows) = given-back-sound h in and-on (sound t) (rows_true t) (sound-on t s) (rows_on rows))
      (λ h. let (s, rows) = both (sound t) (rows_true t) h in given_back (sound-at t s) (rows_at rows))

  -- ---- 16, by the objects: each has its Create, and each Create its object

  module _ (s : SoundBut t) where
    abbrev named? : ℕ → Bool
    named? = is_named_at t.records c.records

    each-named : all c.objects (λ o. named? (place_at t.objects o)) ≡ true → all c.records named? ≡ true
    each-named h = all-on c.records named? (λ p l. elim (decide (is_create (record_at t.records p))) [
      | inl q ↦
          (let (less, place) = entered-at-place t (entered t s) p l q in
          subst (λ (x : ℕ). named? x ≡ true) place
          (all-at c.objects (λ o. named? (place_at t.objects o)) h
          (length (creates (edits_of t.records p))) less))
      | inr q ↦ unfold is_named_at in rw q
    ])

    rows-stand : rows_stand t ≡ (records_named t.records c.records && rows_true t)
    unfolding rows_stand rows_true
    rows-stand =
        let named = named-by-boxes t.records c.sites c.records s.pass in
        same_test (all c.objects (row_stands t))
        (records_named t.records c.records && all c.objects (row_true t))
        (λ h.
        let at : (o : ℕ) → o < c.objects → (named? (place_at t.objects o) ≡ true) × (row_true t o ≡ true)
        = λ o l. both (named? (place_at t.objects o)) (row_true t o) (all-at c.objects (row_stands t) h o l) in
        and-on (records_named t.records c.records) (all c.objects (row_true t))
        (named ∙ each-named (all-on c.objects (λ o. named? (place_at t.objects o)) (λ o l. (at o l).0)))
        (all-on c.objects (row_true t) (λ o l. (at o l).1)))
        (λ h.
        let (n, rows) = both (records_named t.records c.records) (all c.objects (row_true t)) h in
        all-on c.objects (row_stands t) (λ o l.
        and-on (named? (place_at t.objects o)) (row_true t o)
        (all-at c.records named? (sym named ∙ n) (place_at t.objects o) (s.object o l).entry.place)
        (all-at c.objects (row_true t) rows o l)))

  -- ---- the answers

  pub not_sound : (b : Bool) → b ≡ sound_but_named t → b ≡ false → 8 ≡ check_of t
  unfolding check_of
  not_sound b h off = rw (true-exactly, ← but-off t b h off)

  pub rows-decide : (b : Bool) → sound_but_named t ≡ true → b ≡ rows_stand t → cond b 0 8 ≡ check_of t
  unfolding check_of
  rows-decide b s h =
      rw (true-exactly, ← but-and-named t, s, h, rows-stand (but-at t s))
