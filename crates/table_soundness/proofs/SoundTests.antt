-- The tests of soundness put together. Assumes nothing.
use mathlib.Core.Path.{◌≡◌, refl, sym, ap, ◌∙◌}
use mathlib.Core.Bool.{Bool, true, false, not, ◌&&◌, ◌||◌, and_assoc, and-true, and-false, or-false}
use mathlib.Core.List.{List}
use Prim.Native.Nat.{ℕ, ◌*◌, ◌≤◌, ◌<◌}
use native.Mathlib.Omega.{arith}
use lib.Dec.{eqb, leb, ltb}
use lib.ListN.{get_or, length}
use lib.Pointwise.{pointwise}
use lib.Seq.{ext_get_or}
use Rattle.std.proofs.lemmas.Bool.Decides.{Decides-eqb}
use Rattle.std.proofs.lemmas.Slice.Eq.{slice_eq-Decides}
use borrow.Author.Tests.{eq-eqb, eqb-true, leb-true, lt-ltb, le-ltb, le-leb, lt-leb, not-false}
use Rattle.math_lists.specs.NumbersBelow.{all, sum}
use Rattle.math_lists.proofs.Booleans.{clash, off, both, same_test}
use Rattle.math_lists.proofs.NumbersBelow.{all-on, all-at, all_same}
use Rattle.edit_record.specs.Layout.{most_sites, place_length}
use Rattle.edit_record.proofs.WellFormed.{set-aimed}
use Rattle.edit_history.specs.Answers2to5.{records_pass}
use Rattle.edit_history.specs.EditsHeld.{most_records, record_at, edits_of, creates, count_from}
use Rattle.edit_sum.specs.WordSum.{sum_held}
use Rattle.edit_history.proofs.EditsHeld.{edits-length, target-parts}
use Rattle.edit_history.proofs.RecordsPassed.{target-before}
use Rattle.edit_walk.proofs.RoomInIndex.{counted-in-all}
use Rattle.group_step.specs.GroupRows.{most_objects, most_groups}
use Rattle.table_drawing.specs.declared.Counters.{Counters}
use Rattle.table_drawing.specs.Tables.{Tables, entry_length, held_by, records_length, objects_length, groups_length}
use Rattle.table_drawing.specs.Tables.{lengths_right, sites_right}
use Rattle.table_soundness.specs.Sound.{within_limits, counts_agree, object_sound, zero_from, rest_zero}
use Rattle.table_soundness.specs.SoundnessForms.{sound_but_named, Targeted, WrongAmong, PassedOver}
use Rattle.table_soundness.specs.declared.Tally.{Tally}
use Rattle.table_soundness.proofs.SoundFacts.{but-at}

-- ---- an entry

-- tests that count only where the first one holds
pub where-first :
    (a b x y v w z : Bool) →
    (a ≡ true → x ≡ v) →
    (a ≡ true → y ≡ w) →
    (a && b && x && y && z) ≡ (a && b && v && w && z)
where-first true b x y v w z p q = rw (p refl, q refl)
where-first false b x y v w z p q = refl

-- ---- a place of a row of g groups

pub unused-place : (g i : ℕ) (z a b : Bool) → g ≤ i → (leb g i && z || ltb i g && a && b) ≡ z
unused-place g i z a b l = rw (le-leb g i l, le-ltb i g l) (or-false z)

pub used-place : (g i : ℕ) (z a b : Bool) → i < g → (leb g i && z || ltb i g && a && b) ≡ (a && b)
used-place g i z a b l = rw (lt-leb g i l, lt-ltb i g l)

-- ---- the lengths and the limits

pub record-room : (rs os gs : List ℕ) → lengths_right rs os gs ≡ true → length rs ≡ records_length
record-room rs os gs h =
    let (l, _) = both (eqb (length rs) records_length && eqb (length os) objects_length) (eqb (length gs) groups_length)
    h in
    eqb-true (length rs) records_length (both (eqb (length rs) records_length) (eqb (length os) objects_length) l).0

pub group-room : (rs os gs : List ℕ) → lengths_right rs os gs ≡ true → length gs ≡ groups_length
group-room rs os gs h =
    eqb-true (length gs) groups_length
    (both (eqb (length rs) records_length && eqb (length os) objects_length) (eqb (length gs) groups_length) h).1

pub few-groups : (g : ℕ) → not (leb 1 g && leb g most_groups) ≡ false → g ≤ most_groups
few-groups g h =
    let t = not-false (leb 1 g && leb g most_groups) h in
    leb-true g most_groups (both (leb 1 g) (leb g most_groups) t).1

pub few : (c : Counters) → within_limits c ≡ true → (c.records ≤ most_records) × (c.objects ≤ most_objects)
few c h =
    let (p, o) = both (sites_right c.sites && leb c.records most_records) (leb c.objects most_objects) h in
    let r = (both (sites_right c.sites) (leb c.records most_records) p).1 in
    (leb-true c.records most_records r, leb-true c.objects most_objects o)

pub few-sites : (c : Counters) → within_limits c ≡ true → c.sites ≤ most_sites
few-sites c h =
    let (p, _) = both (sites_right c.sites && leb c.records most_records) (leb c.objects most_objects) h in
    let (s, _) = both (sites_right c.sites) (leb c.records most_records) p in
    leb-true c.sites most_sites (both (leb 1 c.sites) (leb c.sites most_sites) s).1

-- ---- what is not right at the start

pub wrong-lengths : (t : Tables) → lengths_right t.records t.objects t.groups ≡ false → sound_but_named t ≡ false
unfolding sound_but_named
wrong-lengths t h = rw h

pub past-limits : (t : Tables) → within_limits t.counters ≡ false → sound_but_named t ≡ false
unfolding sound_but_named
past-limits t h = rw (h, and-false (lengths_right t.records t.objects t.groups))

-- more edits in all than there are records
pub crowded :
    (t : Tables) → leb (sum most_sites (λ s. get_or t.counters.held s 0)) most_records ≡ false → sound_but_named t ≡ false
crowded t h =
    off (sound_but_named t) (λ y.
    let s = but-at t y in
    let es = edits_of t.records t.counters.records in
    let fits = counted-in-all t.counters.held es s.held in
    let long = edits-length t.records t.counters.records in
    let few : sum most_sites (λ s. get_or t.counters.held s 0) ≤ most_records
    = omega (arith, fits, long, s.few-records) in
    clash (le-leb (sum most_sites (λ s. get_or t.counters.held s 0)) most_records few) h)

-- records that do not pass, more of a site than are counted, or a place that is not zero past its record
pub not_right :
    (t : Tables) → WrongAmong t.counters.sites (λ s. get_or t.counters.held s 0) t.records t.counters.records →
    sound_but_named t ≡ false
not_right t wrong =
    off (sound_but_named t) (λ y.
    let s = but-at t y in
    wrong s.pass (λ x l. omega (arith, s.held x l))
    (all-on t.counters.records (rest_zero t.records) s.rests))

-- ---- two lists of counts

pub counts-agree :
    (a b : List ℕ) → length a ≡ most_sites → length b ≡ most_sites → (r : Bool) → r ≡ pointwise eqb a b →
    r ≡ all most_sites (λ s. eqb (get_or a s 0) (get_or b s 0))
counts-agree a b long long' r h =
    let (same, agree) = slice_eq-Decides Decides-eqb a b r h in
    same_test r (all most_sites (λ s. eqb (get_or a s 0) (get_or b s 0)))
    (λ t. all-on most_sites _ (λ s l. eq-eqb _ _ (ap (λ (xs : List ℕ). get_or xs s 0) (same t))))
    (λ t. agree
    (ext_get_or 0 a b (long ∙ sym long')
    (λ s l. eqb-true _ _ (all-at most_sites (λ s. eqb (get_or a s 0) (get_or b s 0)) t s (omega (arith, long))))))

-- ---- what records that pass give

-- each Set's target stands before it
pub targeted :
    (sites : ℕ) (rs : List ℕ) (n : ℕ) → records_pass sites rs n ≡ true → Targeted rs n
targeted sites rs n pass p l h =
    let (q, m, t) = target-before sites rs n pass p l (set-aimed (record_at rs p) h) in
    let x = target-parts (record_at rs p) (record_at rs q) t in
    (q, m, x.create, x.site, x.seq)

-- ---- the whole

module _ (t : Tables) (g : Tally) (ns ts : List ℕ) (w : PassedOver t g ns ts) where
  same-counts :
      let given = t.counters.held in
      all most_sites (λ s. eqb (get_or given s 0) (get_or g.held s 0))
      ≡ all most_sites (λ s. eqb (get_or given s 0) (count_from s (held_by t)))
  same-counts = all_same most_sites _ _ (λ s l. ap (eqb (get_or t.counters.held s 0)) (w.gathered.counted s l))

  -- what is left to test of tables within their limits whose records pass, but for 16
  abbrev each? : Bool
  each? = all t.counters.objects (object_sound t.records t.counters.records t.objects t.groups)

  abbrev made? : Bool
  made? = eqb t.counters.objects (length (creates (held_by t)))

  abbrev zero? : Bool
  zero? =
      zero_from t.records (t.counters.records * place_length)
      && zero_from t.objects (t.counters.objects * entry_length)
      && zero_from t.groups (t.counters.objects * most_groups)

  abbrev added? : Bool
  added? = eqb t.counters.sum (sum_held t.counters.records t.records)

  abbrev counts? : Bool
  counts? = all most_sites (λ s. eqb (get_or t.counters.held s 0) (get_or g.held s 0))

  pub rest-is : (counts? && added? && made? && each? && zero?) ≡ sound_but_named t
  unfolding sound_but_named counts_agree
  rest-is =
      rw (same-counts, w.lengths, w.limits, w.gathered.pass, w.gathered.rests) (simp (and_assoc, and-true))
