-- Sound tables whose rows are true are settled by their records: two of them that hold the same records are the same to
-- the last entry, the number of sites left out. Assumes nothing.
use mathlib.Core.Path.{◌≡◌, refl, sym, ap, ap₂, ◌∙◌}
use mathlib.Core.Bool.{true}
use mathlib.Core.List.{List, ◌++◌}
use Prim.Native.Nat.{ℕ, zero, suc, ◌+◌, ◌*◌, ◌≤◌, ◌<◌}
use native.Mathlib.Omega.{arith}
use native.Mathlib.Decide.{dec_lt}
use lib.ListN.{length, get_or, take, drop, length-drop}
use lib.Seq.{ext_get_or, get_or-take, get_or-drop, length-take-le, take-add}
use Rattle.math_lists.proofs.LastBelow.{by_rows}
use Rattle.edit_record.specs.declared.Edit.{Edit}
use Rattle.edit_record.specs.Layout.{most_sites, most_members, place_length}
use Rattle.edit_record.specs.RecordBytes.{span_of}
use Rattle.edit_record.proofs.RecordSpans.{span-most, span_agree, span-own}
use Rattle.edit_history.specs.EditsHeld.{bytes_at, record_at, edits_of, count_from, creates, sets_on}
use Rattle.edit_history.proofs.RecordsPassed.{few-at}
use Rattle.edit_sum.specs.WordSum.{sum_held}
use Rattle.group_step.specs.GroupRows.{most_groups, row}
use Rattle.table_drawing.specs.Tables.{Tables, entry_length, place_at, sets_at, groups_at, held_by}
use Rattle.table_soundness.proofs.EachObject.{Object}
use Rattle.table_soundness.specs.Sound.{rest_zero}
use Rattle.table_soundness.proofs.SoundFacts.{Sound, ZeroFrom, zero-at}
use Rattle.table_index.proofs.PlacesOfSets.{one_number}
use Rattle.group_true.specs.TrueGroups.{true_groups}
use Rattle.table_arrival.proofs.Faithful.{RowsTrue}

-- ---- lists with zeros behind

-- lists that agree on their first k entries and are zero behind them
zeros-agree :
    (l m : List ℕ) (k : ℕ) → length l ≡ length m → ((i : ℕ) → i < k → i < length l → get_or l i 0 ≡ get_or m i 0) →
    ZeroFrom l k → ZeroFrom m k → l ≡ m
zeros-agree l m k long same z w =
    ext_get_or 0 l m long (λ i b. elim (dec_lt i k) [
      | yes a ↦ same i a b
      | no a ↦ z i (omega arith) b ∙ sym (w i (omega arith) (omega arith))
    ])

-- ---- the places

-- the first n places are there, and each has a record with no more members than it has room for, and zeros behind it
pub record Rested (rs : List ℕ) (n : ℕ) : Type 0 where
  pub there : n * place_length ≤ length rs
  pub few : (p : ℕ) → p < n → (record_at rs p).count ≤ most_members
  pub rests : (p : ℕ) → p < n → rest_zero rs p ≡ true

pub rested : (t : Tables) → Sound t → Rested t.records t.counters.records
rested t s = record {
  there = omega (arith, s.records-long, s.few-records);
  few = few-at t.counters.sites t.records t.counters.records s.pass;
  rests = s.rests;
}

module _ (rs : List ℕ) (n : ℕ) (r : Rested rs n) (p : ℕ) (l : p < n) where
  abbrev from : List ℕ
  from = drop (p * place_length) rs

  abbrev place : List ℕ
  place = take place_length from

  place-long : length place ≡ place_length
  place-long = length-take-le place_length from (omega (arith, length-drop (p * place_length) rs, r.there))

  place-span : span_of place ≡ span_of from
  place-span =
      span_agree from place (λ i m. get_or-take place_length from i 0 (omega (arith, span-most from (r.few p l))))

  -- the record's own bytes stand in front
  place-front : (i : ℕ) → i < span_of from → get_or place i 0 ≡ get_or (bytes_at rs p) i 0
  place-front i m =
      get_or-take place_length from i 0 (omega (arith, span-most from (r.few p l)))
      ∙ sym (get_or-take (span_of from) from i 0 m)

  place_rest : ZeroFrom place (span_of from)
  unfolding rest_zero
  place_rest = rw place-span at (zero-at place (span_of place) (r.rests p l))

-- places that hold the same record have the same bytes
place_same :
    (rs rs' : List ℕ) (n : ℕ) (r : Rested rs n) (r' : Rested rs' n) (p : ℕ) (l : p < n) →
    bytes_at rs p ≡ bytes_at rs' p → place rs n r p l ≡ place rs' n r' p l
place_same rs rs' n r r' p l h =
    let span : span_of (from rs n r p l) ≡ span_of (from rs' n r' p l)
    = sym (span-own (from rs n r p l)) ∙ ap span_of h ∙ span-own (from rs' n r' p l) in
    zeros-agree (place rs n r p l) (place rs' n r' p l) (span_of (from rs n r p l))
    (place-long rs n r p l ∙ sym (place-long rs' n r' p l))
    (λ i a b. place-front rs n r p l i a ∙ ap (λ (x : List ℕ). get_or x i 0) h
    ∙ sym (place-front rs' n r' p l i (omega (arith, span))))
    (place_rest rs n r p l) (rw (← span) at (place_rest rs' n r' p l))

pub places_same :
    (rs rs' : List ℕ) (n : ℕ) → Rested rs n → Rested rs' n → ((p : ℕ) → p < n → bytes_at rs p ≡ bytes_at rs' p) →
    (k : ℕ) → k ≤ n → take (k * place_length) rs ≡ take (k * place_length) rs'
places_same rs rs' n r r' h zero l = refl
places_same rs rs' n r r' h (suc k) l =
    let e : suc k * place_length ≡ k * place_length + place_length = omega arith in
    rw (e, take-add (k * place_length) place_length rs, take-add (k * place_length) place_length rs')
    (ap₂ (λ (x y : List ℕ). x ++ y) (places_same rs rs' n r r' h k (omega arith))
    (place_same rs rs' n r r' k l (h k l)))

-- ---- the groups in use

module _ (gs : List ℕ) (o g : ℕ) (few : g ≤ most_groups) (fits : o * most_groups + most_groups ≤ length gs) where
  pub used-long : length (take g (row o gs)) ≡ g
  used-long =
      let l = drop (o * most_groups) gs in
      length-take-le g (take most_groups l)
      (omega (arith, length-take-le most_groups l (omega (arith, length-drop (o * most_groups) gs))))

  used-at : (i : ℕ) → i < g → get_or (take g (row o gs)) i 0 ≡ get_or gs (o * most_groups + i) 0
  used-at i l =
      let d = drop (o * most_groups) gs in
      get_or-take g (take most_groups d) i 0 l ∙ get_or-take most_groups d i 0 (omega arith)
      ∙ get_or-drop (o * most_groups) gs i 0

-- ---- the entry and the row of one object

module _ (rs : List ℕ) (n : ℕ) (os gs os' gs' : List ℕ) (o : ℕ)
    (x : Object rs n os gs o) (x' : Object rs n os' gs' o)
    (fits : o * most_groups + most_groups ≤ length gs) (fits' : o * most_groups + most_groups ≤ length gs')
    (its : take (groups_at os o) (row o gs) ≡ true_groups (edits_of rs n) (record_at rs (place_at os o)))
    (its' : take (groups_at os' o) (row o gs') ≡ true_groups (edits_of rs n) (record_at rs (place_at os' o))) where
  pub same_place : place_at os o ≡ place_at os' o
  same_place =
      one_number rs (place_at os o) (place_at os' o) x.entry.create x'.entry.create
      (x.entry.number ∙ sym x'.entry.number)

  pub same-sets : sets_at os o ≡ sets_at os' o
  same-sets =
      x.entry.sets
      ∙ ap (λ (p : ℕ). length (sets_on (record_at rs p).site (record_at rs p).seq (edits_of rs n))) same_place
      ∙ sym x'.entry.sets

  same-used : take (groups_at os o) (row o gs) ≡ take (groups_at os' o) (row o gs')
  same-used = its ∙ ap (λ (p : ℕ). true_groups (edits_of rs n) (record_at rs p)) same_place ∙ sym its'

  pub same-many : groups_at os o ≡ groups_at os' o
  same-many =
      sym (used-long gs o (groups_at os o) x.row.few fits) ∙ ap length same-used
      ∙ used-long gs' o (groups_at os' o) x'.row.few fits'

  pub same-slot : (i : ℕ) → i < most_groups → get_or gs (o * most_groups + i) 0 ≡ get_or gs' (o * most_groups + i) 0
  same-slot i l = elim (dec_lt i (groups_at os o)) [
    | yes a ↦
        (sym (used-at gs o (groups_at os o) x.row.few fits i a)
        ∙ ap (λ (l : List ℕ). get_or l i 0) same-used
        ∙ used-at gs' o (groups_at os' o) x'.row.few fits' i (omega (arith, same-many)))
    | no a ↦ x.row.rest i l (omega arith) ∙ sym (x'.row.rest i l (omega (arith, same-many)))
  ]

-- ---- the tables

module _ (t u : Tables) (s : Sound t) (w : Sound u) (true-t : RowsTrue t) (true-u : RowsTrue u)
    (count : t.counters.records ≡ u.counters.records)
    (bytes : (i : ℕ) → i < t.counters.records * place_length → get_or t.records i 0 ≡ get_or u.records i 0) where
  abbrev rs : List ℕ
  rs = t.records

  abbrev n : ℕ
  n = t.counters.records

  abbrev m : ℕ
  m = t.counters.objects

  pub same-records : t.records ≡ u.records
  same-records =
      zeros-agree rs u.records (n * place_length) (s.records-long ∙ sym w.records-long) (λ i a b. bytes i a)
      s.records-zero (rw (← count) at w.records-zero)

  same-held : held_by t ≡ held_by u
  same-held = ap₂ edits_of same-records count

  pub same_number : m ≡ u.counters.objects
  same_number = s.objects ∙ ap (λ (es : List Edit). length (creates es)) same-held ∙ sym w.objects

  pub same-counts : (x : ℕ) → x < most_sites → get_or t.counters.held x 0 ≡ get_or u.counters.held x 0
  same-counts x l = s.held x l ∙ ap (count_from x) same-held ∙ sym (w.held x l)

  pub same_sum : t.counters.sum ≡ u.counters.sum
  same_sum = s.sum ∙ ap₂ (λ (k : ℕ) (l : List ℕ). sum_held k l) count same-records ∙ sym w.sum

  -- the objects of u over the records of t
  object-u : (o : ℕ) → o < m → Object rs n u.objects u.groups o
  object-u o l = rw (← same-records, ← count) at (w.object o (omega (arith, same_number)))

  row-u : (o : ℕ) → o < m →
      take (groups_at u.objects o) (row o u.groups) ≡ true_groups (held_by t) (record_at rs (place_at u.objects o))
  row-u o l = rw (← same-records, ← count) at (true-u o (omega (arith, same_number)))

  fits : (o : ℕ) → o < m → o * most_groups + most_groups ≤ length t.groups
  fits o l = omega (arith, s.groups-long, s.few-objects)

  fits-u : (o : ℕ) → o < m → o * most_groups + most_groups ≤ length u.groups
  fits-u o l = omega (arith, w.groups-long, s.few-objects)

  pub same-groups : t.groups ≡ u.groups
  same-groups =
      zeros-agree t.groups u.groups (m * most_groups) (s.groups-long ∙ sym w.groups-long)
      (λ i a b. by_rows most_groups m (λ i. get_or t.groups i 0 ≡ get_or u.groups i 0)
      (λ o j l k. same-slot rs n t.objects t.groups u.objects u.groups o (s.object o l) (object-u o l)
      (fits o l) (fits-u o l) (true-t o l) (row-u o l) j k) i a)
      s.groups-zero (rw (← same_number) at w.groups-zero)

  entry-same : (o j : ℕ) → o < m → j < entry_length →
      get_or t.objects (o * entry_length + j) 0 ≡ get_or u.objects (o * entry_length + j) 0
  entry-same o zero l k =
      let e : o * entry_length + 0 ≡ o * entry_length = omega arith in
      rw e
      (same_place rs n t.objects t.groups u.objects u.groups o (s.object o l) (object-u o l)
      (fits o l) (fits-u o l) (true-t o l) (row-u o l))
  entry-same o (suc zero) l k =
      same-sets rs n t.objects t.groups u.objects u.groups o (s.object o l) (object-u o l)
      (fits o l) (fits-u o l) (true-t o l) (row-u o l)
  entry-same o (suc (suc zero)) l k =
      same-many rs n t.objects t.groups u.objects u.groups o (s.object o l) (object-u o l)
      (fits o l) (fits-u o l) (true-t o l) (row-u o l)
  entry-same o (suc (suc (suc j))) l k = absurd (omega arith)

  pub same-objects : t.objects ≡ u.objects
  same-objects =
      zeros-agree t.objects u.objects (m * entry_length) (s.objects-long ∙ sym w.objects-long)
      (λ i a b. by_rows entry_length m (λ i. get_or t.objects i 0 ≡ get_or u.objects i 0) entry-same i a)
      s.objects-zero (rw (← same_number) at w.objects-zero)
