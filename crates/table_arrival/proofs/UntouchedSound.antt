-- What an accepted edit of any kind leaves sound: the records and their counts, and the entries and rows of the objects
-- that it does not touch. Assumes nothing.
use mathlib.Core.Path.{◌≡◌, refl, sym, ap, ap₂, ◌∙◌}
use mathlib.Core.Logic.{inl, inr}
use mathlib.Core.Bool.{Bool, true, false, cond, not}
use mathlib.Core.List.{List, [], ◌∷◌, ◌++◌}
use Prim.Native.Nat.{ℕ, suc, ◌+◌, ◌*◌, ◌≤◌, ◌<◌}
use native.Mathlib.Omega.{arith}
use native.Mathlib.Numerals.{add-one}
use native.Mathlib.Decide.{ℕ_discrete}
use lib.ListN.{length, get_or, set}
use lib.Seq.{get_or-set_same, get_or-set_other}
use lib.Dec.{eqb}
use borrow.Author.Tests.{eq-eqb, ne_eqb}
use Rattle.math_lists.proofs.NumbersBelow.{all-on, all-at}
use Rattle.math_lists.proofs.LastBelow.{last}
use Rattle.math_lists.proofs.GrownAtEnd.{filter-length-snoc}
use Rattle.edit_record.specs.declared.Site.{Site}
use Rattle.edit_record.specs.declared.Seq.{Seq}
use Rattle.edit_record.specs.declared.Edit.{Edit}
use Rattle.edit_record.specs.Layout.{most_sites, place_length}
use Rattle.edit_record.specs.RecordBytes.{decode_of}
use Rattle.edit_record.specs.Answer1.{is_create}
use Rattle.edit_history.specs.EditsHeld.{record_at, edits_of, count_from, creates, is_set_on, sets_on}
use Rattle.edit_record.proofs.WellFormed.{few-members}
use Rattle.edit_history.specs.Answers2to5.{passes, records_pass}
use Rattle.edit_history.specs.Answer16.{is_nameless, records_named}
use Rattle.edit_sum.specs.WordSum.{record_words, wrapped, sum_of, sum_held}
use Rattle.edit_sum.specs.SumOfEdits.{sum_over}
use Rattle.edit_sum.proofs.SumOfRecords.{joined-sum, held-sum, record-sum, passing-fit}
use Rattle.group_step.specs.GroupRows.{most_objects, most_sets, most_groups}
use Rattle.table_drawing.specs.Tables.{Tables, tables_of, held_by, entry_length, records_length, objects_length}
use Rattle.table_drawing.specs.Tables.{groups_length}
use Rattle.table_soundness.specs.Sound.{rest_zero}
use Rattle.table_soundness.proofs.SoundFacts.{Sound, ZeroFrom}
use Rattle.table_soundness.proofs.EachObject.{Entry, Object}
use Rattle.table_arrival.specs.Arrival.{counted, put_record}
use Rattle.table_arrival.proofs.Admitted.{Admitted, admitted-passes, admitted-span}
use Rattle.table_arrival.proofs.RecordsOneMore.{Room, put-long, put-after, put-before, put-here}
use Rattle.table_arrival.proofs.RecordsOneMore.{put-edits-before, put-edits, put-rest-before, put-rest-here}

-- ---- counts over one edit more

pub count-snoc :
    (s : ℕ) (es : List Edit) (e : Edit) →
    count_from s (es ++ (e ∷ [])) ≡ count_from s es + cond (eqb e.site.0 s) 1 0
unfolding count_from
count-snoc s es e = filter-length-snoc (λ a. eqb a.site.0 s) es e

pub creates-snoc :
    (es : List Edit) (e : Edit) → length (creates (es ++ (e ∷ []))) ≡ length (creates es) + cond (is_create e) 1 0
unfolding creates
creates-snoc es e = filter-length-snoc is_create es e

pub sets-snoc :
    (s : Site) (q : Seq) (es : List Edit) (e : Edit) →
    length (sets_on s q (es ++ (e ∷ []))) ≡ length (sets_on s q es) + cond (is_set_on s q e) 1 0
unfolding sets_on
sets-snoc s q es e = filter-length-snoc (is_set_on s q) es e

-- ---- the tables with one record more

module _ (t : Tables) (b : List ℕ) (s : Sound t) (wide : length t.counters.held ≡ most_sites)
    (a : Admitted t b) where
  abbrev e : Edit
  e = decode_of b

  abbrev n : ℕ
  n = t.counters.records

  abbrev rs : List ℕ
  rs = t.records

  abbrev rs' : List ℕ
  rs' = put_record rs n b

  pub room : Room rs n b
  room =
      record {
        whole = a.whole;
        short = admitted-span t b a;
        there = omega (arith, s.records-long, a.room);
      }

  pub held_after : edits_of rs' (n + 1) ≡ held_by t ++ (e ∷ [])
  held_after = ap (edits_of rs') (add-one n) ∙ put-edits rs n b room

  records-long-after : length rs' ≡ records_length
  records-long-after = put-long rs n b room ∙ s.records-long

  -- the counts of the sites
  counts-after :
      (x : ℕ) → x < most_sites →
      get_or (set t.counters.held e.site.0 (get_or t.counters.held e.site.0 0 + 1)) x 0
      ≡ count_from x (edits_of rs' (n + 1))
  counts-after x l =
      let h = t.counters.held in
      let y = e.site.0 in
      let grown : count_from x (edits_of rs' (n + 1)) ≡ count_from x (held_by t) + cond (eqb y x) 1 0
      = ap (count_from x) held_after ∙ count-snoc x (held_by t) e in
      elim (ℕ_discrete x y) [
        | yes q ↦
            (let m : y < length h = omega arith in
            rw (grown, q, eq-eqb y y refl, get_or-set_same h y (get_or h y 0 + 1) 0 m)
            (ap (λ (k : ℕ). k + 1) (s.held y (omega arith))))
        | no q ↦
            (let d : y ≡ x → ⊥ = λ r. q (sym r) in
            rw (grown, ne_eqb y x d, get_or-set_other h y x (get_or h y 0 + 1) 0 q)
            (s.held x l ∙ omega arith))
      ]

  -- the records pass 1 to 5 in their order
  pass-after : records_pass t.counters.sites rs' (n + 1) ≡ true
  unfolding records_pass
  pass-after =
      let f : ℕ → Bool = λ p. passes t.counters.sites (edits_of rs p) (record_at rs p) in
      let f' : ℕ → Bool = λ p. passes t.counters.sites (edits_of rs' p) (record_at rs' p) in
      rw (add-one n)
      (all-on (suc n) f' (λ p l. elim (last l) [
        | inl m ↦
            rw (put-edits-before rs n b room p (omega arith), put-before rs n b room p m)
            (all-at n f s.pass p m)
        | inr q ↦
            rw (q, put-edits-before rs n b room n (omega arith), put-here rs n b room)
            (admitted-passes t b a)
      ]))

  -- and 16 is given to none of them
  named-after : records_named rs' (n + 1) ≡ true
  unfolding records_named
  named-after =
      let f : ℕ → Bool = λ p. not (is_nameless (edits_of rs p) (record_at rs p)) in
      let f' : ℕ → Bool = λ p. not (is_nameless (edits_of rs' p) (record_at rs' p)) in
      rw (add-one n)
      (all-on (suc n) f' (λ p l. elim (last l) [
        | inl m ↦
            ap₂ (λ (es : List Edit) (x : Edit). not (is_nameless es x)) (put-edits-before rs n b room p (omega arith))
            (put-before rs n b room p m)
            ∙ all-at n f s.named p m
        | inr q ↦
            rw q
            (ap₂ (λ (es : List Edit) (x : Edit). not (is_nameless es x)) (put-edits-before rs n b room n (omega arith))
            (put-here rs n b room)
            ∙ ap not a.named)
      ]))

  -- each place is zero past its record
  rests-after : (p : ℕ) → p < n + 1 → rest_zero rs' p ≡ true
  rests-after p l =
      let l' : p < suc n = omega arith in
      elim (last l') [
        | inl m ↦ put-rest-before rs n b room p m ∙ s.rests p m
        | inr q ↦ rw q (put-rest-here rs n b room s.records-zero)
      ]

  -- the sum is that of the records
  sum-after : wrapped (t.counters.sum + sum_of (record_words b) b) ≡ sum_held (n + 1) rs'
  sum-after =
      ap₂ (λ (x y : ℕ). wrapped (x + y)) (s.sum ∙ held-sum rs n (passing-fit t.counters.sites rs n s.pass))
      (record-sum b (few-members t.counters.sites b a.fit))
      ∙ sym (held-sum rs' (n + 1) (passing-fit t.counters.sites rs' (n + 1) pass-after) ∙ ap sum_over held_after
      ∙ joined-sum (held_by t) (e ∷ []))

  -- past the last record there are zeros
  records-zero-after : ZeroFrom rs' ((n + 1) * place_length)
  records-zero-after i l k =
      put-after rs n b room i (omega arith)
      ∙ s.records-zero i (omega arith) (omega (arith, put-long rs n b room))

  -- the place p < n, looked at after the edit
  module _ (p : ℕ) (l : p < n) where
    same : record_at rs' p ≡ record_at rs p
    same = put-before rs n b room p l

    create-after : is_create (record_at rs' p) ≡ is_create (record_at rs p)
    create-after = ap is_create same

    number-after : length (creates (edits_of rs' p)) ≡ length (creates (edits_of rs p))
    number-after =
        ap (λ (es : List Edit). length (creates es)) (put-edits-before rs n b room p (omega arith))

    -- the Sets on the Create in it are those before and the edit, if it is one
    sets-after :
        length (sets_on (record_at rs' p).site (record_at rs' p).seq (edits_of rs' (n + 1)))
        ≡ length (sets_on (record_at rs p).site (record_at rs p).seq (held_by t))
        + cond (is_set_on (record_at rs p).site (record_at rs p).seq e) 1 0
    sets-after =
        ap (λ (r : Edit). length (sets_on r.site r.seq (edits_of rs' (n + 1)))) same
        ∙ ap (λ (es : List Edit). length (sets_on (record_at rs p).site (record_at rs p).seq es)) held_after
        ∙ sets-snoc (record_at rs p).site (record_at rs p).seq (held_by t) e

  -- an object that the edit is no Set of
  pub entry_kept :
      (o p k : ℕ) → Entry rs n o p k → is_set_on (record_at rs p).site (record_at rs p).seq e ≡ false →
      Entry rs' (n + 1) o p k
  entry_kept o p k x d =
      record {
        place = omega (arith, x.place);
        create = create-after p x.place ∙ x.create;
        number = number-after p x.place ∙ x.number;
        sets = x.sets ∙ sym (sets-after p x.place ∙ rw d (omega arith));
        few = x.few;
      }

  -- the object whose Set it is has one more
  pub entry-grown :
      (o p k : ℕ) → Entry rs n o p k → is_set_on (record_at rs p).site (record_at rs p).seq e ≡ true →
      k + 1 ≤ most_sets → Entry rs' (n + 1) o p (k + 1)
  entry-grown o p k x d few =
      record {
        place = omega (arith, x.place);
        create = create-after p x.place ∙ x.create;
        number = number-after p x.place ∙ x.number;
        sets = ap (λ (m : ℕ). m + 1) x.sets ∙ sym (sets-after p x.place ∙ rw d);
        few = few;
      }

  -- the tables after it are sound where the entries and rows of the objects, d of them new, are
  pub sound-after :
      (d : ℕ) (os gs : List ℕ) →
      let m = t.counters.objects + d in
      cond (is_create e) 1 0 ≡ d → m ≤ most_objects → length os ≡ objects_length → length gs ≡ groups_length →
      ((o : ℕ) → o < m → Object rs' (n + 1) os gs o) → ZeroFrom os (m * entry_length) → ZeroFrom gs (m * most_groups) →
      Sound (tables_of (counted t.counters e.site b d) rs' os gs)
  sound-after d os gs new few os-long gs-long object os-zero gs-zero =
      record {
        records-long = records-long-after;
        objects-long = os-long;
        groups-long = gs-long;
        some-sites = s.some-sites;
        few-sites = s.few-sites;
        few-records = omega (arith, a.room);
        few-objects = few;
        held = counts-after;
        sum = sum-after;
        objects =
            ap₂ (λ (x y : ℕ). x + y) s.objects (sym new)
            ∙ sym (ap (λ (es : List Edit). length (creates es)) held_after ∙ creates-snoc (held_by t) e);
        pass = pass-after;
        object = object;
        records-zero = records-zero-after;
        objects-zero = os-zero;
        groups-zero = gs-zero;
        rests = rests-after;
        named = named-after;
      }
