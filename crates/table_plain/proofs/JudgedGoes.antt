-- A Set that was judged by the rows of its box: what the code asks to store it, and what it leaves is what taking it
-- leaves, with the index of the tables after it. Assumes nothing.
use mathlib.Core.Path.{◌≡◌, refl}
use mathlib.Core.Bool.{true, false}
use mathlib.Core.List.{List}
use Prim.Native.Nat.{ℕ, ◌+◌, ◌≤◌, ◌<◌}
use native.Mathlib.Omega.{arith}
use lib.ListN.{length, set}
use borrow.Author.Tests.{lt-ltb}
use Rattle.math_lists.proofs.Booleans.{clash}
use Rattle.edit_record.specs.declared.Edit.{Edit}
use Rattle.edit_record.specs.Layout.{record_length, place_length}
use Rattle.edit_record.specs.RecordBytes.{decode_of, span_of}
use Rattle.edit_record.proofs.RecordSpans.{span-least}
use Rattle.edit_history.specs.EditsHeld.{most_records}
use Rattle.edit_history.specs.SurveyForms.{bump}
use Rattle.edit_sum.specs.WordSum.{record_words, wrapped, sum_of}
use Rattle.group_step.specs.GroupRows.{most_groups, settled}
use Rattle.table_drawing.specs.Tables.{Tables, tables_of, records_length}
use Rattle.table_drawing.specs.AnswerNumbers.{outcome_of}
use Rattle.table_soundness.proofs.SoundFacts.{Sound, sound-at}
use Rattle.table_index.specs.IndexForms.{counters_of}
use Rattle.table_index.specs.declared.Looked.{Looked}
use Rattle.table_arrival.specs.Arrival.{counted, put_record, put_counts, acceptance_of}
use Rattle.table_arrival.proofs.Admitted.{admitted}
use Rattle.table_arrival.proofs.CodeOutcomes.{row_back}
use Rattle.table_arrival.proofs.ObjectOfSet.{row-rest}
use Rattle.table_arrival.proofs.SetReady.{GivenSet, set_given, set_apart, set-stored}
use Rattle.table_plain.specs.TakingForms.{TakesShort, LeavesShort, spot_of, Enters, Steps, SetStored, JudgedBy}
use Rattle.table_plain.specs.TakingForms.{stepped_by, rows_by}
use Rattle.table_plain.proofs.IndexAfter.{enter-asks, set-leaves}

module _
    (sites n m sum : ℕ)
    (held rs os gs ps ns cs hs b : List ℕ)
    (p : TakesShort (tables_of (counters_of sites n m held sum) rs os gs) ps ns cs hs b)
    (r : Looked)
    (x : JudgedBy (tables_of (counters_of sites n m held sum) rs os gs) ps ns cs b r) where
  abbrev t : Tables
  t = tables_of (counters_of sites n m held sum) rs os gs

  abbrev e : Edit
  e = decode_of b

  abbrev s : Sound t
  s = sound-at t p.takes.is_sound

  given : GivenSet t b x.asked
  given = set_given t b x.asked x.judged true x.ready

  -- ---- what the code asks

  pub judged-there : record_length ≤ length b
  judged-there = omega (arith, p.whole, span-least b)

  pub judged-steps : Steps os gs ns cs hs e.key r
  judged-steps =
      let (o, k) = x.surveyed in
      record {
        object = rw o given.object;
        sets = rw k given.sets;
        groups = rw o given.groups;
        ascending = rw o given.ascending;
        below = rw (o, k) given.below;
        apart = rw o (set_apart t b x.asked x.judged true x.ready refl);
        rest = rw x.own (row-rest t s e x.held);
        objects-long = s.objects-long;
        groups-long = s.groups-long;
        numbers-long = p.takes.index.numbers-long;
        counts-long = p.takes.index.counts-long;
        chains-long = p.takes.index.chained.chains-long;
        few = (admitted t b x.ready.passes).formed.key;
        count = rw (← x.count) (rw k given.sets);
      }

  pub judged-put : (n < most_records) × (length rs ≡ records_length) × (length b ≡ span_of b) × (span_of b ≤ place_length)
  judged-put = (p.few, s.records-long, p.whole, given.short)

  -- ---- what it leaves

  row_same : most_groups < length (stepped_by os gs r) → rows_by os gs r ≡ gs
  unfolding settled
  row_same many = rw (lt-ltb most_groups (length (stepped_by os gs r)) many) (row_back gs r.object)

  -- where there is no room for the groups of its object
  pub judged-crowded :
      (os' gs' ns' cs' hs' : List ℕ) → SetStored n e.kind e.key r false os gs ns cs hs os' gs' ns' cs' hs' →
      LeavesShort t b false (tables_of (counters_of sites n m held sum) rs os' gs') ps ns cs hs ps ns' cs' hs'
  judged-crowded os' gs' ns' cs' hs' st =
      let (g, _, crowded) = st in
      let (many, o, a, c, h) = crowded refl in
      record {
        taken = λ y. clash y refl;
        tables = λ y. rw (o, g, row_same many);
        index = λ y. (refl, a, c, h);
      }

  module _
      (os' gs' ns' cs' hs' : List ℕ)
      (st : SetStored n e.kind e.key r true os gs ns cs hs os' gs' ns' cs' hs') where
    abbrev after : Tables
    after =
        tables_of (counted (counters_of sites n m held sum) e.site b 0) (put_record rs n b)
        (put_counts os r.object (r.sets + 1) (length (stepped_by os gs r))) (rows_by os gs r)

    few : length (stepped_by os gs r) ≤ most_groups
    few = let (_, fits, _) = st in (fits refl).0

    taken-so : outcome_of 0 after ≡ acceptance_of t b
    taken-so =
        let (o, k) = x.surveyed in
        let little = rw (o, k, x.conflicts) at few in
        rw (o, k, x.conflicts) (set-stored t b x.asked x.judged true x.ready little)

    pub judged-enters : Enters held n ps b
    judged-enters = enter-asks sites n m sum held rs os gs ps ns cs hs b p after taken-so

    pub judged-left :
        (held' rs' ps' : List ℕ) (m' sum' : ℕ) → held' ≡ bump held e.site → rs' ≡ put_record rs n b →
        ps' ≡ set ps (spot_of ps b) n → m' ≡ m + 0 → sum' ≡ wrapped (sum + sum_of (record_words b) b) →
        LeavesShort t b true (tables_of (counters_of sites (n + 1) m' held' sum') rs' os' gs') ps ns cs hs ps' ns' cs' hs'
    judged-left held' rs' ps' m' sum' bumped put placed made added =
        let (g, fits, _) = st in
        let (_, o, a, d, h) = fits refl in
        rw (bumped, put, placed, made, added, o, g, a, d, h)
        (set-leaves sites n m sum held rs os gs ps ns cs hs b p after taken-so r.object x.number x.ready.set)
