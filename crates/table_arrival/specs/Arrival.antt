-- What an arriving edit does: 8, then 1 to 7 in turn, with 16 after 5, the first that applies; else the tables with the
-- Create, the Set or the layer edit in. Assumes nothing.
use Rattle.std.specs.Prelude.{ℕ, ◌+◌, ◌-◌, ◌*◌, List, ◌++◌, cond, get_or, set, length, take, drop, replicate, eqb}
use Rattle.edit_record.specs.declared.Site.{Site}
use Rattle.edit_record.specs.Layout.{place_length}
use Rattle.edit_record.specs.RecordBytes.{decode_of}
use Rattle.edit_record.specs.Answer1.{is_create, is_set}
use Rattle.edit_history.specs.EditsHeld.{object_of}
use Rattle.edit_sum.specs.WordSum.{record_words, wrapped, sum_of}
use Rattle.group_step.specs.GroupRows.{most_groups, put_row}
use Rattle.table_drawing.specs.declared.Counters.{Counters}
use Rattle.table_drawing.specs.Tables.{Tables, tables_of, entry_length, held_by}
use Rattle.table_drawing.specs.AnswerNumbers.{Outcome, outcome_of}
use Rattle.table_soundness.specs.Sound.{sound}
use Rattle.table_arrival.specs.Answers6and7.{answer_to, groups_after, mates_of}

-- ---- the tables after an accepted edit

-- one record more, b of site s, and d objects more
abbrev pub counted : Counters → Site → List ℕ → ℕ → Counters
counted c s b d =
    record {
      sites = c.sites;
      records = c.records + 1;
      objects = c.objects + d;
      held = set c.held s.0 (get_or c.held s.0 0 + 1);
      sum = wrapped (c.sum + sum_of (record_words b) b);
    }

-- the record b at the front of place p
abbrev pub put_record : List ℕ → ℕ → List ℕ → List ℕ
put_record rs p b = take (p * place_length) rs ++ (b ++ drop (p * place_length + length b) rs)

-- the entry of object o: the place of its Create, its number of Sets and its number of groups
abbrev pub put_counts : List ℕ → ℕ → ℕ → ℕ → List ℕ
put_counts os o k g = set (set os (o * entry_length + 1) k) (o * entry_length + 2) g

abbrev pub put_entry : List ℕ → ℕ → ℕ → ℕ → ℕ → List ℕ
put_entry os o p k g = put_counts (set os (o * entry_length) p) o k g

-- a Create adds one object with the empty group, which is 0
unfoldable pub with_create : Tables → List ℕ → Tables
with_create t b =
    let c = t.counters in
    tables_of (counted c (decode_of b).site b 1) (put_record t.records c.records b)
    (put_entry t.objects c.objects c.records 0 1)
    t.groups

unfoldable pub with_set : Tables → List ℕ → Tables
with_set t b =
    let c = t.counters in
    let e = decode_of b in
    let o = object_of e (held_by t) in
    let gs = groups_after t e in
    tables_of (counted c e.site b 0) (put_record t.records c.records b)
    (put_counts t.objects o (length (mates_of t e) + 1) (length gs))
    (put_row o t.groups (gs ++ replicate (most_groups - length gs) 0))

-- a layer edit adds one record, and leaves the objects and their groups as they were
unfoldable pub with_layer : Tables → List ℕ → Tables
with_layer t b =
    let c = t.counters in
    tables_of (counted c (decode_of b).site b 0) (put_record t.records c.records b) t.objects t.groups

-- ---- the arrival

abbrev pub taken : Tables → List ℕ → Tables
taken t b =
    let e = decode_of b in
    cond (is_create e) (with_create t b) (cond (is_set e) (with_set t b) (with_layer t b))

-- at tables that are known to be sound
unfoldable pub acceptance_of : Tables → List ℕ → Outcome
acceptance_of t b = cond (eqb (answer_to t b) 0) (outcome_of 0 (taken t b)) (outcome_of (answer_to t b) t)

unfoldable pub arrival_of : Tables → List ℕ → Outcome
arrival_of t b = cond (sound t) (acceptance_of t b) (outcome_of 8 t)
