-- When tables are sound, in the order of document 01's sentence: counts within the limits that agree with the records;
-- records that pass 1 to 5 in their order; objects in the order of their Creates, each with 1 to 32 groups in strictly
-- ascending order with no bit at or past its number of Sets; every unused entry zero. Then what document 02's Req 06
-- adds: places that are zero past their records, and 16. Assumes nothing.
use Rattle.std.specs.Prelude.{ℕ, ◌+◌, ◌*◌, ◌^◌, List, Bool, ◌&&◌, ◌||◌, get_or, length, take, drop, eqb, leb, ltb}
use Rattle.math_lists.specs.NumbersBelow.{all}
use Rattle.edit_record.specs.Layout.{most_sites, place_length}
use Rattle.edit_record.specs.RecordBytes.{span_of}
use Rattle.edit_record.specs.Answer1.{is_create}
use Rattle.edit_history.specs.EditsHeld.{record_at, edits_of, count_from, creates, sets_on, most_records}
use Rattle.edit_history.specs.Answers2to5.{records_pass}
use Rattle.edit_history.specs.Answer16.{records_named}
use Rattle.edit_sum.specs.WordSum.{sum_held}
use Rattle.group_step.specs.GroupRows.{most_objects, most_sets, most_groups}
use Rattle.table_drawing.specs.declared.Counters.{Counters}
use Rattle.table_drawing.specs.Tables.{Tables, entry_length, place_at, sets_at, groups_at, lengths_right, sites_right}

-- ---- the limits

abbrev pub within_limits : Counters → Bool
within_limits c = sites_right c.sites && leb c.records most_records && leb c.objects most_objects

-- ---- the counts agree with the records

unfoldable pub counts_agree : Counters → List ℕ → Bool
counts_agree c rs =
    all most_sites (λ s. eqb (get_or c.held s 0) (count_from s (edits_of rs c.records)))
    && eqb c.sum (sum_held c.records rs)
    && eqb c.objects (length (creates (edits_of rs c.records)))

-- ---- the objects

-- place i of object o's row, which has g groups of k Sets: a group with no bit at or past k, below the next one; 0
-- where unused
abbrev pub slot_sound : List ℕ → ℕ → ℕ → ℕ → ℕ → Bool
slot_sound gs o k g i =
    leb g i && eqb (get_or gs (o * most_groups + i) 0) 0
    || ltb i g
    && ltb (get_or gs (o * most_groups + i) 0) (2 ^ k)
    && (leb g (i + 1) || ltb (get_or gs (o * most_groups + i) 0) (get_or gs (o * most_groups + i + 1) 0))

unfoldable pub row_sound : List ℕ → ℕ → ℕ → ℕ → Bool
row_sound gs o k g = leb 1 g && leb g most_groups && all most_groups (slot_sound gs o k g)

-- p is the place of the Create that has o Creates before it, and k is the number of its Sets
unfoldable pub entry_sound : List ℕ → ℕ → ℕ → ℕ → ℕ → Bool
entry_sound rs n o p k =
    ltb p n
    && is_create (record_at rs p)
    && eqb (length (creates (edits_of rs p))) o
    && eqb k (length (sets_on (record_at rs p).site (record_at rs p).seq (edits_of rs n)))
    && leb k most_sets

unfoldable pub object_sound : List ℕ → ℕ → List ℕ → List ℕ → ℕ → Bool
object_sound rs n os gs o =
    entry_sound rs n o (place_at os o) (sets_at os o) && row_sound gs o (sets_at os o) (groups_at os o)

-- ---- every unused entry is zero

unfoldable pub zero_from : List ℕ → ℕ → Bool
zero_from l k = all (length l) (λ i. ltb i k || eqb (get_or l i 0) 0)

-- place p of the records is zero past its record
unfoldable pub rest_zero : List ℕ → ℕ → Bool
rest_zero rs p = let place = take place_length (drop (p * place_length) rs) in zero_from place (span_of place)

unfoldable pub sound : Tables → Bool
sound t =
    let c = t.counters in
    lengths_right t.records t.objects t.groups
    && within_limits c
    && counts_agree c t.records
    && records_pass c.sites t.records c.records
    && all c.objects (object_sound t.records c.records t.objects t.groups)
    && zero_from t.records (c.records * place_length)
    && zero_from t.objects (c.objects * entry_length)
    && zero_from t.groups (c.objects * most_groups)
    && all c.records (rest_zero t.records)
    && records_named t.records c.records
