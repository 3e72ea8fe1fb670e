-- Answers 6 and 7, as their rows of document 01's 'Numbers given back' say them, and the answer to an arriving edit at
-- sound tables: 1 to 7 in turn, with 16 after 5, the first that applies. Assumes nothing.
use Rattle.std.specs.Prelude.{ℕ, List, [], ◌∷◌, Bool, ◌&&◌, ◌||◌, cond, length, take, leb, ltb}
use Rattle.edit_record.specs.declared.Edit.{Edit}
use Rattle.edit_record.specs.RecordBytes.{decode_of}
use Rattle.edit_record.specs.Answer1.{is_create, is_set, malformed}
use Rattle.edit_causal.specs.Conflict.{conflicts_with}
use Rattle.edit_history.specs.EditsHeld.{sets_on, object_of, most_records}
use Rattle.edit_history.specs.Answers2to5.{is_repeated, is_early, is_torn, is_astray}
use Rattle.edit_history.specs.Answer16.{is_nameless}
use Rattle.math_maximal.specs.Step.{step}
use Rattle.group_step.specs.GroupRows.{most_objects, most_sets, most_groups, row}
use Rattle.table_drawing.specs.Tables.{Tables, groups_at, held_by}

-- the Sets of e's object
abbrev pub mates_of : Tables → Edit → List Edit
mates_of t e = sets_on e.tsite e.tseq (held_by t)

-- the groups in use of object o
abbrev pub row_of : Tables → ℕ → List ℕ
row_of t o = take (groups_at t.objects o) (row o t.groups)

-- the groups of e's object after the step
unfoldable pub groups_after : Tables → Edit → List ℕ
groups_after t e =
    step (conflicts_with e (mates_of t e)) (length (mates_of t e)) (row_of t (object_of e (held_by t)))

-- 6: 256 records held; or a Create with 64 objects; or a Set on an object with 64 Sets
unfoldable pub is_full : Tables → Edit → Bool
is_full t e =
    leb most_records t.counters.records
    || is_create e && leb most_objects t.counters.objects
    || is_set e && leb most_sets (length (mates_of t e))

-- 7: the step would give more than 32 groups
unfoldable pub is_crowded : Tables → Edit → Bool
is_crowded t e = is_set e && ltb most_groups (length (groups_after t e))

-- the number of the first reason that is present, or 0
unfoldable pub first_of : List ℕ → List Bool → ℕ
first_of [] bs = 0
first_of (n ∷ ns) [] = 0
first_of (n ∷ ns) (b ∷ bs) = cond b n (first_of ns bs)

-- the numbers in the order in which their reasons are looked at
abbrev pub in_turn : List ℕ
in_turn = 1 ∷ 2 ∷ 3 ∷ 4 ∷ 5 ∷ 16 ∷ 6 ∷ 7 ∷ []

abbrev pub reasons : Tables → List ℕ → List Bool
reasons t b =
    let e = decode_of b in
    let es = held_by t in
    malformed t.counters.sites b
    ∷ is_repeated es e
    ∷ is_early es e
    ∷ is_torn es e
    ∷ is_astray es e
    ∷ is_nameless es e
    ∷ is_full t e
    ∷ is_crowded t e
    ∷ []

unfoldable pub answer_to : Tables → List ℕ → ℕ
answer_to t b = first_of in_turn (reasons t b)
