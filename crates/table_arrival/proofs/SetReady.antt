-- What the code that takes a Set is given, and what it leaves: a Set that passes 1 to 6 at sound tables, with the
-- survey of the records. Assumes nothing.
use mathlib.Core.Path.{◌≡◌, sym, subst, ◌∙◌}
use mathlib.Core.Bool.{Bool, true}
use mathlib.Core.List.{List}
use Prim.Native.Nat.{ℕ, ◌+◌, ◌^◌, ◌≤◌, ◌<◌}
use native.Mathlib.Omega.{arith}
use lib.ListN.{length, get_or, take}
use Rattle.math_lists.specs.SortedLists.{any, elem, Ascending}
use Rattle.edit_record.specs.declared.Edit.{Edit}
use Rattle.edit_record.specs.Layout.{place_length}
use Rattle.edit_record.specs.RecordBytes.{decode_of, span_of}
use Rattle.edit_record.specs.Answer1.{is_set}
use Rattle.edit_record.proofs.WellFormed.{set-aimed}
use Rattle.math_maximal.specs.Step.{step}
use Rattle.edit_history.specs.declared.Held.{Held}
use Rattle.edit_history.specs.EditsHeld.{most_records, is_target}
use Rattle.edit_causal.specs.Conflict.{conflicts_with}
use Rattle.edit_history.specs.SurveyForms.{survey_of}
use Rattle.group_step.specs.GroupRows.{most_objects, most_sets, most_groups, row, put_row, settled}
use Rattle.group_step.specs.StepForms.{Apart}
use Rattle.group_limited.specs.declared.Judged.{Judged}
use Rattle.table_drawing.specs.Tables.{Tables, tables_of, held_by, groups_at, records_length, objects_length, groups_length}
use Rattle.table_drawing.specs.AnswerNumbers.{outcome_of}
use Rattle.table_soundness.proofs.SoundFacts.{Sound, sound-at}
use Rattle.table_arrival.specs.Answers6and7.{mates_of, groups_after}
use Rattle.table_arrival.specs.Arrival.{counted, put_record, put_counts, acceptance_of}
use Rattle.table_arrival.specs.ArrivalForms.{first_to_six, Ready}
use Rattle.table_arrival.proofs.Admitted.{Admitted, admitted, admitted-passes, admitted-span, admitted-target}
use Rattle.table_arrival.proofs.ProperWith.{judges}
use Rattle.table_arrival.proofs.ObjectOfSet.{object-less, row-few, row-ascending, row_below}
use Rattle.table_arrival.proofs.CodeOutcomes.{set_is, crowded-is, count_room}

-- the groups that the step is given, and those that it gives
abbrev pub row_by : Tables → Held → List ℕ
row_by t v = take (groups_at t.objects v.object) (row v.object t.groups)

abbrev pub step_by : Tables → Held → ℕ → List ℕ
step_by t v m = step m v.sets (row_by t v)

-- ---- what is given

pub record GivenSet (t : Tables) (b : List ℕ) (v : Held) : Type 0 where
  pub object : v.object < most_objects
  pub sets : v.sets < most_sets
  pub groups : groups_at t.objects v.object ≤ most_groups
  pub ascending : Ascending (row_by t v)
  pub below : (x : ℕ) → elem x (row_by t v) ≡ true → x < 2 ^ v.sets
  pub records-long : length t.records ≡ records_length
  pub objects-long : length t.objects ≡ objects_length
  pub groups-long : length t.groups ≡ groups_length
  pub whole : length b ≡ span_of b
  pub short : span_of b ≤ place_length
  pub room : t.counters.records < most_records
  pub few-objects : t.counters.objects ≤ most_objects
  pub count : get_or t.counters.held (decode_of b).site.0 0 < most_records

-- ---- what is left

-- the step gave too many groups, and the table of groups is as the step left it
abbrev pub Refused : Tables → List ℕ → Held → ℕ → Type 0
Refused t b v m =
    most_groups < length (step_by t v m) →
    outcome_of 7
    (tables_of t.counters t.records t.objects
    (put_row v.object t.groups (settled (step_by t v m) (row v.object t.groups))))
    ≡ acceptance_of t b

-- the step gave few enough, and the record, the entry and the counters are stored
abbrev pub Stored : Tables → List ℕ → Held → ℕ → Type 0
Stored t b v m =
    length (step_by t v m) ≤ most_groups →
    outcome_of 0
    (tables_of (counted t.counters (decode_of b).site b 0) (put_record t.records t.counters.records b)
    (put_counts t.objects v.object (v.sets + 1) (length (step_by t v m)))
    (put_row v.object t.groups (settled (step_by t v m) (row v.object t.groups))))
    ≡ acceptance_of t b

-- ---- for the survey of the records

module _ (t : Tables) (b : List ℕ) (is_sound : Sound t) (z : first_to_six t b ≡ 0) (k : is_set (decode_of b) ≡ true) where
  abbrev e : Edit
  e = decode_of b

  abbrev v : Held
  v = survey_of (held_by t) e

  abbrev a : Admitted t b
  a = admitted t b z

  abbrev aim : any (is_target e) (held_by t) ≡ true
  aim = admitted-target t b a (set-aimed e k)

  given : GivenSet t b v
  unfolding survey_of
  given =
      record {
        object = omega (arith, object-less t is_sound e aim, is_sound.few-objects);
        sets = a.set_room k;
        groups = row-few t is_sound e aim;
        ascending = row-ascending t is_sound e aim;
        below = row_below t is_sound e aim;
        records-long = is_sound.records-long;
        objects-long = is_sound.objects-long;
        groups-long = is_sound.groups-long;
        whole = a.whole;
        short = admitted-span t b a;
        room = a.room;
        few-objects = is_sound.few-objects;
        count = count_room t b is_sound a;
      }

  -- the Sets that conflict with it
  abbrev marks : ℕ
  marks = conflicts_with e (mates_of t e)

  refused : Refused t b v marks
  unfolding survey_of groups_after
  refused many = crowded-is t b z k many

  stored : Stored t b v marks
  unfolding survey_of groups_after
  stored few = set_is t b z k few

-- ---- for what the code has in hand

module _
    (t : Tables)
    (b : List ℕ)
    (v : Held)
    (j : Judged)
    (apart : Bool)
    (r : Ready t b v j apart) where
  abbrev edit : Edit
  edit = decode_of b

  passed : Admitted t b
  passed = admitted t b r.passes

  target : any (is_target edit) (held_by t) ≡ true
  target = admitted-target t b passed (set-aimed edit r.set)

  -- the Sets that are judged to conflict do
  marks-are : j.conflicts ≡ conflicts_with edit (mates_of t edit)
  marks-are =
      let pass = admitted-passes t b passed in
      let of = judges t (sound-at t r.is_sound) edit j true (sym target) r.judged in
      of.conflicts target pass (of.nameless pass ∙ passed.named)

  -- what holds of the survey of the records and of the Sets that conflict
  in-hand :
      (P : Held → ℕ → Type 0) →
      P (survey_of (held_by t) edit) (conflicts_with edit (mates_of t edit)) →
      P v j.conflicts
  in-hand P h =
      subst (λ (m : ℕ). P v m) (sym marks-are)
      (subst (λ (y : Held). P y (conflicts_with edit (mates_of t edit))) (sym r.surveyed) h)

  pub set_given : GivenSet t b v
  set_given =
      in-hand (λ y m. GivenSet t b y) (given t b (sound-at t r.is_sound) r.passes r.set)

  pub set_apart : apart ≡ true → Apart (row_by t v)
  set_apart h =
      r.rows h v.object
      (rw r.surveyed (unfold survey_of in object-less t (sound-at t r.is_sound) edit target))

  pub set-refused : Refused t b v j.conflicts
  set-refused = in-hand (Refused t b) (refused t b (sound-at t r.is_sound) r.passes r.set)

  pub set-stored : Stored t b v j.conflicts
  set-stored = in-hand (Stored t b) (stored t b (sound-at t r.is_sound) r.passes r.set)
