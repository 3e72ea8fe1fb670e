-- Forms that the code uses: 1 to 6, with 16 after 5, from the counters, a survey of the records and what is judged of
-- the edit. No one need believe them: laws in proofs/ tie them to `Arrival`. Assumes nothing.
use Rattle.std.specs.Prelude.{ℕ, ◌<◌, List, [], ◌∷◌, ◌≡◌, Bool, true, false, not, ◌&&◌, ◌||◌, eqb, leb, length, Option, Some, is_some, unwrap_or, option_map}
use Rattle.math_lists.specs.SortedLists.{any}
use Rattle.edit_record.specs.Layout.{create_kind, set_kind, limited_kind}
use Rattle.edit_record.specs.declared.Edit.{Edit}
use Rattle.edit_record.specs.RecordBytes.{decode_of}
use Rattle.edit_record.specs.Answer1.{is_set, is_limited, is_aimed, malformed}
use Rattle.edit_history.specs.declared.Held.{Held}
use Rattle.edit_history.specs.declared.Surveyed.{Surveyed}
use Rattle.edit_causal.specs.Conflict.{conflicts_with}
use Rattle.edit_causal.specs.ConflictForms.{plain_marks}
use Rattle.edit_history.specs.EditsHeld.{most_records, edits_of, sets_on, is_target}
use Rattle.edit_history.specs.Answers2to5.{is_repeated, is_early, is_torn, is_astray, passes}
use Rattle.edit_history.specs.Answer16.{is_nameless, records_named}
use Rattle.edit_history.specs.SurveyForms.{repeated_against, early_against, survey_of, SurveyedOf}
use Rattle.group_step.specs.GroupRows.{most_objects, most_sets}
use Rattle.group_step.specs.StepForms.{Apart}
use Rattle.group_limited.specs.declared.Judged.{Judged}
use Rattle.group_limited.specs.LimitedForms.{JudgedWhere}
use Rattle.table_drawing.specs.declared.Counters.{Counters}
use Rattle.table_drawing.specs.Tables.{Tables, held_by}
use Rattle.table_soundness.specs.Sound.{sound}
use Rattle.table_arrival.specs.declared.Mates.{Mates}
use Rattle.table_arrival.specs.Answers6and7.{row_of, is_full, first_of, in_turn}

-- 6 to an edit of this kind whose object has k Sets
abbrev pub full_with : Counters → ℕ → ℕ → Bool
full_with c kind k =
    leb most_records c.records
    || eqb kind create_kind && leb most_objects c.objects
    || (eqb kind set_kind || eqb kind limited_kind) && leb most_sets k

-- m tells of the Sets ms of an object, before the edit e
pub record MatesOf (ms : List Edit) (e : Edit) (m : Mates) : Type 0 where
  pub sets : m.sets ≡ length ms
  pub plain : m.plain ≡ plain_marks e ms
  pub limited : m.limited ≡ any is_limited ms

-- what is judged of an edit e, where es are held: 16, and the Sets that conflict with it if its target is held; both if
-- none of 1 to 5 applies
pub record Judges (sites : ℕ) (es : List Edit) (e : Edit) (j : Judged) : Type 0 where
  pub nameless : passes sites es e ≡ true → j.nameless ≡ is_nameless es e
  pub conflicts :
      any (is_target e) es ≡ true → passes sites es e ≡ true → j.nameless ≡ false →
      j.conflicts ≡ conflicts_with e (sets_on e.tsite e.tseq es)

-- 1 to 3 of a record, by the counters
abbrev pub three_by : Counters → List ℕ → List Bool
three_by c b =
    malformed c.sites b
    ∷ repeated_against c.held (decode_of b)
    ∷ early_against c.held (decode_of b)
    ∷ []

-- how many Sets the object of an edit has by its survey; none, where its target is not held
abbrev pub surveyed_sets : Surveyed → ℕ
surveyed_sets v = unwrap_or (option_map (λ (h : Held). h.sets) v.held) 0

-- 1 to 6 of a record to which none of 1 to 3 is given, by its survey and what is judged of it
abbrev pub to_six_by : Counters → List ℕ → Surveyed → Judged → List Bool
to_six_by c b v j =
    false
    ∷ false
    ∷ false
    ∷ v.torn
    ∷ (is_aimed (decode_of b) && not (is_some v.held))
    ∷ j.nameless
    ∷ full_with c (decode_of b).kind (surveyed_sets v)
    ∷ []

-- 1 to 6 as `reasons` has them
abbrev pub to_six : Tables → List ℕ → List Bool
to_six t b =
    let e = decode_of b in
    let es = held_by t in
    malformed t.counters.sites b
    ∷ is_repeated es e
    ∷ is_early es e
    ∷ is_torn es e
    ∷ is_astray es e
    ∷ is_nameless es e
    ∷ is_full t e
    ∷ []

unfoldable pub first_to_six : Tables → List ℕ → ℕ
first_to_six t b = first_of in_turn (to_six t b)

-- in no row is a group part of a larger one
abbrev pub RowsApart : Tables → Type 0
RowsApart t = (o : ℕ) → o < t.counters.objects → Apart (row_of t o)

-- what is in hand of a record to which none of 1 to 3 is given, at sound tables: its survey, what is judged of it, and
-- whether the rows are known to be apart
pub record InHand (t : Tables) (b : List ℕ) (v : Surveyed) (j : Judged) (apart : Bool) : Type 0 where
  pub is_sound : sound t ≡ true
  pub timely : first_of in_turn (three_by t.counters b) ≡ 0
  pub surveyed : SurveyedOf (held_by t) (decode_of b) v
  pub judged :
      JudgedWhere (is_some v.held) (sets_on (decode_of b).tsite (decode_of b).tseq (held_by t)) (decode_of b) j
  pub rows : apart ≡ true → RowsApart t

-- the same of a Set that passes 1 to 6: its target is held, and h is what is asked of that
pub record Ready (t : Tables) (b : List ℕ) (h : Held) (j : Judged) (apart : Bool) : Type 0 where
  pub is_sound : sound t ≡ true
  pub surveyed : h ≡ survey_of (held_by t) (decode_of b)
  pub judged : JudgedWhere true (sets_on (decode_of b).tsite (decode_of b).tseq (held_by t)) (decode_of b) j
  pub rows : apart ≡ true → RowsApart t
  pub passes : first_to_six t b ≡ 0
  pub set : is_set (decode_of b) ≡ true

-- what is judged of an edit e after the first n records, where 16 is given to none of them, or none; `found` tells
-- whether its target is held
pub record TestedFor (found : Bool) (rs : List ℕ) (n : ℕ) (e : Edit) (r : Option Judged) : Type 0 where
  pub named : is_some r ≡ records_named rs n
  pub judged : (j : Judged) → r ≡ Some j → JudgedWhere found (sets_on e.tsite e.tseq (edits_of rs n)) e j
