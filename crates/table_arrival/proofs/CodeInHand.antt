-- What the code of an arrival has in hand: the first of 1 to 3, at tables that are sound but for 16, and then the
-- survey of the records and the first of 1 to 6. Assumes nothing.
use mathlib.Core.Path.{◌≡◌, refl, sym, ◌∙◌}
use mathlib.Core.Bool.{Bool, true, false, cond}
use mathlib.Core.List.{List}
use Prim.Native.Nat.{ℕ, ◌≤◌, ◌<◌}
use lib.ListN.{length, get_or}
use Rattle.std.specs.Prelude.{Some, is_some}
use Rattle.edit_record.specs.Layout.{place_length}
use Rattle.edit_record.specs.RecordBytes.{decode_of, span_of}
use Rattle.edit_record.specs.Answer1.{is_create, is_set}
use Rattle.edit_record.proofs.WellFormed.{otherwise-layer, set-aimed}
use Rattle.edit_history.specs.declared.Held.{Held}
use Rattle.edit_history.specs.declared.Surveyed.{Surveyed}
use Rattle.edit_history.specs.EditsHeld.{most_records}
use Rattle.edit_history.specs.Answer16.{records_named}
use Rattle.group_step.specs.GroupRows.{most_objects}
use Rattle.group_limited.specs.declared.Judged.{Judged}
use Rattle.table_drawing.specs.Tables.{Tables, tables_of, records_length, objects_length}
use Rattle.table_drawing.specs.AnswerNumbers.{outcome_of}
use Rattle.table_soundness.specs.Sound.{sound}
use Rattle.table_soundness.specs.SoundnessForms.{sound_but_named}
use Rattle.table_soundness.proofs.SoundFacts.{Sound, SoundBut, sound-at, but-of, named-decides, entered}
use Rattle.table_index.specs.IndexForms.{Holds}
use Rattle.table_arrival.specs.Answers6and7.{first_of, in_turn}
use Rattle.table_arrival.specs.Arrival.{counted, put_record, put_entry, with_create, with_layer}
use Rattle.table_arrival.specs.Arrival.{acceptance_of, arrival_of}
use Rattle.table_arrival.specs.ArrivalForms.{three_by, to_six_by, first_to_six, InHand, Ready}
use Rattle.table_arrival.proofs.SixByCounters.{three-are, to-six-are}
use Rattle.table_arrival.proofs.ProperWith.{judges}
use Rattle.table_arrival.proofs.Admitted.{admitted, admitted-span, admitted-target}
use Rattle.table_soundness.proofs.ObjectsByNumber.{entered-sets-few}
use Rattle.table_arrival.proofs.CodeOutcomes.{refused-is, create-is, layer-is, count_room}

-- the counters are those of the records
pub but-holds : (t : Tables) → SoundBut t → Holds t.counters t.records
but-holds t s = record {
  few-sites = s.few-sites;
  few-records = s.few-records;
  few-objects = s.few-objects;
  pass = s.pass;
  held = s.held;
  objects = s.objects;
  few-sets = entered-sets-few t (entered t s);
}

module _ (t : Tables) (h : sound t ≡ true) where
  -- bytes to which one of 1 to 3 is given by the counters are refused with it
  pub early-refused :
      (b : List ℕ) → (first_of in_turn (three_by t.counters b) ≡ 0 → ⊥) →
      outcome_of (first_of in_turn (three_by t.counters b)) t ≡ acceptance_of t b
  early-refused b d =
      let is = three-are t (sound-at t h) b d in
      rw is (refused-is t b (λ z. d (is ∙ z)))

  pub holds : Holds t.counters t.records
  holds = but-holds t (but-of t (sound-at t h))

-- ---- at tables that are sound but for 16

module _ (t : Tables) (b : Bool) (is : b ≡ sound_but_named t) (on : b ≡ true) where
  -- the answer to such bytes
  pub early-answered :
      (rec : List ℕ) (r : ℕ) → (first_of in_turn (three_by t.counters rec) ≡ 0 → ⊥) →
      r ≡ cond (records_named t.records t.counters.records) (first_of in_turn (three_by t.counters rec)) 8 →
      outcome_of r t ≡ arrival_of t rec
  unfolding arrival_of
  early-answered rec r d h =
      go (records_named t.records t.counters.records) (named-decides t b _ is on refl) h
    where
      first : ℕ
      first = first_of in_turn (three_by t.counters rec)

      go : (named : Bool) → named ≡ sound t → r ≡ cond named first 8 →
          outcome_of r t ≡ cond (sound t) (acceptance_of t rec) (outcome_of 8 t)
      go true y e = rw (← y, e) (early-refused t (sym y) rec d)
      go false y e = rw (← y, e)

  -- 16 is given to a record held
  pub not_named :
      (rec : List ℕ) (named : Bool) → named ≡ records_named t.records t.counters.records → named ≡ false →
      outcome_of 8 t ≡ arrival_of t rec
  unfolding arrival_of
  not_named rec named h off = rw (sym (named-decides t b named is on h) ∙ off)

module _
    (t : Tables)
    (b : List ℕ)
    (v : Surveyed)
    (j : Judged)
    (apart : Bool)
    (h : InHand t b v j apart) where
  abbrev sound-facts : Sound t
  sound-facts = sound-at t h.is_sound

  -- the code's 1 to 6 are the definition's
  pub first-is : first_of in_turn (to_six_by t.counters b v j) ≡ first_to_six t b
  first-is =
      to-six-are t sound-facts b h.timely v h.surveyed j
      (judges t sound-facts (decode_of b) j (is_some v.held) h.surveyed.found h.judged)

  module _ (z : first_to_six t b ≡ 0) where
    -- ---- a Set

    -- its target is held
    pub set-held : is_set (decode_of b) ≡ true → is_some v.held ≡ true
    set-held k = h.surveyed.found ∙ admitted-target t b (admitted t b z) (set-aimed (decode_of b) k)

    -- and it is ready to be taken
    pub set-ready : (d : Held) → v.held ≡ Some d → is_set (decode_of b) ≡ true → Ready t b d j apart
    set-ready d is k = record {
      is_sound = h.is_sound;
      surveyed = h.surveyed.whole d is;
      judged = rw is at h.judged;
      rows = h.rows;
      passes = z;
      set = k;
    }

    -- ---- a Create

    pub create-given :
        is_create (decode_of b) ≡ true →
        (t.counters.records < most_records)
        × (t.counters.objects < most_objects)
        × (length t.records ≡ records_length)
        × (length t.objects ≡ objects_length)
        × (length b ≡ span_of b)
        × (span_of b ≤ place_length)
        × (get_or t.counters.held (decode_of b).site.0 0 < most_records)
    create-given k =
        let s = sound-facts in
        let a = admitted t b z in (
          a.room,
          a.create-room k,
          s.records-long,
          s.objects-long,
          a.whole,
          admitted-span t b a,
          count_room t b s a,
        )

    pub create-taken :
        is_create (decode_of b) ≡ true →
        outcome_of 0
        (tables_of (counted t.counters (decode_of b).site b 1) (put_record t.records t.counters.records b)
        (put_entry t.objects t.counters.objects t.counters.records 0 1)
        t.groups)
        ≡ acceptance_of t b
    unfolding with_create
    create-taken k = create-is t b z k

    -- ---- a layer edit

    pub layer-given :
        (t.counters.records < most_records)
        × (t.counters.objects ≤ most_objects)
        × (length t.records ≡ records_length)
        × (length b ≡ span_of b)
        × (span_of b ≤ place_length)
        × (get_or t.counters.held (decode_of b).site.0 0 < most_records)
    layer-given =
        let s = sound-facts in
        let a = admitted t b z in
        (a.room, s.few-objects, s.records-long, a.whole, admitted-span t b a, count_room t b s a)

    pub layer-taken :
        is_create (decode_of b) ≡ false → is_set (decode_of b) ≡ false →
        outcome_of 0
        (tables_of (counted t.counters (decode_of b).site b 0) (put_record t.records t.counters.records b)
        t.objects t.groups)
        ≡ acceptance_of t b
    unfolding with_layer
    layer-taken c s =
        layer-is t b z (otherwise-layer t.counters.sites (decode_of b) (admitted t b z).formed c s)
