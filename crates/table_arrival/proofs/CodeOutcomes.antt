-- What the code leaves is what the definition says, case by case: refused, a Create taken, a layer edit taken, a Set
-- taken, a Set refused with 7. Assumes nothing.
use mathlib.Core.Path.{◌≡◌, sym, ap, ◌∙◌}
use mathlib.Core.Bool.{Bool, true, false, cond}
use mathlib.Core.List.{List, ◌++◌}
use Prim.Native.Nat.{ℕ, ◌+◌, ◌*◌, ◌≤◌, ◌<◌}
use native.Mathlib.Omega.{arith}
use lib.ListN.{length, get_or, take, drop, take-append-drop}
use lib.Seq.{drop-drop}
use lib.Dec.{eqb, ltb}
use borrow.Author.Tests.{eq-eqb, ne_eqb, lt-ltb, le-ltb}
use Rattle.edit_record.specs.declared.Edit.{Edit}
use Rattle.edit_record.specs.RecordBytes.{decode_of}
use Rattle.edit_record.specs.Answer1.{is_create, is_set, is_layer}
use Rattle.edit_history.specs.EditsHeld.{object_of, most_records}
use Rattle.edit_history.proofs.EditsHeld.{count-few}
use Rattle.group_step.specs.GroupRows.{most_groups, row, put_row, settled}
use Rattle.table_drawing.specs.Tables.{Tables, tables_of, held_by}
use Rattle.table_drawing.specs.AnswerNumbers.{outcome_of}
use Rattle.table_soundness.proofs.SoundFacts.{Sound}
use Rattle.table_arrival.specs.Answers6and7.{mates_of, groups_after, is_crowded, answer_to}
use Rattle.table_arrival.specs.Arrival.{counted, put_record, put_counts, with_create, with_set, with_layer}
use Rattle.table_arrival.specs.Arrival.{taken, acceptance_of}
use Rattle.table_arrival.specs.ArrivalForms.{first_to_six}
use Rattle.table_arrival.proofs.SixByCounters.{answer-is}
use Rattle.table_arrival.proofs.Admitted.{Admitted, create-is-taken, set-is-taken, layer-is-taken}
use Rattle.table_arrival.proofs.RefusedForReason.{never-crowded}
use Rattle.edit_record.proofs.WellFormed.{create-not-set, layer-not-set}

-- a row put back where it stood
pub row_back : (gs : List ℕ) (o : ℕ) → put_row o gs (row o gs) ≡ gs
row_back gs o =
    let d = drop (o * most_groups) gs in
    ap (λ (l : List ℕ). take (o * most_groups) gs ++ (row o gs ++ l)) (sym (drop-drop most_groups (o * most_groups) gs))
    ∙ ap (λ (l : List ℕ). take (o * most_groups) gs ++ l) (take-append-drop most_groups d)
    ∙ take-append-drop (o * most_groups) gs

module _ (t : Tables) (b : List ℕ) where
  abbrev e : Edit
  e = decode_of b

  -- ---- refused with one of 1 to 6

  pub refused-is : (first_to_six t b ≡ 0 → ⊥) → outcome_of (first_to_six t b) t ≡ acceptance_of t b
  unfolding acceptance_of
  refused-is d =
      let no : eqb (first_to_six t b) 0 ≡ false = ne_eqb (first_to_six t b) 0 d in
      let a : answer_to t b ≡ first_to_six t b = answer-is t b ∙ rw no in
      rw (a, no)

  module _ (z : first_to_six t b ≡ 0) where
    answer-seven : answer_to t b ≡ cond (is_crowded t e) 7 0
    answer-seven = answer-is t b ∙ rw (eq-eqb (first_to_six t b) 0 z)

    -- what is left of an edit that 7 is not given to
    taken_is : {u : Tables} → u ≡ taken t b → is_crowded t e ≡ false → outcome_of 0 u ≡ acceptance_of t b
    unfolding acceptance_of
    taken_is h c =
        let a : answer_to t b ≡ 0 = answer-seven ∙ rw c in
        rw (a, h)

    pub create-is : is_create e ≡ true → outcome_of 0 (with_create t b) ≡ acceptance_of t b
    create-is k = taken_is (create-is-taken t b k) (never-crowded t e (create-not-set e k))

    pub layer-is : is_layer e ≡ true → outcome_of 0 (with_layer t b) ≡ acceptance_of t b
    layer-is k = taken_is (layer-is-taken t b k) (never-crowded t e (layer-not-set e k))

    -- ---- a Set

    module _ (k : is_set e ≡ true) where
      abbrev o : ℕ
      o = object_of e (held_by t)

      abbrev after : List ℕ
      after = groups_after t e

      crowd : (x : Bool) → ltb most_groups (length after) ≡ x → is_crowded t e ≡ x
      unfolding is_crowded
      crowd x h = rw (k, h)

      pub set_is : length after ≤ most_groups →
          outcome_of 0
          (tables_of (counted t.counters e.site b 0) (put_record t.records t.counters.records b)
          (put_counts t.objects o (length (mates_of t e) + 1) (length after))
          (put_row o t.groups (settled after (row o t.groups))))
          ≡ acceptance_of t b
      unfolding settled with_set
      set_is few =
          let low : ltb most_groups (length after) ≡ false = le-ltb most_groups (length after) few in
          rw low (taken_is (set-is-taken t b k) (crowd false low))

      pub crowded-is : most_groups < length after →
          outcome_of 7
          (tables_of t.counters t.records t.objects (put_row o t.groups (settled after (row o t.groups))))
          ≡ acceptance_of t b
      unfolding settled acceptance_of
      crowded-is many =
          let high : ltb most_groups (length after) ≡ true = lt-ltb most_groups (length after) many in
          let a : answer_to t b ≡ 7 = answer-seven ∙ rw (crowd true high) in
          rw (high, a, row_back t.groups o)

-- ---- the count of the edit's site has room

pub count_room :
    (t : Tables) (b : List ℕ) → Sound t → Admitted t b → get_or t.counters.held (decode_of b).site.0 0 < most_records
count_room t b s a =
    let x = (decode_of b).site.0 in
    omega (
      arith,
      s.held x (omega (arith, a.formed.site, s.few-sites)),
      count-few x t.records t.counters.records,
      a.room,
    )
