-- Demand 2, refusals: an edit is refused only for a listed reason that is present, and always when one is; 7 is given
-- exactly when more than 32 maximal sets would exist; and of 6 and 7 a layer edit has only that 256 records are held.
-- Assumes, of 7, that no Set of the object conflicts with itself.
use mathlib.Core.Path.{◌≡◌, ap}
use mathlib.Core.Logic.{◌⊎◌}
use mathlib.Core.Bool.{true, false, or-false}
use mathlib.Core.List.{List, [], ◌∷◌, ◌++◌}
use Prim.Native.Nat.{ℕ, ◌<◌}
use lib.ListN.{length, get_or}
use lib.Dec.{leb, ltb}
use Rattle.math_lists.specs.SortedLists.{any}
use Rattle.edit_record.specs.declared.Edit.{Edit}
use Rattle.edit_record.specs.Answer1.{is_set, is_layer}
use Rattle.edit_record.proofs.WellFormed.{layer-aimed, aimed-not-create, layer-not-set}
use Rattle.edit_causal.specs.ConflictForms.{NoneItself}
use Rattle.edit_history.specs.EditsHeld.{most_records, record_at, is_target, object_of}
use Rattle.group_step.specs.GroupRows.{most_groups}
use Rattle.table_drawing.specs.Tables.{Tables, held_by, place_at}
use Rattle.table_arrival.specs.Answers6and7.{mates_of, is_full, is_crowded, in_turn, reasons, answer_to}
use Rattle.group_true.specs.TrueGroups.{true_groups}
use Rattle.table_arrival.proofs.FirstReason.{First, first-present, answer-present}
use Rattle.table_arrival.proofs.Faithful.{Faithful, after-true}

-- the answer is 0, or the number of a reason that is present while none before it is
pub refused-for-a-reason :
    (t : Tables) (b : List ℕ) → (answer_to t b ≡ 0)
    ⊎ ((i : ℕ) × (i < length in_turn) × (answer_to t b ≡ get_or in_turn i 0) × First (reasons t b) i)
unfolding answer_to
refused-for-a-reason t b = answer-present in_turn (reasons t b)

-- and where a reason is present, the first that is gives the answer
pub reason-refuses :
    (t : Tables) (b : List ℕ) (i : ℕ) → i < length in_turn → First (reasons t b) i → answer_to t b ≡ get_or in_turn i 0
unfolding answer_to
reason-refuses t b i l f = first-present in_turn (reasons t b) i l f

-- in a faithful drawing 7's reason is that the object's Sets with the new one, if none of them conflicts with itself,
-- have more than 32 maximal sets
pub crowded-exactly :
    (t : Tables) → Faithful t → (e : Edit) → is_set e ≡ true → any (is_target e) (held_by t) ≡ true →
    NoneItself (mates_of t e ++ (e ∷ [])) →
    is_crowded t e
    ≡ ltb most_groups
    (length
    (true_groups (held_by t ++ (e ∷ [])) (record_at t.records (place_at t.objects (object_of e (held_by t))))))
unfolding is_crowded
crowded-exactly t f e k aim irr =
    rw k (ap (λ (l : List ℕ). ltb most_groups (length l)) (after-true t f e k aim irr))

-- ---- the layer edits

-- 7 is given to Sets alone
pub never-crowded : (t : Tables) (e : Edit) → is_set e ≡ false → is_crowded t e ≡ false
unfolding is_crowded
never-crowded t e d = rw d

-- and 6's reason for a layer edit is that 256 records are held
pub layer-full : (t : Tables) (e : Edit) → is_layer e ≡ true → is_full t e ≡ leb most_records t.counters.records
unfolding is_full
layer-full t e k =
    rw (
      aimed-not-create e (layer-aimed e k),
      layer-not-set e k,
      or-false (leb most_records t.counters.records),
      or-false (leb most_records t.counters.records),
    )
