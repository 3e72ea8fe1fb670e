-- Demand 3: an accepted edit leaves the lines of every other object as they were, and those objects in their order; a
-- layer edit leaves the lines of its own object too, and moves it alone. Assumes tables that are sound, with a count
-- for each of 16 sites as the code's arrays have.
use mathlib.Core.Path.{◌≡◌, refl, sym, ap, ap₂, subst, ◌∙◌}
use mathlib.Core.Bool.{Bool, true, false, not, cond}
use mathlib.Core.List.{List, [], ◌∷◌, ◌++◌, flat_map}
use Prim.Native.Nat.{ℕ, ◌+◌, ◌≤◌, ◌<◌}
use native.Mathlib.Omega.{arith}
use native.Mathlib.Numerals.{add-one}
use native.Mathlib.Decide.{ℕ_discrete}
use lib.ListN.{length, take}
use lib.Dec.{eqb}
use borrow.Author.Tests.{eqb-false, not-true}
use Rattle.math_lists.specs.NumbersBelow.{keep}
use Rattle.math_lists.specs.SortedLists.{any, filter}
use Rattle.math_lists.proofs.Booleans.{eqb-self, or_left}
use Rattle.edit_record.specs.declared.Edit.{Edit}
use Rattle.edit_record.specs.Layout.{most_sites}
use Rattle.edit_record.specs.RecordBytes.{decode_of}
use Rattle.edit_record.specs.Answer1.{is_create, is_set, is_top, is_bottom, is_layer}
use Rattle.edit_history.specs.EditsHeld.{record_at, is_set_on, sets_on, is_target, object_of}
use Rattle.group_step.specs.GroupRows.{row}
use Rattle.table_drawing.specs.Tables.{Tables, place_at, held_by}
use Rattle.table_drawing.specs.AnswerNumbers.{Outcome, outcome_of}
use Rattle.table_soundness.specs.Sound.{sound}
use Rattle.table_soundness.proofs.SoundFacts.{Sound, sound-at}
use Rattle.table_arrival.specs.Answers6and7.{mates_of, row_of, groups_after}
use Rattle.table_arrival.specs.Arrival.{put_record, put_counts, with_create, with_set, with_layer, taken}
use Rattle.table_arrival.specs.Arrival.{acceptance_of, arrival_of}
use Rattle.table_arrival.proofs.Admitted.{Accepted, accepted, admitted-target, layer-is-taken, taken-by-kind, was-taken}
use Rattle.table_arrival.proofs.RecordsOneMore.{put-before}
use Rattle.table_arrival.proofs.EntriesAfterStore.{counts-place, other_place, other-groups, entry_other}
use Rattle.table_arrival.proofs.RowsAfterStore.{row_other}
use Rattle.group_true.proofs.TrueGroups.{sets_same}
use Rattle.table_arrival.proofs.UntouchedSound.{room, held_after}
use Rattle.edit_record.proofs.WellFormed.{create-not-set, set-not-create, set-aimed, layer-aimed, aimed-not-create}
use Rattle.edit_record.proofs.WellFormed.{layer-not-set}
use Rattle.table_arrival.proofs.ObjectOfSet.{object-less, row_fits}
use Rattle.table_arrival.proofs.SetKeepsSound.{not_on}
use Rattle.table_arrival.proofs.ArrivalKeepsSound.{KeptSound, acceptance-keeps}
use Rattle.math_lists.proofs.ListMembers.{chosen_at}
use Rattle.list_line.specs.Line.{object_lines}
use Rattle.math_lists.proofs.Choices.{not-chosen-snoc}
use Rattle.list_order.proofs.Held.{numbers}
use Rattle.list_objects.specs.Objects.{create_of, sets_for, objects_of}
use Rattle.list_lines.specs.List.{lines_for}
use Rattle.demand_list.specs.OtherBoxes.{own_of, is_other, others_than, other_lines}
use Rattle.math_lists.proofs.FlatMaps.{flat-same}
use Rattle.demand_list.proofs.ObjectsInOrder.{object-below, not-on-others, others-in-order}

-- ---- what an edit e about the object own leaves of the tables t, where they are u after it

pub record LeavesOthers (t u : Tables) (own : ℕ) (e : Edit) : Type 0 where
  pub objects : t.counters.objects ≤ u.counters.objects
  pub others : filter (is_other own) (numbers u) ≡ filter (is_other own) (numbers t)
  pub creates : (o : ℕ) → o < t.counters.objects → create_of u o ≡ create_of t o
  pub held : held_by u ≡ held_by t ++ (e ∷ [])
  pub none :
      (o : ℕ) → o < t.counters.objects → (o ≡ own → ⊥) →
      is_set_on (create_of t o).site (create_of t o).seq e ≡ false
  pub row : (o : ℕ) → o < t.counters.objects → (o ≡ own → ⊥) → row_of u o ≡ row_of t o

module _ (t u : Tables) (own : ℕ) (e : Edit) (l : LeavesOthers t u own e) where
  same-sets : (o : ℕ) → o < t.counters.objects → (o ≡ own → ⊥) →
      sets_on (create_of t o).site (create_of t o).seq (held_by u) ≡ sets_for t o
  same-sets o m d =
      let c = create_of t o in
      ap (sets_on c.site c.seq) l.held ∙ sets_same (held_by t) c e (l.none o m d)

  same_lines : (o : ℕ) → o < t.counters.objects → (o ≡ own → ⊥) → lines_for u o ≡ lines_for t o
  unfolding lines_for
  same_lines o m d =
      ap (λ (c : Edit). object_lines c (sets_on c.site c.seq (held_by u)) (row_of u o)) (l.creates o m)
      ∙ ap₂ (object_lines (create_of t o)) (same-sets o m d) (l.row o m d)

  same-others : others_than own u ≡ others_than own t → other_lines own u ≡ other_lines own t
  unfolding other_lines others_than
  same-others in_order_lem =
      ap (flat_map (lines_for u)) in_order_lem
      ∙ flat-same (lines_for u) (lines_for t) (others_than own t) (λ o m.
      let (in-t, other) = chosen_at (is_other own) o (objects_of t) m in
      same_lines o (object-below t o in-t) (eqb-false o own (not-true (eqb o own) other)))

-- ---- an accepted edit leaves them

module _ (t : Tables) (b : List ℕ) (k : KeptSound t) (a : Accepted t b) where
  abbrev s : Sound t
  s = k.is_sound

  abbrev e : Edit
  e = decode_of b

  abbrev m : ℕ
  m = t.counters.objects

  -- the record of a Create held stays where it is
  create-stays : (o : ℕ) → o < m →
      record_at (put_record t.records t.counters.records b) (place_at t.objects o) ≡ create_of t o
  create-stays o l =
      put-before t.records t.counters.records b (room t b s k.wide a.admitted)
      (place_at t.objects o) (s.object o l).entry.place

  as_many : (own : ℕ) (u : Tables) → u.counters.objects ≡ m →
      filter (is_other own) (numbers u) ≡ filter (is_other own) (numbers t)
  as_many own u q = ap (λ (n : ℕ). filter (is_other own) (keep n (λ o. true))) q

  -- ---- a Create

  module _ (c : is_create e ≡ true) where
    create-same : (o : ℕ) → o < m → create_of (with_create t b) o ≡ create_of t o
    unfolding with_create
    create-same o l =
        ap (record_at (put_record t.records t.counters.records b))
        (entry_other t.objects m t.counters.records 0 1 o (λ q. omega arith)).0
        ∙ create-stays o l

    create-leaves : LeavesOthers t (with_create t b) m e
    unfolding with_create
    create-leaves = record {
      objects = omega arith;
      others =
          unfold keep in
          ap (λ (n : ℕ). filter (is_other m) (keep n (λ o. true))) (add-one m)
          ∙ not-chosen-snoc (is_other m) (numbers t) m (ap not (eqb-self m));
      creates = create-same;
      held = held_after t b s k.wide a.admitted;
      none = λ o l d. rw (create-not-set e c);
      row =
          λ o l d.
          ap (λ (g : ℕ). take g (row o t.groups)) (entry_other t.objects m t.counters.records 0 1 o d).2;
    }

  -- ---- a Set

  module _ (c : is_set e ≡ true) where
    abbrev x : ℕ
    x = object_of e (held_by t)

    abbrev aim : any (is_target e) (held_by t) ≡ true
    aim = admitted-target t b a.admitted (set-aimed e c)

    abbrev sets : ℕ
    sets = length (mates_of t e) + 1

    abbrev after : ℕ
    after = length (groups_after t e)

    set_same : (o : ℕ) → o < m → create_of (with_set t b) o ≡ create_of t o
    unfolding with_set
    set_same o l =
        let place : place_at (put_counts t.objects x sets after) o ≡ place_at t.objects o
        = elim (ℕ_discrete o x) [
          | yes q ↦
              rw q (counts-place t.objects x sets after
              (omega (arith, s.objects-long, s.few-objects, object-less t s e aim)))
          | no d ↦ other_place t.objects o x sets after d
        ] in
        ap (record_at (put_record t.records t.counters.records b)) place ∙ create-stays o l

    set-leaves : LeavesOthers t (with_set t b) x e
    unfolding with_set
    set-leaves = record {
      objects = omega arith;
      others = as_many x (with_set t b) (omega arith);
      creates = set_same;
      held = held_after t b s k.wide a.admitted;
      none = λ o l d. not_on t b s a c k.wide o l d;
      row =
          λ o l d.
          ap₂ take (other-groups t.objects o x sets after d)
          (row_other t.groups x (groups_after t e) (a.few c) (row_fits t s e aim) o d
          (omega (arith, s.groups-long, s.few-objects)));
    }

  -- ---- a layer edit, whatever object is called its own

  module _ (c : is_layer e ≡ true) (own : ℕ) where
    layer-same : (o : ℕ) → o < m → create_of (with_layer t b) o ≡ create_of t o
    unfolding with_layer
    layer-same o l = create-stays o l

    layer-leaves : LeavesOthers t (with_layer t b) own e
    unfolding with_layer
    layer-leaves = record {
      objects = omega arith;
      others = as_many own (with_layer t b) (omega arith);
      creates = layer-same;
      held = held_after t b s k.wide a.admitted;
      none = λ o l d. rw (layer-not-set e c);
      row = λ o l d. refl;
    }

-- ---- an accepted record

module _ (t : Tables) (k : KeptSound t) (b : List ℕ) (h : (acceptance_of t b).answer ≡ 0) where
  abbrev t' : Tables
  t' = (acceptance_of t b).after

  pub leaves : LeavesOthers t t' (own_of t b) (decode_of b)
  leaves =
      let (z, q) = was-taken t t' b (ap (λ (n : ℕ). outcome_of n t') (sym h)) in
      subst (λ (u : Tables). LeavesOthers t u (own_of t b) (decode_of b)) (sym q) (go (accepted t b z))
    where
      go : Accepted t b → LeavesOthers t (taken t b) (own_of t b) (decode_of b)
      go a =
          taken-by-kind t b a.admitted (λ u. LeavesOthers t u (own_of t b) (decode_of b))
          (λ c. unfold own_of in rw c (create-leaves t b k a c))
          (λ c. unfold own_of in rw (set-not-create (decode_of b) c) (set-leaves t b k a c))
          (λ c. layer-leaves t b k a c (own_of t b))

  -- the lines of another object
  pub other-box-same :
      (o : ℕ) → o < t.counters.objects → is_other (own_of t b) o ≡ true → lines_for t' o ≡ lines_for t o
  other-box-same o l d =
      same_lines t t' (own_of t b) (decode_of b) leaves o l
      (eqb-false o (own_of t b) (not-true (eqb o (own_of t b)) d))

  -- the other objects, in their order
  pub other-boxes-in-order : others_than (own_of t b) t' ≡ others_than (own_of t b) t
  other-boxes-in-order =
      let e = decode_of b in
      let (z, q) = was-taken t t' b (ap (λ (n : ℕ). outcome_of n t') (sym h)) in
      others-in-order t t' k.is_sound (acceptance-keeps t b k).is_sound e leaves.held leaves.creates (own_of t b)
      leaves.others
      (λ o l d c.
      let aimed = layer-aimed e (or_left (is_top e) (is_bottom e) c) in
      not-on-others t k.is_sound e (admitted-target t b (accepted t b z).admitted aimed) o l
      (λ p. d (p ∙ unfold own_of in rw (aimed-not-create e aimed))))

  -- all lines of the others, in their order
  pub other-boxes-same : other_lines (own_of t b) t' ≡ other_lines (own_of t b) t
  other-boxes-same = same-others t t' (own_of t b) (decode_of b) leaves other-boxes-in-order

  -- all lines of every object, where the record is a layer edit
  pub layer-leaves-lines :
      is_layer (decode_of b) ≡ true → (o : ℕ) → o < t.counters.objects → lines_for t' o ≡ lines_for t o
  layer-leaves-lines c o l =
      let (z, q) = was-taken t t' b (ap (λ (n : ℕ). outcome_of n t') (sym h)) in
      let after : t' ≡ with_layer t b = q ∙ sym (layer-is-taken t b c) in
      let none = t.counters.objects in
      ap (λ (u : Tables). lines_for u o) after
      ∙ same_lines t (with_layer t b) none (decode_of b) (layer-leaves t b k (accepted t b z) c none) o l
      (λ e. omega arith)

-- ---- a call of the editor

-- an arrival that is answered 0 is an acceptance at sound tables
arrived : (t : Tables) (b : List ℕ) → (arrival_of t b).answer ≡ 0 →
    (sound t ≡ true) × (arrival_of t b ≡ acceptance_of t b)
unfolding arrival_of
arrived t b h = go (sound t) refl h
  where
    go : (x : Bool) → sound t ≡ x → (cond x (acceptance_of t b) (outcome_of 8 t)).answer ≡ 0 →
        (x ≡ true) × (cond x (acceptance_of t b) (outcome_of 8 t) ≡ acceptance_of t b)
    go true e z = (refl, refl)
    go false e z = absurd (omega arith)

pub arrival-leaves-other-boxes :
    (t : Tables) (b : List ℕ) → length t.counters.held ≡ most_sites → (arrival_of t b).answer ≡ 0 →
    other_lines (own_of t b) (arrival_of t b).after ≡ other_lines (own_of t b) t
arrival-leaves-other-boxes t b wide h =
    let (is-sound, same) = arrived t b h in
    ap (λ (o : Outcome). other_lines (own_of t b) o.after) same
    ∙ other-boxes-same t (record { is_sound = sound-at t is-sound; wide = wide }) b
    (ap (λ (o : Outcome). o.answer) (sym same) ∙ h)
