-- A record that is not limited, and that a look by the index found fit: none of 1 to 6 is given to it, and what the
-- code stores of it is the edit taken. Assumes nothing.
use mathlib.Core.Path.{◌≡◌, sym, ◌∙◌}
use mathlib.Core.Bool.{Bool, true, false, ◌&&◌, ◌||◌}
use mathlib.Core.List.{List, [], ◌∷◌}
use Prim.Native.Nat.{ℕ, ◌+◌, ◌-◌, ◌^◌, ◌≤◌, ◌<◌}
use native.Mathlib.Omega.{arith}
use lib.Dec.{leb}
use lib.ListN.{length, get_or, take, drop, replicate}
use borrow.Author.Tests.{eq-eqb, lt-leb, lt-ltb, not-true}
use Rattle.math_lists.specs.SortedLists.{any, elem, Ascending}
use Rattle.math_lists.proofs.Booleans.{clash, off, neither, off-where}
use Rattle.math_lists.proofs.ByPlaces.{any-place-on}
use Rattle.math_maximal.specs.Step.{step}
use Rattle.edit_record.specs.declared.Edit.{Edit}
use Rattle.edit_record.specs.RecordBytes.{decode_of, span_of, no_edit}
use Rattle.edit_record.specs.Answer1.{is_create, is_set, is_limited, malformed, unfit}
use Rattle.edit_record.proofs.WellFormed.{set-aimed}
use Rattle.edit_causal.specs.Conflict.{conflicts_with}
use Rattle.edit_causal.proofs.PlainMarks.{marks-are-all}
use Rattle.edit_history.specs.EditsHeld.{most_records, is_target}
use Rattle.edit_history.specs.Answers2to5.{is_repeated, is_early, is_torn, is_astray, passes}
use Rattle.group_true.proofs.ProperSets.{plain-named}
use Rattle.group_step.specs.GroupRows.{most_objects, most_sets, most_groups, row, put_row, settled}
use Rattle.group_step.specs.StepForms.{Apart}
use Rattle.table_drawing.specs.Tables.{Tables, tables_of, held_by, groups_at}
use Rattle.table_drawing.specs.AnswerNumbers.{outcome_of}
use Rattle.table_soundness.proofs.SoundFacts.{Sound}
use Rattle.table_index.specs.IndexForms.{FitOf}
use Rattle.table_index.specs.declared.Looked.{Looked}
use Rattle.table_arrival.specs.Answers6and7.{mates_of, groups_after, is_full, first_of, in_turn}
use Rattle.table_arrival.specs.Arrival.{counted, put_record, put_counts, put_entry, with_create, with_layer}
use Rattle.table_arrival.specs.Arrival.{acceptance_of}
use Rattle.table_arrival.specs.ArrivalForms.{first_to_six, RowsApart}
use Rattle.table_arrival.proofs.Admitted.{Admitted, admitted, admitted-target}
use Rattle.table_arrival.proofs.CodeOutcomes.{create-is, layer-is, set_is, row_back}
use Rattle.table_arrival.proofs.ObjectOfSet.{object-less, row-few, row-ascending, row_below, row-rest}
use Rattle.edit_record.proofs.WellFormed.{otherwise-layer}

none-of-seven :
    {a b c d e f g : Bool} → a ≡ false → b ≡ false → c ≡ false → d ≡ false → e ≡ false → f ≡ false → g ≡ false →
    first_of in_turn (a ∷ b ∷ c ∷ d ∷ e ∷ f ∷ g ∷ []) ≡ 0
unfolding first_of
none-of-seven p q r s t u v = rw (p, q, r, s, t, u, v)

module _
    (t : Tables)
    (b : List ℕ)
    (s : Sound t)
    (whole : length b ≡ span_of b)
    (room : t.counters.records < most_records)
    (ps ns cs : List ℕ)
    (r : Looked)
    (f :
    FitOf t.counters.sites t.counters.records t.counters.objects t.records ps ns cs (decode_of b) r) where
  abbrev e : Edit
  e = decode_of b

  abbrev es : List Edit
  es = held_by t

  -- ---- none of 1 to 6

  not_full : is_full t e ≡ false
  unfolding is_full
  not_full =
      let create : (is_create e && leb most_objects t.counters.objects) ≡ false
      = off-where (is_create e) _ (λ k. lt-leb most_objects t.counters.objects (f.create-room k)) in
      let set : (is_set e && leb most_sets (length (mates_of t e))) ≡ false
      = off-where (is_set e) _ (λ k. lt-leb most_sets (length (mates_of t e)) (rw (f.set k).sets at (f.set k).room)) in
      rw (lt-leb most_records t.counters.records room, create, set)

  formed : unfit t.counters.sites e ≡ false → malformed t.counters.sites b ≡ false
  unfolding malformed
  formed fit = rw (eq-eqb (length b) (span_of b) whole, fit)

  pub none-of-six : first_to_six t b ≡ 0
  unfolding first_to_six passes
  none-of-six =
      let u = unfit t.counters.sites e in
      let p = is_repeated es e in
      let y = is_early es e in
      let n = is_torn es e in
      let a = is_astray es e in
      let (upyn, astray) = neither (u || p || y || n) a (not-true (u || p || y || n || a) f.pass) in
      let (upy, torn) = neither (u || p || y) n upyn in
      let (up, early) = neither (u || p) y upy in
      let (fit, repeated) = neither u p up in
      none-of-seven (formed fit) repeated early torn astray (plain-named (mates_of t e) e f.plain) not_full

  pub fit-admitted : Admitted t b
  fit-admitted = admitted t b none-of-six

  -- ---- a Create, and a layer edit

  pub create-stored :
      is_create e ≡ true →
      outcome_of 0
      (tables_of (counted t.counters e.site b 1) (put_record t.records t.counters.records b)
      (put_entry t.objects t.counters.objects t.counters.records 0 1)
      t.groups)
      ≡ acceptance_of t b
  unfolding with_create
  create-stored k = create-is t b none-of-six k

  pub layer-stored :
      is_create e ≡ false → is_set e ≡ false →
      outcome_of 0
      (tables_of (counted t.counters e.site b 0) (put_record t.records t.counters.records b) t.objects
      t.groups)
      ≡ acceptance_of t b
  unfolding with_layer
  layer-stored c k =
      layer-is t b none-of-six (otherwise-layer t.counters.sites e fit-admitted.formed c k)

  -- ---- a Set

  module _ (k : is_set e ≡ true) where
    abbrev used : List ℕ
    used = take (groups_at t.objects r.object) (row r.object t.groups)

    abbrev stepped : List ℕ
    stepped = step r.conflicts r.sets used

    held : any (is_target e) es ≡ true
    held = admitted-target t b fit-admitted (set-aimed e k)

    marks : r.conflicts ≡ conflicts_with e (mates_of t e)
    marks =
        let ms = mates_of t e in
        let each : (i : ℕ) → i < length ms → is_limited (get_or ms i no_edit) ≡ false
        = λ i l. off (is_limited (get_or ms i no_edit))
        (λ y. clash (any-place-on is_limited no_edit ms i l y) (f.set k).unlimited) in
        (f.set k).conflicts ∙ sym (marks-are-all e ms each f.plain)

    is-after : groups_after t e ≡ stepped
    unfolding groups_after
    is-after = rw (← marks, ← (f.set k).sets, ← (f.set k).object)

    pub object-few : r.object < most_objects
    object-few = rw (f.set k).object (omega (arith, object-less t s e held, s.few-objects))

    pub used-few : groups_at t.objects r.object ≤ most_groups
    used-few = rw (f.set k).object (row-few t s e held)

    pub used-ascends : Ascending used
    used-ascends = rw (f.set k).object (row-ascending t s e held)

    pub used-small : (x : ℕ) → elem x used ≡ true → x < 2 ^ r.sets
    used-small = rw ((f.set k).object, (f.set k).sets) (row_below t s e held)

    pub used-apart : RowsApart t → Apart used
    used-apart a = a r.object (rw (f.set k).object (object-less t s e held))

    pub zero-behind :
        drop (groups_at t.objects r.object) (row r.object t.groups)
        ≡ replicate (most_groups - groups_at t.objects r.object) 0
    zero-behind = rw (f.set k).object (row-rest t s e held)

    pub set-stored :
        length stepped ≤ most_groups →
        outcome_of 0
        (tables_of (counted t.counters e.site b 0) (put_record t.records t.counters.records b)
        (put_counts t.objects r.object (r.sets + 1) (length stepped))
        (put_row r.object t.groups (settled stepped (row r.object t.groups))))
        ≡ acceptance_of t b
    set-stored few =
        rw (← is-after, (f.set k).object, (f.set k).sets) (set_is t b none-of-six k (rw is-after few))

    -- where the step gives too many groups, the row stays
    pub row_kept :
        most_groups < length stepped →
        put_row r.object t.groups (settled stepped (row r.object t.groups)) ≡ t.groups
    unfolding settled
    row_kept many = rw (lt-ltb most_groups (length stepped) many) (row_back t.groups r.object)
