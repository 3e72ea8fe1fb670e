-- What is known of an edit that passes 1 to 6, of one that is accepted, and of the tables after it. Assumes nothing.
use mathlib.Core.Path.{◌≡◌, refl, sym, ap, subst, ◌∙◌}
use mathlib.Core.Logic.{inl, inr}
use mathlib.Core.Bool.{Bool, true, false, not, ◌&&◌, ◌||◌, cond}
use mathlib.Core.List.{List}
use Prim.Native.Nat.{ℕ, ◌+◌, ◌≤◌, ◌<◌}
use native.Mathlib.Omega.{arith}
use lib.ListN.{length, get_or}
use lib.Dec.{eqb, leb}
use borrow.Author.Tests.{eqb-true, eqb-false, leb-false, ltb-false, not-false}
use Rattle.math_lists.specs.SortedLists.{any}
use Rattle.math_lists.proofs.Booleans.{neither, then-off}
use Rattle.edit_record.specs.Layout.{place_length}
use Rattle.edit_record.specs.RecordBytes.{decode_of, span_of}
use Rattle.edit_record.specs.Answer1.{is_create, is_set, is_layer, is_aimed, malformed, unfit}
use Rattle.edit_record.proofs.WellFormed.{WellFormed, well-formed, set-not-create, layer-aimed, set-or-layer}
use Rattle.edit_record.proofs.WellFormed.{aimed-not-create, layer-not-set}
use Rattle.edit_record.proofs.RecordSpans.{fit-span}
use Rattle.edit_history.specs.EditsHeld.{most_records, is_target}
use Rattle.edit_history.specs.Answers2to5.{is_repeated, is_early, is_torn, is_astray, passes}
use Rattle.edit_history.specs.Answer16.{is_nameless}
use Rattle.group_step.specs.GroupRows.{most_objects, most_sets, most_groups}
use Rattle.table_drawing.specs.declared.Counters.{Counters}
use Rattle.table_drawing.specs.Tables.{Tables, held_by}
use Rattle.table_drawing.specs.AnswerNumbers.{Outcome, outcome_of}
use Rattle.table_arrival.specs.Answers6and7.{mates_of, groups_after, is_full, is_crowded, in_turn, answer_to}
use Rattle.table_arrival.specs.Arrival.{counted, put_record, with_create, with_set, with_layer, taken}
use Rattle.table_arrival.specs.Arrival.{acceptance_of}
use Rattle.table_arrival.specs.ArrivalForms.{to_six, first_to_six}
use Rattle.table_arrival.proofs.FirstReason.{none-present, numbers-above}
use Rattle.table_arrival.proofs.SixByCounters.{answer-is}

-- ---- the tables with an edit in, by its kind

module _ (t : Tables) (b : List ℕ) where
  pub create-is-taken : is_create (decode_of b) ≡ true → with_create t b ≡ taken t b
  create-is-taken k = rw k

  pub set-is-taken : is_set (decode_of b) ≡ true → with_set t b ≡ taken t b
  set-is-taken k = rw (set-not-create (decode_of b) k, k)

  pub layer-is-taken : is_layer (decode_of b) ≡ true → with_layer t b ≡ taken t b
  layer-is-taken k =
      rw (aimed-not-create (decode_of b) (layer-aimed (decode_of b) k), layer-not-set (decode_of b) k)

-- ---- an edit that passes 1 to 6

pub record Admitted (t : Tables) (b : List ℕ) : Type 0 where
  pub whole : length b ≡ span_of b
  pub fit : unfit t.counters.sites (decode_of b) ≡ false
  pub formed : WellFormed t.counters.sites (decode_of b)
  pub fresh : is_repeated (held_by t) (decode_of b) ≡ false
  pub timely : is_early (held_by t) (decode_of b) ≡ false
  pub seamless : is_torn (held_by t) (decode_of b) ≡ false
  pub aimed : is_astray (held_by t) (decode_of b) ≡ false
  pub named : is_nameless (held_by t) (decode_of b) ≡ false
  pub room : t.counters.records < most_records
  pub create-room : is_create (decode_of b) ≡ true → t.counters.objects < most_objects
  pub set_room : is_set (decode_of b) ≡ true → length (mates_of t (decode_of b)) < most_sets

pub admitted : (t : Tables) (b : List ℕ) → first_to_six t b ≡ 0 → Admitted t b
unfolding first_to_six malformed is_full
admitted t b h =
    let e = decode_of b in
    let no : (i : ℕ) → get_or (to_six t b) i false ≡ false
    = none-present in_turn (to_six t b) (omega arith) numbers-above h in
    let (w, f) = neither (not (eqb (length b) (span_of b))) (unfit t.counters.sites e) (no 0) in
    let records? = leb most_records t.counters.records in
    let objects? = is_create e && leb most_objects t.counters.objects in
    let sets? = is_set e && leb most_sets (length (mates_of t e)) in
    let (rc, s) = neither (records? || objects?) sets? (no 6) in
    let (r, c) = neither records? objects? rc in
    record {
      whole = eqb-true (length b) (span_of b) (not-false (eqb (length b) (span_of b)) w);
      fit = f;
      formed = well-formed t.counters.sites e f;
      fresh = no 1;
      timely = no 2;
      seamless = no 3;
      aimed = no 4;
      named = no 5;
      room = leb-false most_records t.counters.records r;
      create-room = λ k. leb-false most_objects t.counters.objects (then-off (is_create e) _ k c);
      set_room = λ k. leb-false most_sets (length (mates_of t e)) (then-off (is_set e) _ k s);
    }

module _ (t : Tables) (b : List ℕ) (a : Admitted t b) where
  -- its place has room for it
  pub admitted-span : span_of b ≤ place_length
  admitted-span = fit-span t.counters.sites b a.fit

  pub admitted-passes : passes t.counters.sites (held_by t) (decode_of b) ≡ true
  unfolding passes
  admitted-passes = rw (a.fit, a.fresh, a.timely, a.seamless, a.aimed)

  -- a Set or a layer edit has its target
  pub admitted-target : is_aimed (decode_of b) ≡ true → any (is_target (decode_of b)) (held_by t) ≡ true
  unfolding is_astray
  admitted-target k =
      not-false (any (is_target (decode_of b)) (held_by t))
      (then-off (is_aimed (decode_of b)) (not (any (is_target (decode_of b)) (held_by t))) k a.aimed)

  -- what holds after each kind holds after an edit that is taken
  pub taken-by-kind :
      (P : Tables → Type 0) → (is_create (decode_of b) ≡ true → P (with_create t b)) →
      (is_set (decode_of b) ≡ true → P (with_set t b)) → (is_layer (decode_of b) ≡ true → P (with_layer t b)) →
      P (taken t b)
  taken-by-kind P f g h = elim a.formed.kind [
    | inl k ↦ subst P (create-is-taken t b k) (f k)
    | inr aim ↦
        elim (set-or-layer (decode_of b) aim) [
          | inl k ↦ subst P (set-is-taken t b k) (g k)
          | inr k ↦ subst P (layer-is-taken t b k) (h k)
        ]
  ]

-- ---- an edit that is accepted

pub record Accepted (t : Tables) (b : List ℕ) : Type 0 where
  pub admitted : Admitted t b
  pub few : is_set (decode_of b) ≡ true → length (groups_after t (decode_of b)) ≤ most_groups

pub accepted : (t : Tables) (b : List ℕ) → answer_to t b ≡ 0 → Accepted t b
accepted t b h = go (eqb (first_to_six t b) 0) refl (is_crowded t (decode_of b)) refl (sym (answer-is t b) ∙ h)
  where
    go : (x : Bool) → eqb (first_to_six t b) 0 ≡ x → (y : Bool) → is_crowded t (decode_of b) ≡ y →
        cond x (cond y 7 0) (first_to_six t b) ≡ 0 → Accepted t b
    go true p true q z = absurd (omega arith)
    go true p false q z =
        record {
          admitted = admitted t b (eqb-true (first_to_six t b) 0 p);
          few =
              λ k. ltb-false most_groups (length (groups_after t (decode_of b)))
              (then-off (is_set (decode_of b)) _ k (unfold is_crowded in q));
        }
    go false p y q z = absurd (eqb-false (first_to_six t b) 0 p z)

-- ---- an outcome of 0 is the edit taken

pub was-taken :
    (u t : Tables) (b : List ℕ) → outcome_of 0 t ≡ acceptance_of u b → (answer_to u b ≡ 0) × (t ≡ taken u b)
unfolding acceptance_of
was-taken u t b h = go (eqb (answer_to u b) 0) refl h
  where
    go : (x : Bool) → eqb (answer_to u b) 0 ≡ x →
        outcome_of 0 t ≡ cond x (outcome_of 0 (taken u b)) (outcome_of (answer_to u b) u) →
        (answer_to u b ≡ 0) × (t ≡ taken u b)
    go true e q = (eqb-true (answer_to u b) 0 e, ap (λ (o : Outcome). o.after) q)
    go false e q = absurd (eqb-false (answer_to u b) 0 e (sym (ap (λ (o : Outcome). o.answer) q)))

-- which is, for any kind, one record more, and one object more for a Create
pub taken-one-more :
    (u : Tables) (b : List ℕ) →
    ((taken u b).records ≡ put_record u.records u.counters.records b)
    × ((taken u b).counters ≡ counted u.counters (decode_of b).site b (cond (is_create (decode_of b)) 1 0))
unfolding with_create with_set with_layer
taken-one-more u b = go (is_create (decode_of b)) (is_set (decode_of b))
  where
    go : (x y : Bool) →
        let after = cond x (with_create u b) (cond y (with_set u b) (with_layer u b)) in
        (after.records ≡ put_record u.records u.counters.records b)
        × (after.counters ≡ counted u.counters (decode_of b).site b (cond x 1 0))
    go true y = (refl, refl)
    go false true = (refl, refl)
    go false false = (refl, refl)

pub taken-records :
    (u : Tables) (b : List ℕ) →
    ((taken u b).records ≡ put_record u.records u.counters.records b)
    × ((taken u b).counters.records ≡ u.counters.records + 1)
    × ((taken u b).counters.sites ≡ u.counters.sites)
taken-records u b =
    let (records, counters) = taken-one-more u b in
    (records, ap (λ (c : Counters). c.records) counters, ap (λ (c : Counters). c.sites) counters)
