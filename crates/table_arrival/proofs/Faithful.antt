-- Demand 2's theorem: after any records taken from an empty drawing the tables are sound, and the row of each object is
-- the ascending list of all maximal conflict-free sets of its Sets. Assumes nothing.
use mathlib.Core.Path.{◌≡◌, refl, sym, ap, ap₂, ◌∙◌}
use mathlib.Core.Logic.{inl, inr}
use mathlib.Core.Bool.{Bool, true, false, cond}
use mathlib.Core.List.{List, [], ◌∷◌, ◌++◌}
use Prim.Native.Nat.{ℕ, suc, ◌+◌, ◌-◌, ◌*◌, ◌≤◌, ◌<◌}
use native.Mathlib.Omega.{arith}
use native.Mathlib.Decide.{ℕ_discrete}
use lib.ListN.{length, take, replicate}
use lib.Seq.{drop-cons}
use lib.Dec.{eqb}
use borrow.Author.Tests.{eqb-true}
use Rattle.math_lists.specs.SortedLists.{any}
use Rattle.math_lists.proofs.LastBelow.{last}
use Rattle.edit_record.specs.declared.Edit.{Edit}
use Rattle.edit_record.specs.Layout.{most_sites}
use Rattle.edit_record.specs.RecordBytes.{decode_of}
use Rattle.edit_record.specs.Answer1.{is_create, is_set, is_layer}
use Rattle.math_maximal.specs.Step.{step}
use Rattle.edit_causal.specs.Conflict.{conflicts_with}
use Rattle.edit_causal.specs.ConflictForms.{NoneItself}
use Rattle.edit_history.specs.EditsHeld.{record_at, edits_of, is_set_on, sets_on, is_target, object_of}
use Rattle.group_step.specs.GroupRows.{most_groups, row, put_row}
use Rattle.table_drawing.specs.Tables.{Tables, held_by, place_at, groups_at, empty_drawing, entry_length}
use Rattle.table_drawing.specs.AnswerNumbers.{outcome_of}
use Rattle.table_soundness.proofs.SoundFacts.{Sound}
use Rattle.table_arrival.specs.Answers6and7.{mates_of, row_of, groups_after, answer_to}
use Rattle.table_arrival.specs.Arrival.{put_record, put_entry, put_counts, with_create, with_set, with_layer}
use Rattle.table_arrival.specs.Arrival.{taken, acceptance_of}
use Rattle.table_arrival.specs.ArrivalForms.{RowsApart}
use Rattle.group_true.specs.TrueGroups.{true_groups}
use Rattle.group_true.proofs.GroupsGrow.{none-part}
use Rattle.table_arrival.proofs.Admitted.{Accepted, accepted, admitted-target, admitted-passes, taken-by-kind}
use Rattle.table_arrival.proofs.RecordsOneMore.{put-before, put-here}
use Rattle.table_arrival.proofs.EntriesAfterStore.{counts-place, counts-groups, other_place, other-groups}
use Rattle.table_arrival.proofs.EntriesAfterStore.{entry_here, entry_other}
use Rattle.group_true.proofs.TrueGroups.{groups-same, groups-more, groups-first}
use Rattle.table_arrival.proofs.RowsAfterStore.{row_back, row_other}
use Rattle.table_arrival.proofs.ProperWith.{none-itself-with}
use Rattle.table_arrival.proofs.UntouchedSound.{room, held_after}
use Rattle.edit_record.proofs.WellFormed.{create-not-set, set-aimed, layer-not-set}
use Rattle.table_arrival.proofs.CreateKeepsSound.{no-set-held}
use Rattle.table_arrival.proofs.ObjectOfSet.{object-less, target-site, target-seq, row_fits}
use Rattle.table_arrival.proofs.SetKeepsSound.{not_on}
use Rattle.table_arrival.proofs.ArrivalKeepsSound.{KeptSound, empty-kept, acceptance-keeps}

-- the row of every object is the list of all maximal conflict-free sets of its Sets
abbrev pub RowsTrue : Tables → Type 0
RowsTrue t =
    (o : ℕ) → o < t.counters.objects →
    row_of t o ≡ true_groups (held_by t) (record_at t.records (place_at t.objects o))

pub record Faithful (t : Tables) : Type 0 where
  pub kept : KeptSound t
  pub rows : RowsTrue t

-- in true rows no group is part of a larger one
pub faithful-apart : (t : Tables) → Faithful t → RowsApart t
unfolding true_groups
faithful-apart t f o l =
    let c = record_at t.records (place_at t.objects o) in
    rw (f.rows o l) (none-part (sets_on c.site c.seq (held_by t)))

-- ---- a Set whose target is held: the step gives all maximal sets of the object's Sets with the new one

pub after-true :
    (t : Tables) (f : Faithful t) (e : Edit) → is_set e ≡ true → any (is_target e) (held_by t) ≡ true →
    NoneItself (mates_of t e ++ (e ∷ [])) →
    groups_after t e
    ≡ true_groups (held_by t ++ (e ∷ [])) (record_at t.records (place_at t.objects (object_of e (held_by t))))
unfolding groups_after
after-true t f e k aim irr =
    let s = f.kept.is_sound in
    let o = object_of e (held_by t) in
    ap (step (conflicts_with e (mates_of t e)) (length (mates_of t e))) (f.rows o (object-less t s e aim))
    ∙ groups-more (held_by t) e k irr (record_at t.records (place_at t.objects o)) (target-site t s e aim)
    (target-seq t s e aim)

-- ---- an accepted edit

module _ (t : Tables) (b : List ℕ) (f : Faithful t) (a : Accepted t b) where
  abbrev e : Edit
  e = decode_of b

  abbrev n : ℕ
  n = t.counters.records

  abbrev rs : List ℕ
  rs = t.records

  abbrev rs' : List ℕ
  rs' = put_record rs n b

  abbrev s : Sound t
  s = f.kept.is_sound

  abbrev wide : length t.counters.held ≡ most_sites
  wide = f.kept.wide

  -- the groups of the object whose Create is in place p
  groups-in : (p : ℕ) → p < n →
      true_groups (edits_of rs' (n + 1)) (record_at rs' p) ≡ true_groups (held_by t ++ (e ∷ [])) (record_at rs p)
  groups-in p l =
      ap₂ true_groups (held_after t b s wide a.admitted)
      (put-before rs n b (room t b s wide a.admitted) p l)

  -- the row of an object that the edit is no Set of
  row_stays :
      (o : ℕ) → o < t.counters.objects →
      let p = place_at t.objects o in
      is_set_on (record_at rs p).site (record_at rs p).seq e ≡ false →
      row_of t o ≡ true_groups (edits_of rs' (n + 1)) (record_at rs' p)
  row_stays o l d =
      let p = place_at t.objects o in
      f.rows o l
      ∙ sym (groups-same (held_by t) (record_at rs p) e d)
      ∙ sym (groups-in p (s.object o l).entry.place)

  -- ---- a Create

  module _ (k : is_create e ≡ true) where
    abbrev m : ℕ
    m = t.counters.objects

    abbrev os' : List ℕ
    os' = put_entry t.objects m n 0 1

    create-old : (o : ℕ) → o < m →
        take (groups_at os' o) (row o t.groups) ≡ true_groups (edits_of rs' (n + 1)) (record_at rs' (place_at os' o))
    create-old o l =
        let (ep, ek, eg) = entry_other t.objects m n 0 1 o (λ q. omega arith) in
        ap (λ (g : ℕ). take g (row o t.groups)) eg
        ∙ row_stays o l (rw (create-not-set e k))
        ∙ ap (λ (q : ℕ). true_groups (edits_of rs' (n + 1)) (record_at rs' q)) (sym ep)

    first-row : take 1 (row m t.groups) ≡ 0 ∷ []
    first-row =
        let l : m * most_groups < length t.groups = omega (arith, s.groups-long, a.admitted.create-room k) in
        rw (drop-cons t.groups (m * most_groups) 0 l)
        (ap (λ (x : ℕ). x ∷ []) (s.groups-zero (m * most_groups) (omega arith) l))

    create-new :
        take (groups_at os' m) (row m t.groups) ≡ true_groups (edits_of rs' (n + 1)) (record_at rs' (place_at os' m))
    create-new =
        let (ep, ek, eg) = entry_here t.objects m n 0 1
        (omega (arith, s.objects-long, a.admitted.create-room k)) in
        ap (λ (g : ℕ). take g (row m t.groups)) eg
        ∙ first-row
        ∙ sym (groups-same (held_by t) e e (rw (create-not-set e k))
        ∙ groups-first (held_by t) e (no-set-held t b s wide a.admitted))
        ∙ sym (ap₂ true_groups (held_after t b s wide a.admitted)
        (put-here rs n b (room t b s wide a.admitted)))
        ∙ ap (λ (q : ℕ). true_groups (edits_of rs' (n + 1)) (record_at rs' q)) (sym ep)

    create-keeps-true : RowsTrue (with_create t b)
    unfolding with_create
    create-keeps-true o l =
        let l' : o < suc m = omega arith in
        elim (last l') [ inl j ↦ create-old o j | inr q ↦ rw q create-new ]

  -- ---- a Set

  module _ (k : is_set e ≡ true) where
    abbrev x : ℕ
    x = object_of e (held_by t)

    abbrev aim : any (is_target e) (held_by t) ≡ true
    aim = admitted-target t b a.admitted (set-aimed e k)

    abbrev after : List ℕ
    after = groups_after t e

    abbrev gs' : List ℕ
    gs' = put_row x t.groups (after ++ replicate (most_groups - length after) 0)

    abbrev sets : ℕ
    sets = length (mates_of t e) + 1

    abbrev os'' : List ℕ
    os'' = put_counts t.objects x sets (length after)

    set-its : take (groups_at os'' x) (row x gs') ≡ true_groups (edits_of rs' (n + 1)) (record_at rs' (place_at os'' x))
    set-its =
        let fits : x * entry_length + entry_length ≤ length t.objects
        = omega (arith, s.objects-long, s.few-objects, object-less t s e aim) in
        ap (λ (g : ℕ). take g (row x gs')) (counts-groups t.objects x sets (length after) fits)
        ∙ row_back t.groups x after (a.few k) (row_fits t s e aim)
        ∙ after-true t f e k aim
        (none-itself-with t s e (admitted-passes t b a.admitted) a.admitted.named k)
        ∙ sym (groups-in (place_at t.objects x) (s.object x (object-less t s e aim)).entry.place)
        ∙ ap (λ (q : ℕ). true_groups (edits_of rs' (n + 1)) (record_at rs' q))
        (sym (counts-place t.objects x sets (length after) fits))

    set_other : (o : ℕ) → o < t.counters.objects → (o ≡ x → ⊥) →
        take (groups_at os'' o) (row o gs') ≡ true_groups (edits_of rs' (n + 1)) (record_at rs' (place_at os'' o))
    set_other o l d =
        ap₂ take (other-groups t.objects o x sets (length after) d)
        (row_other t.groups x after (a.few k) (row_fits t s e aim) o d
        (omega (arith, s.groups-long, s.few-objects)))
        ∙ row_stays o l (not_on t b s a k wide o l d)
        ∙ ap (λ (q : ℕ). true_groups (edits_of rs' (n + 1)) (record_at rs' q))
        (sym (other_place t.objects o x sets (length after) d))

    set-keeps-true : RowsTrue (with_set t b)
    unfolding with_set
    set-keeps-true o l =
        let l' : o < t.counters.objects = omega arith in
        elim (ℕ_discrete o x) [ yes q ↦ rw q set-its | no d ↦ set_other o l' d ]

  -- ---- a layer edit

  layer-keeps-true : is_layer e ≡ true → RowsTrue (with_layer t b)
  unfolding with_layer
  layer-keeps-true k o l = row_stays o (omega arith) (rw (layer-not-set e k))

-- ---- any records from an empty drawing

pub acceptance-faithful : (t : Tables) (b : List ℕ) → Faithful t → Faithful (acceptance_of t b).after
acceptance-faithful t b f = record { kept = acceptance-keeps t b f.kept; rows = rows }
  where
    all_kinds : answer_to t b ≡ 0 → RowsTrue (taken t b)
    all_kinds h =
        let a = accepted t b h in
        taken-by-kind t b a.admitted RowsTrue (create-keeps-true t b f a) (set-keeps-true t b f a)
        (layer-keeps-true t b f a)

    rows : RowsTrue (acceptance_of t b).after
    rows = unfold acceptance_of in go (eqb (answer_to t b) 0) refl
      where
        go : (x : Bool) → eqb (answer_to t b) 0 ≡ x →
            RowsTrue (cond x (outcome_of 0 (taken t b)) (outcome_of (answer_to t b) t)).after
        go true h = all_kinds (eqb-true (answer_to t b) 0 h)
        go false h = f.rows

pub empty-faithful : (n : ℕ) → 1 ≤ n → n ≤ most_sites → Faithful (empty_drawing n)
empty-faithful n some few = record { kept = empty-kept n some few; rows = rows }
  where
    rows : RowsTrue (empty_drawing n)
    rows = unfold empty_drawing in λ o l. absurd (omega arith)
