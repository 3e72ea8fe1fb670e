-- What the enumeration gives is what the arriving step left: in true tables, for a box of at most 20 Sets, it is done,
-- and its count and its output are the box's own count and row of groups, entry for entry; so 7 is not given there. In
-- any tables, where it is done it gives the groups of the definition. Assumes nothing.
use mathlib.Core.Path.{◌≡◌, refl, sym, ap, ap₂, ◌∙◌}
use mathlib.Core.Logic.{inl, inr}
use mathlib.Core.Bool.{Bool, true, false, not, cond}
use mathlib.Core.List.{List, ◌++◌}
use Prim.Native.Nat.{ℕ, ◌+◌, ◌-◌, ◌*◌, ◌≤◌, ◌<◌}
use native.Mathlib.Omega.{arith}
use native.Mathlib.Decide.{dec_lt}
use lib.ListN.{length, take, drop, replicate, length-drop, length-replicate, take-append-drop}
use lib.Seq.{ext_get_or, get_or-take, get_or-drop, length-take-le}
use lib.Dec.{eqb, ltb}
use borrow.Author.Tests.{le-ltb}
use Rattle.math_lists.proofs.Booleans.{decide, both, and-on}
use Rattle.math_lists.proofs.ByPlaces.{zero-anywhere}
use Rattle.edit_record.specs.declared.Site.{Site}
use Rattle.edit_record.specs.declared.Seq.{Seq}
use Rattle.edit_record.specs.declared.Edit.{Edit}
use Rattle.edit_record.specs.Answer1.{is_create}
use Rattle.edit_causal.specs.Causal.{same_edit}
use Rattle.edit_causal.proofs.CausalLaws.{same-reflexive}
use Rattle.edit_causal.proofs.Identities.{same_parts}
use Rattle.edit_history.specs.EditsHeld.{record_at, edits_of, creates, sets_on}
use Rattle.edit_history.proofs.EditsHeld.{any-edit-on, any-edit-at}
use Rattle.edit_object.specs.CreateHeld.{is_create_of, is_held}
use Rattle.group_step.specs.GroupRows.{most_groups, row}
use Rattle.group_true.specs.TrueGroups.{groups_on, true_groups}
use Rattle.table_drawing.specs.Tables.{Tables, held_by, place_at, sets_at, groups_at}
use Rattle.table_soundness.specs.Sound.{sound}
use Rattle.table_soundness.proofs.SoundFacts.{Sound, sound-on}
use Rattle.table_arrival.specs.Answers6and7.{row_of}
use Rattle.table_soundness.proofs.ObjectsByNumber.{object-at-place}
use Rattle.table_arrival.proofs.Faithful.{Faithful}
use Rattle.table_engine.specs.Enumeration.{most_decided, Enumeration, enumeration, enumeration_in, enumeration_of}
use Rattle.table_engine.proofs.EnumerationOutcomes.{no-create, too-many-sets, right-length}

module _ (t : Tables) (s : Sound t) where
  abbrev rs : List ℕ
  rs = t.records

  abbrev n : ℕ
  n = t.counters.records

  -- the Create of object o
  abbrev create_in : ℕ → Edit
  create_in o = record_at rs (place_at t.objects o)

  -- ---- the Creates held are those of the objects

  create-held : (o : ℕ) → o < t.counters.objects → is_held (held_by t) (create_in o).site (create_in o).seq ≡ true
  unfolding is_held
  create-held o l =
      let x = (s.object o l).entry in
      let c = create_in o in
      any-edit-on (is_create_of c.site c.seq) rs n (place_at t.objects o) x.place
      (and-on (is_create c) (same_edit c.site c.seq c.site c.seq) x.create
      (same-reflexive c.site c.seq))

  held-object :
      (x : Site) (y : Seq) → is_held (held_by t) x y ≡ true →
      (o : ℕ) × (o < t.counters.objects) × ((create_in o).site ≡ x) × ((create_in o).seq ≡ y)
  unfolding is_held
  held-object x y h =
      let (p, l, is) = any-edit-at (is_create_of x y) rs n h in
      let a = record_at rs p in
      let (create, same) = both (is_create a) (same_edit a.site a.seq x y) is in
      let (es, eq) = same_parts a.site a.seq x y same in
      let (less, place) = object-at-place t s p l create in (
        length (creates (edits_of rs p)),
        less,
        ap (λ (i : ℕ). (record_at rs i).site) place ∙ es,
        ap (λ (i : ℕ). (record_at rs i).seq) place ∙ eq,
      )

  -- ---- a row is its groups in use, and zeros after

  module _ (o : ℕ) (l : o < t.counters.objects) where
    abbrev g : ℕ
    g = groups_at t.objects o

    abbrev its : List ℕ
    its = row o t.groups

    its-long : length its ≡ most_groups
    its-long =
        length-take-le most_groups (drop (o * most_groups) t.groups)
        (omega (arith, length-drop (o * most_groups) t.groups, s.groups-long, s.few-objects))

    used-many : length (row_of t o) ≡ g
    used-many = length-take-le g its (omega (arith, its-long, (s.object o l).row.few))

    row-filled : row_of t o ++ replicate (most_groups - g) 0 ≡ its
    row-filled =
        ap (λ (z : List ℕ). take g its ++ z)
        (ext_get_or 0 (replicate (most_groups - g) 0) (drop g its)
        (length-replicate (most_groups - g) 0 ∙ omega (arith, length-drop g its, its-long))
        (λ i b.
        let k : i < most_groups - g = omega (arith, length-replicate {A = ℕ} (most_groups - g) 0) in
        let d = drop (o * most_groups) t.groups in
        zero-anywhere (most_groups - g) i
        ∙ sym
        (get_or-drop g its i 0
        ∙ get_or-take most_groups d (g + i) 0 (omega arith)
        ∙ get_or-drop (o * most_groups) t.groups (g + i) 0
        ∙ (s.object o l).row.rest (g + i) (omega arith) (omega arith))))
        ∙ take-append-drop g its

-- ---- any tables

-- where no refusal is left, it is done
only-done :
    (a b c d e : Bool) (out : List ℕ) (x : Enumeration) →
    let all = cond a (enumeration 8 0 out)
    (cond b (enumeration 11 0 out)
    (cond c (enumeration 5 0 out) (cond d (enumeration 18 0 out) (cond e (enumeration 7 0 out) x)))) in
    all.answer ≡ 0 → all ≡ x
only-done true b c d e out x h = absurd (omega (arith, h))
only-done false true c d e out x h = absurd (omega (arith, h))
only-done false false true d e out x h = absurd (omega (arith, h))
only-done false false false true e out x h = absurd (omega (arith, h))
only-done false false false false true out x h = absurd (omega (arith, h))
only-done false false false false false out x h = refl

pub done-gives-groups :
    (t : Tables) (c : Edit) (out : List ℕ) → (enumeration_of t c.site c.seq out).answer ≡ 0 →
    enumeration_of t c.site c.seq out
    ≡ enumeration 0 (length (true_groups (held_by t) c))
    (true_groups (held_by t) c ++ replicate (most_groups - length (true_groups (held_by t) c)) 0)
unfolding enumeration_of enumeration_in true_groups
done-gives-groups t c out h =
    let es = held_by t in
    let gs = groups_on es c.site c.seq in
    only-done (not (sound t)) (not (eqb (length out) most_groups)) (not (is_held es c.site c.seq))
    (ltb most_decided (length (sets_on c.site c.seq es))) (ltb most_groups (length gs)) out
    (enumeration 0 (length gs) (gs ++ replicate (most_groups - length gs) 0)) h

-- ---- true tables

module _ (t : Tables) (f : Faithful t) (out : List ℕ) (len : length out ≡ most_groups) where
  abbrev its-sound : Sound t
  its-sound = f.kept.is_sound

  pub same-as-row :
      (o : ℕ) → o < t.counters.objects → sets_at t.objects o ≤ most_decided →
      let c = record_at t.records (place_at t.objects o) in
      enumeration_of t c.site c.seq out ≡ enumeration 0 (groups_at t.objects o) (row o t.groups)
  unfolding enumeration_in
  same-as-row o l k =
      let c = record_at t.records (place_at t.objects o) in
      let few : length (sets_on c.site c.seq (held_by t)) ≤ most_decided
      = omega (arith, (its-sound.object o l).entry.sets) in
      let is : groups_on (held_by t) c.site c.seq ≡ row_of t o = unfold true_groups in sym (f.rows o l) in
      let many = used-many t its-sound o l in
      sym
      (right-length t c.site c.seq out (sound-on t its-sound) len _
      (sym
      (rw (
        create-held t its-sound o l,
        le-ltb most_decided (length (sets_on c.site c.seq (held_by t))) few,
        is,
        many,
        le-ltb most_groups (groups_at t.objects o) (its-sound.object o l).row.few,
        row-filled t its-sound o l,
      ))))

  -- 7 is met in untrue tables alone
  pub never-crowded : (x : Site) (y : Seq) → (enumeration_of t x y out).answer ≡ 7 → ⊥
  never-crowded x y a = elim (decide (is_held (held_by t) x y)) [ inl h ↦ held h | inr h ↦ gone h ]
    where
      says : (e : Enumeration) → e ≡ enumeration_in (held_by t) x y out → e.answer ≡ 7
      says e q = ap (λ (z : Enumeration). z.answer) (right-length t x y out (sound-on t its-sound) len e q) ∙ a

      gone : is_held (held_by t) x y ≡ false → ⊥
      gone h = omega (arith, says (enumeration 5 0 out) (no-create (held_by t) x y out h))

      held : is_held (held_by t) x y ≡ true → ⊥
      held h = elim (dec_lt most_decided (length (sets_on x y (held_by t)))) [
        | yes l ↦ omega (arith, says (enumeration 18 0 out) (too-many-sets (held_by t) x y out h l))
        | no l ↦
            (let (o, less, es, eq) = held-object t its-sound x y h in
            let sets = (its-sound.object o less).entry.sets
            ∙ ap₂ (λ (u : Site) (v : Seq). length (sets_on u v (held_by t))) es eq in
            let row_is = ap₂ (λ (u : Site) (v : Seq). enumeration_of t u v out) (sym es) (sym eq)
            ∙ same-as-row o less (omega (arith, sets)) in
            omega (arith, sym (ap (λ (z : Enumeration). z.answer) row_is) ∙ a))
      ]
