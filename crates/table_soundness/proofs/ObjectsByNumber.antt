-- Objects by their numbers: the object in an entry is the Create with so many Creates before it, and the object that a
-- Set or a layer edit names is the one whose Create is its target. Assumes nothing.
use mathlib.Core.Path.{◌≡◌, refl, sym, ap, ap₂, ◌∙◌}
use mathlib.Core.Logic.{◌⊎◌, inl, inr}
use mathlib.Core.Bool.{Bool, true, false, ◌||◌, cond}
use mathlib.Core.List.{List, [], ◌∷◌, ◌++◌}
use Prim.Native.Nat.{ℕ, zero, suc, ◌≤◌, ◌<◌}
use native.Mathlib.Omega.{arith}
use native.Mathlib.Decide.{dec_lt}
use lib.ListN.{length, get_or, get_or-append}
use lib.Seq.{get_or-append_seam}
use Rattle.math_lists.specs.SortedLists.{any, filter}
use Rattle.math_lists.proofs.Booleans.{clash, decide, off, both}
use Rattle.math_lists.proofs.LastBelow.{last}
use Rattle.math_lists.proofs.GrownAtEnd.{filter-snoc, any-filter}
use Rattle.edit_record.specs.declared.Site.{Site}
use Rattle.edit_record.specs.declared.Seq.{Seq}
use Rattle.edit_record.specs.declared.Edit.{Edit}
use Rattle.edit_record.specs.Answer1.{is_create, is_set}
use Rattle.edit_record.proofs.WellFormed.{set-aimed}
use Rattle.edit_causal.specs.Causal.{same_edit}
use Rattle.edit_causal.proofs.Identities.{same-site, same-seq, same_parts}
use Rattle.edit_history.specs.EditsHeld.{record_at, edits_of, creates, is_set_on, sets_on, is_target, index_of, object_of}
use Rattle.edit_history.proofs.EditsHeld.{Target, target-parts, any-edit-on, any-edit-at, chosen_more, create-less}
use Rattle.edit_history.proofs.RecordsPassed.{target-before}
use Rattle.group_step.specs.GroupRows.{most_sets}
use Rattle.table_drawing.specs.Tables.{Tables, place_at, sets_at, held_by}
use Rattle.table_soundness.proofs.SoundFacts.{Sound, Entered, entered, but-of}

-- ---- the first that passes

index_at :
    (f : Edit → Bool) (d : Edit) (es : List Edit) → any f es ≡ true →
    (index_of f es < length es) × (f (get_or es (index_of f es) d) ≡ true)
unfolding any index_of
index_at f d [] h = clash h refl
index_at f d (a ∷ es) h = go (f a) refl h (index_at f d es)
  where
    go : (b : Bool) → f a ≡ b → (b || any f es) ≡ true →
        (any f es ≡ true → (index_of f es < length es) × (f (get_or es (index_of f es) d) ≡ true)) →
        (cond b 0 (suc (index_of f es)) < suc (length es)) × (f (get_or (a ∷ es) (cond b 0 (suc (index_of f es))) d) ≡ true)
    go true e h ih = (omega arith, e)
    go false e h ih = (omega (arith, (ih h).0), (ih h).1)

-- ---- the Create in place p is the object with as many Creates before it

pub create-at :
    (d : Edit) (rs : List ℕ) (n p : ℕ) → p < n → is_create (record_at rs p) ≡ true →
    get_or (creates (edits_of rs n)) (length (creates (edits_of rs p))) d ≡ record_at rs p
create-at d rs zero p l h = absurd (omega arith)
create-at d rs (suc n) p l h = go (last l) (create-at d rs n p)
  where
    grown :
        creates (edits_of rs (suc n)) ≡ creates (edits_of rs n) ++ cond (is_create (record_at rs n)) (record_at rs n ∷ []) []
    grown = unfold creates edits_of in filter-snoc is_create (edits_of rs n) (record_at rs n)

    go : (p < n) ⊎ (p ≡ n) →
        (p < n → is_create (record_at rs p) ≡ true →
        get_or (creates (edits_of rs n)) (length (creates (edits_of rs p))) d ≡ record_at rs p) →
        get_or (creates (edits_of rs (suc n))) (length (creates (edits_of rs p))) d ≡ record_at rs p
    go (inl m) ih =
        rw grown
        (get_or-append (creates (edits_of rs n)) (cond (is_create (record_at rs n)) (record_at rs n ∷ []) []) d
        (length (creates (edits_of rs p))) (create-less rs p n m h)
        ∙ ih m h)
    go (inr e) ih =
        rw (grown, e, rw e at h) (get_or-append_seam (creates (edits_of rs n)) (record_at rs n) [] d)

-- ---- none of the edits

-- none of the first n edits passes
pub chosen_none :
    (f : Edit → Bool) (rs : List ℕ) (n : ℕ) → ((p : ℕ) → p < n → f (record_at rs p) ≡ false) →
    length (filter f (edits_of rs n)) ≡ 0
unfolding edits_of filter
chosen_none f rs zero h = refl
chosen_none f rs (suc n) h =
    let none : ◌≡◌ {A = ℕ} (cond (f (record_at rs n)) 1 0) 0 = ap (λ (b : Bool). cond b 1 0) (h n (omega arith)) in
    omega (arith, chosen_more f rs n, chosen_none f rs n (λ p l. h p (omega arith)))

-- ---- every Create held is an object

module _ (t : Tables) (s : Entered t) where
  pub entered-at-place :
      (p : ℕ) → p < t.counters.records → is_create (record_at t.records p) ≡ true →
      (length (creates (edits_of t.records p)) < t.counters.objects)
      × (place_at t.objects (length (creates (edits_of t.records p))) ≡ p)
  entered-at-place p l h =
      let rs = t.records in
      let o = length (creates (edits_of rs p)) in
      let less : o < t.counters.objects = omega (arith, create-less rs p t.counters.records l h, s.objects) in
      let x = (s.object o less).entry in
      let q = place_at t.objects o in (
        less,
        elim (dec_lt q p) [
          | yes m ↦ absurd (omega (arith, create-less rs q p m x.create, x.number))
          | no m ↦
              elim (dec_lt p q) [
                | yes k ↦ absurd (omega (arith, create-less rs p q k h, x.number))
                | no k ↦ omega arith
              ]
        ],
      )

  -- no identity has more Sets than an object may have
  pub entered-sets-few : (x : Site) (y : Seq) → length (sets_on x y (held_by t)) ≤ most_sets
  entered-sets-few x y = elim (decide (any (is_set_on x y) (held_by t))) [ inl h ↦ some h | inr h ↦ none h ]
    where
      rs : List ℕ
      rs = t.records

      n : ℕ
      n = t.counters.records

      none : any (is_set_on x y) (held_by t) ≡ false → length (sets_on x y (held_by t)) ≤ most_sets
      none h =
          let zero : length (sets_on x y (held_by t)) ≡ 0
          = unfold sets_on in
          chosen_none (is_set_on x y) rs n (λ p l. off (is_set_on x y (record_at rs p))
          (λ q. clash (any-edit-on (is_set_on x y) rs n p l q) h)) in
          omega arith

      some : any (is_set_on x y) (held_by t) ≡ true → length (sets_on x y (held_by t)) ≤ most_sets
      some h =
          let (p, l, on) = any-edit-at (is_set_on x y) rs n h in
          let m = record_at rs p in
          let (is, eq) = both (is_set m) (same_edit m.tsite m.tseq x y) on in
          let (es, eq') = same_parts m.tsite m.tseq x y eq in
          let (c, lc, tgt) = target-before t.counters.sites rs n s.pass p l (set-aimed m is) in
          let parts = target-parts m (record_at rs c) tgt in
          let (less, place) = entered-at-place c (omega arith) parts.create in
          let entry = (s.object (length (creates (edits_of rs c))) less).entry in
          let site : (record_at rs c).site ≡ x = same-site (record_at rs c).site m.tsite parts.site ∙ es in
          let seq : (record_at rs c).seq ≡ y = same-seq (record_at rs c).seq m.tseq parts.seq ∙ eq' in
          let counted : sets_at t.objects (length (creates (edits_of rs c))) ≡ length (sets_on x y (held_by t))
          = entry.sets
          ∙ ap (λ (i : ℕ). length (sets_on (record_at rs i).site (record_at rs i).seq (held_by t))) place
          ∙ ap₂ (λ (u : Site) (v : Seq). length (sets_on u v (held_by t))) site seq in
          omega (arith, entry.few)

-- ---- in sound tables

module _ (t : Tables) (s : Sound t) where
  pub object-at-place :
      (p : ℕ) → p < t.counters.records → is_create (record_at t.records p) ≡ true →
      (length (creates (edits_of t.records p)) < t.counters.objects)
      × (place_at t.objects (length (creates (edits_of t.records p))) ≡ p)
  object-at-place = entered-at-place t (entered t (but-of t s))

  pub sets-few : (x : Site) (y : Seq) → length (sets_on x y (held_by t)) ≤ most_sets
  sets-few = entered-sets-few t (entered t (but-of t s))

  -- the Create of object o
  pub object-create :
      (d : Edit) (o : ℕ) → o < t.counters.objects →
      get_or (creates (held_by t)) o d ≡ record_at t.records (place_at t.objects o)
  object-create d o l =
      let x = (s.object o l).entry in
      ap (λ (i : ℕ). get_or (creates (held_by t)) i d) (sym x.number)
      ∙ create-at d t.records t.counters.records (place_at t.objects o) x.place x.create

  pub target-object :
      (e : Edit) → any (is_target e) (held_by t) ≡ true →
      (object_of e (held_by t) < t.counters.objects)
      × Target e (record_at t.records (place_at t.objects (object_of e (held_by t))))
  target-object e h =
      let es = held_by t in
      let among : any (is_target e) (creates es) ≡ true
      = unfold creates in any-filter (is_target e) is_create es (λ a q. (target-parts e a q).create) ∙ h in
      let (l, q) = index_at (is_target e) e (creates es) among in
      let less : object_of e es < t.counters.objects = unfold object_of in omega (arith, s.objects) in
      let is : get_or (creates es) (object_of e es) e ≡ record_at t.records (place_at t.objects (object_of e es))
      = object-create e (object_of e es) less in
      let hit : is_target e (get_or (creates es) (object_of e es) e) ≡ true = unfold object_of in q in
      (less, target-parts e (record_at t.records (place_at t.objects (object_of e es))) (rw is at hit))
