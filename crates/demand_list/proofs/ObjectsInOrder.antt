-- The objects of sound tables in their order: they are the numbers below the number of objects, their Creates stand as
-- those of the edits held, and an edit more leaves all others in their order. Assumes nothing.
use mathlib.Core.Path.{◌≡◌, sym, ap₂, subst, ◌∙◌}
use mathlib.Core.Logic.{inl, inr}
use mathlib.Core.Bool.{true, false}
use mathlib.Core.List.{List, [], ◌∷◌, ◌++◌, map}
use Prim.Native.Nat.{ℕ, ◌<◌}
use borrow.Author.Tests.{eq-eqb, eqb-false, not-true}
use lib.Dec.{eqb}
use Rattle.math_lists.specs.SortedLists.{any, filter, Asc}
use Rattle.math_lists.proofs.Booleans.{clash, decide, off}
use Rattle.edit_record.specs.declared.Edit.{Edit}
use Rattle.edit_record.specs.Answer1.{is_create, is_top}
use Rattle.edit_history.specs.EditsHeld.{creates, is_target, object_of}
use Rattle.table_drawing.specs.Tables.{Tables, held_by}
use Rattle.table_soundness.proofs.SoundFacts.{Sound}
use Rattle.table_soundness.proofs.ObjectsByNumber.{target-object}
use Rattle.math_lists.specs.Rearranged.{Mem, Rearranged}
use Rattle.group_true.specs.Identities.{Differ}
use Rattle.math_lists.proofs.Rearranged.{same-members}
use Rattle.group_true.proofs.Identities.{differ-turned}
use Rattle.math_lists.proofs.PairsInList.{pairs-chosen, pairs-two}
use Rattle.list_version.proofs.NeverShared.{held-apart}
use Rattle.list_version.proofs.RanksStrict.{held-ranked}
use Rattle.list_order.specs.Layers.{is_on, deciding}
use Rattle.list_order.specs.Moves.{layered_order}
use Rattle.math_lists.proofs.Choices.{pairs-unmade}
use Rattle.list_order.proofs.Standing.{standing-rearranged, chosen-keep-order}
use Rattle.list_order.proofs.Deciding.{one-aim}
use Rattle.list_order.proofs.Others.{decides-nothing, decides-elsewhere}
use Rattle.list_order.proofs.Held.{numbers, number-below, number-on, creates-are, objects-ranked, objects-layered}
use Rattle.list_objects.specs.Objects.{create_of, deciding_for, objects_of}
use Rattle.demand_list.specs.OtherBoxes.{is_other, others_than}

-- ---- the objects

pub objects-rearranged : (t : Tables) → Rearranged (objects_of t) (numbers t)
unfolding objects_of
objects-rearranged t = standing-rearranged (deciding_for t) (numbers t)

pub object-below : (t : Tables) (o : ℕ) → Mem o (objects_of t) → o < t.counters.objects
object-below t o m = number-below t o (same-members (objects-rearranged t) o m)

pub creates-ordered : (t : Tables) → Sound t → map (create_of t) (objects_of t) ≡ layered_order (held_by t)
unfolding objects_of
creates-ordered t s = objects-layered t s

-- ---- the object that an edit names

module _ (t : Tables) (s : Sound t) where
  objects-differ : Asc (λ a b. Differ (create_of t a) (create_of t b)) (numbers t)
  objects-differ =
      pairs-unmade (create_of t) Differ (numbers t)
      (subst (λ (cs : List Edit). Asc Differ cs) (sym (creates-are t s))
      (unfold creates in pairs-chosen Differ is_create (held_by t) (held-apart t s)))

  -- it is on no other object
  pub not-on-others :
      (e : Edit) → any (is_target e) (held_by t) ≡ true → (o : ℕ) → o < t.counters.objects →
      (o ≡ object_of e (held_by t) → ⊥) → is_on (create_of t o) e ≡ false
  not-on-others e aim o l d =
      let x = object_of e (held_by t) in
      let (less, target) = target-object t s e aim in
      let c = create_of t x in
      let on : is_on c e ≡ true
      = rw (
        eq-eqb e.tsite.0 c.site.0 (sym target.site),
        eq-eqb e.tseq.0 c.seq.0 (sym target.seq),
      ) in
      off (is_on (create_of t o) e) (λ h.
      elim (pairs-two (λ a b. Differ (create_of t a) (create_of t b))
      (λ a b. differ-turned (create_of t a) (create_of t b)) (numbers t) objects-differ o x (number-on t o l)
      (number-on t x less)) [
        | inl q ↦ d q
        | inr w ↦ clash (one-aim (create_of t o) c e h on) w
      ])

-- ---- the others keep their order

module _ (t u : Tables) (s : Sound t) (s' : Sound u) (e : Edit) (held : held_by u ≡ held_by t ++ (e ∷ []))
    (same : (o : ℕ) → o < t.counters.objects → create_of u o ≡ create_of t o) where
  decides-same :
      (o : ℕ) → o < t.counters.objects → (is_top e ≡ true → is_on (create_of t o) e ≡ false) →
      deciding_for u o ≡ deciding_for t o
  decides-same o l elsewhere =
      ap₂ deciding held (same o l)
      ∙ elim (decide (is_top e)) [
        | inl h ↦ decides-elsewhere (held_by t) e (held-ranked t s) (create_of t o) (elsewhere h)
        | inr h ↦ decides-nothing (held_by t) e h (create_of t o)
      ]

  -- where u has no object more but own, and e is on own if it is a to-top
  pub others-in-order :
      (own : ℕ) → filter (is_other own) (numbers u) ≡ filter (is_other own) (numbers t) →
      ((o : ℕ) → o < t.counters.objects → (o ≡ own → ⊥) → is_top e ≡ true → is_on (create_of t o) e ≡ false) →
      others_than own u ≡ others_than own t
  unfolding others_than objects_of
  others-in-order own q elsewhere =
      chosen-keep-order (is_other own) (deciding_for t) (deciding_for u) (numbers t) (numbers u)
      (objects-ranked t s) (objects-ranked u s') q
      (λ o m h.
      let l = number-below t o m in
      decides-same o l (elsewhere o l (eqb-false o own (not-true (eqb o own) h))))
