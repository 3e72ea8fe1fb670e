-- What an arriving edit does to the order: a Set and a to-bottom nothing, a Create and a to-top nothing to the order
-- between the other objects. Where it says so it assumes what `Deciding` assumes, of the edits with the new one.
use mathlib.Core.Path.{◌≡◌, refl, sym, ap, ap₂, fun_ext, ◌∙◌}
use mathlib.Core.Logic.{inl, inr}
use mathlib.Core.Bool.{Bool, true, false, not, cond}
use mathlib.Core.List.{List, [], ◌∷◌, ◌++◌}
use native.Mathlib.Omega.{arith}
use borrow.Author.Tests.{eqb-true, not-true}
use Rattle.math_lists.specs.SortedLists.{filter, insert_by}
use Rattle.math_lists.proofs.Booleans.{decide, off, clash, or_left}
use Rattle.math_lists.proofs.PutInOrder.{OneWay, gathered_snoc, left_out_lem}
use Rattle.math_lists.proofs.GrownAtEnd.{filter-snoc}
use Rattle.edit_record.specs.declared.Edit.{Edit}
use Rattle.edit_record.specs.Layout.{create_kind, top_kind, bottom_kind}
use Rattle.edit_record.specs.Answer1.{is_create, is_set, is_top, is_bottom}
use Rattle.edit_record.proofs.WellFormed.{set-not-create, layer-not-set}
use Rattle.edit_causal.specs.Causal.{same_edit}
use Rattle.edit_causal.specs.TotalOrder.{ranks_before}
use Rattle.edit_causal.proofs.CausalLaws.{same-reflexive}
use Rattle.edit_history.specs.EditsHeld.{creates}
use Rattle.group_true.specs.Identities.{Differ, AllDiffer}
use Rattle.math_lists.proofs.Rearranged.{same-members}
use Rattle.math_lists.proofs.ListMembers.{here, chosen_at}
use Rattle.math_lists.proofs.PairsInList.{pairs-front, pairs-cross}
use Rattle.list_order.specs.Layers.{is_on, in_order, last_on, deciding, standing}
use Rattle.list_order.specs.Moves.{layered_order, without}
use Rattle.math_lists.proofs.Choices.{all-chosen, not-chosen-snoc}
use Rattle.list_order.proofs.Comparing.{create-not-top}
use Rattle.list_order.proofs.Standing.{standing-rearranged, chosen-keep-order}
use Rattle.list_order.proofs.Deciding.{AllRanked, counted-sorted, deciding-ranked}

-- c is not the edit e
abbrev pub is_other : Edit → Edit → Bool
is_other e c = not (same_edit c.site c.seq e.site e.seq)

-- ---- what decides

-- only the edits on the object count
last-chosen : (c m : Edit) (ls : List Edit) → last_on c m (filter (λ e. is_on c e) ls) ≡ last_on c m ls
unfolding last_on filter
last-chosen c m [] = refl
last-chosen c m (e ∷ ls) = go (is_on c e) refl (last-chosen c e ls) (last-chosen c m ls)
  where
    go : (b : Bool) → is_on c e ≡ b → last_on c e (filter (λ e. is_on c e) ls) ≡ last_on c e ls →
        last_on c m (filter (λ e. is_on c e) ls) ≡ last_on c m ls →
        last_on c m (cond b (e ∷ filter (λ e. is_on c e) ls) (filter (λ e. is_on c e) ls)) ≡ last_on c (cond b e m) ls
    go true h p q = ap (λ (b : Bool). last_on c (cond b e m) (filter (λ e. is_on c e) ls)) h ∙ p
    go false h p q = q

module _ (es : List Edit) (e : Edit) where
  abbrev grown : List Edit
  grown = es ++ (e ∷ [])

  -- an edit that is no to-top decides nothing
  pub decides-nothing : is_top e ≡ false → (c : Edit) → deciding grown c ≡ deciding es c
  unfolding deciding
  decides-nothing h c = ap (λ (ls : List Edit). last_on c c (in_order ls)) (not-chosen-snoc is_top es e h)

  -- one more move is put among the others by its rank
  one-more-move : is_top e ≡ true → in_order (filter is_top grown) ≡ insert_by ranks_before e (in_order (filter is_top es))
  unfolding in_order
  one-more-move h =
      ap in_order (filter-snoc is_top es e ∙ rw h) ∙ gathered_snoc ranks_before [] (filter is_top es) e

  -- no edit decides where an object stands that it is not on
  pub decides-elsewhere :
      AllRanked es → (c : Edit) → is_on c e ≡ false → deciding grown c ≡ deciding es c
  unfolding deciding
  decides-elsewhere ranked c elsewhere = elim (decide (is_top e)) [
    | inr h ↦ decides-nothing h c
    | inl h ↦
        sym (last-chosen c c (in_order (filter is_top grown)))
        ∙ ap (λ (ls : List Edit). last_on c c (filter (λ x. is_on c x) ls)) (one-more-move h)
        ∙ ap (last_on c c)
        (left_out_lem ranks_before (λ x. is_on c x) e (in_order (filter is_top es)) elsewhere
        (counted-sorted is_top es ranked))
        ∙ last-chosen c c (in_order (filter is_top es))
  ]

  -- ---- no effect at all

  no-effect : is_create e ≡ false → is_top e ≡ false → layered_order grown ≡ layered_order es
  unfolding layered_order creates
  no-effect n h = ap₂ standing (fun_ext (decides-nothing h)) (not-chosen-snoc is_create es e n)

  pub set-keeps-order : is_set e ≡ true → layered_order grown ≡ layered_order es
  set-keeps-order h =
      no-effect (set-not-create e h)
      (off (is_top e) (λ k. clash h (layer-not-set e (or_left (is_top e) (is_bottom e) k))))

  pub bottom-keeps-order : is_bottom e ≡ true → layered_order grown ≡ layered_order es
  bottom-keeps-order h =
      no-effect
      (off (is_create e) (λ k. omega (arith, eqb-true e.kind bottom_kind h, eqb-true e.kind create_kind k)))
      (off (is_top e) (λ k. omega (arith, eqb-true e.kind bottom_kind h, eqb-true e.kind top_kind k)))

  -- ---- no effect between the others

  module _ (u : AllDiffer grown) (ranked : AllRanked grown) where
    before-apart : AllDiffer es
    before-apart = pairs-front Differ es (e ∷ []) u

    before-ranked : AllRanked es
    before-ranked = pairs-front (OneWay ranks_before) es (e ∷ []) ranked

    others_same :
        (f : Edit → Bool) → filter f (creates grown) ≡ filter f (creates es) →
        ((c : Edit) → f c ≡ true → deciding grown c ≡ deciding es c) →
        filter f (layered_order grown) ≡ filter f (layered_order es)
    unfolding layered_order
    others_same f q same =
        chosen-keep-order f (deciding es) (deciding grown) (creates es) (creates grown)
        (deciding-ranked es before-apart before-ranked) (deciding-ranked grown u ranked) q
        (λ c m h. same c h)

    -- a Create takes a place among the objects that were there, which keep their order
    pub create-keeps-others : is_create e ≡ true → filter (is_other e) (layered_order grown) ≡ layered_order es
    unfolding creates layered_order
    create-keeps-others c =
        others_same (is_other e)
        (ap (filter (is_other e)) (filter-snoc is_create es e ∙ rw c)
        ∙ not-chosen-snoc (is_other e) (filter is_create es) e (ap not (same-reflexive e.site e.seq)))
        (λ x p. decides-nothing (create-not-top e c) x)
        ∙ all-chosen (is_other e) (layered_order es)
        (λ x m. ap not (pairs-cross Differ es (e ∷ []) u x e
        (chosen_at is_create x es (same-members (standing-rearranged (deciding es) (filter is_create es)) x m)).0
        here))

    -- any other edit keeps the order between the objects that it is not on
    pub keeps-others : is_create e ≡ false → without e (layered_order grown) ≡ without e (layered_order es)
    unfolding creates
    keeps-others n =
        others_same (λ c. not (is_on c e)) (ap (filter (λ c. not (is_on c e))) (not-chosen-snoc is_create es e n))
        (λ c p. decides-elsewhere before-ranked c (not-true (is_on c e) p))
