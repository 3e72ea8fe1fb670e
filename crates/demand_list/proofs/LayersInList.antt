-- Layer edits in the list over the edits held: the lines stand as the moves made one by one put their objects; an edit
-- more leaves the text of the lines of all other objects, and their order between them; and without to-top edits the
-- list is document 01's. Where it says so it assumes that no identity stands twice and that of any two edits one ranks
-- before the other, as in sound tables.
use mathlib.Core.Path.{◌≡◌, sym, ap, ap₂, ◌∙◌}
use mathlib.Core.Bool.{true, false, not, and-false}
use mathlib.Core.List.{List, [], ◌∷◌, ◌++◌, flat_map}
use borrow.Author.Tests.{not-true}
use Rattle.math_lists.specs.SortedLists.{any, filter}
use Rattle.edit_record.specs.declared.Edit.{Edit}
use Rattle.edit_record.specs.Answer1.{is_create, is_set, is_top, is_layer}
use Rattle.edit_record.proofs.WellFormed.{create-not-set, layer-not-set}
use Rattle.edit_history.specs.EditsHeld.{creates, is_set_on}
use Rattle.group_true.proofs.TrueGroups.{sets_same, groups-same}
use Rattle.group_true.specs.Identities.{AllDiffer}
use Rattle.math_lists.proofs.ListMembers.{chosen_at}
use Rattle.list_line.specs.Line.{object_lines}
use Rattle.list_order.specs.Layers.{is_on, in_order}
use Rattle.list_order.specs.Moves.{layered_order, without, moved}
use Rattle.list_order.proofs.Deciding.{AllRanked}
use Rattle.list_order.proofs.Moves.{theorem-of-the-moves}
use Rattle.list_order.proofs.Others.{is_other, create-keeps-others, keeps-others}
use Rattle.list_order.proofs.WithoutTops.{no-tops-no-change}
use Rattle.demand_list.specs.ListOverEdits.{lines_in, version_lines}
use Rattle.math_lists.proofs.FlatMaps.{flat-same}

-- ---- by moves

pub lines-by-moves : (es : List Edit) → AllDiffer es → AllRanked es → version_lines es ≡ flat_map (lines_in es) (moved es)
unfolding version_lines
lines-by-moves es u ranked = ap (flat_map (lines_in es)) (sym (theorem-of-the-moves es u ranked))

-- ---- an edit more

module _ (es : List Edit) (e : Edit) where
  -- an edit that is no Set of an object leaves the text of its lines
  pub same_text : (c : Edit) → is_set_on c.site c.seq e ≡ false → lines_in (es ++ (e ∷ [])) c ≡ lines_in es c
  unfolding lines_in
  same_text c h = ap₂ (object_lines c) (sets_same es c e h) (groups-same es c e h)

  -- a layer edit leaves the text of all lines, those of its own object too
  pub layer-keeps-text : is_layer e ≡ true → (c : Edit) → lines_in (es ++ (e ∷ [])) c ≡ lines_in es c
  layer-keeps-text l c = same_text c (rw (layer-not-set e l))

  module _ (u : AllDiffer (es ++ (e ∷ []))) (ranked : AllRanked (es ++ (e ∷ []))) where
    -- a Create leaves all lines that were there, in their order
    pub create-leaves-other-lines :
        is_create e ≡ true →
        flat_map (lines_in (es ++ (e ∷ []))) (filter (is_other e) (layered_order (es ++ (e ∷ [])))) ≡ version_lines es
    unfolding version_lines
    create-leaves-other-lines c =
        flat-same (lines_in (es ++ (e ∷ []))) (lines_in es) (filter (is_other e) (layered_order (es ++ (e ∷ []))))
        (λ x m. same_text x (rw (create-not-set e c)))
        ∙ ap (flat_map (lines_in es)) (create-keeps-others es e u ranked c)

    -- any other edit leaves the lines of the objects that it is not on, in their order
    pub leaves-other-lines :
        is_create e ≡ false →
        flat_map (lines_in (es ++ (e ∷ []))) (without e (layered_order (es ++ (e ∷ []))))
        ≡ flat_map (lines_in es) (without e (layered_order es))
    leaves-other-lines n =
        flat-same (lines_in (es ++ (e ∷ []))) (lines_in es) (without e (layered_order (es ++ (e ∷ []))))
        (λ x m.
        let elsewhere : is_on x e ≡ false
        = not-true (is_on x e) (chosen_at (λ c. not (is_on c e)) x (layered_order (es ++ (e ∷ []))) m).1 in
        same_text x (rw elsewhere (and-false (is_set e))))
        ∙ ap (flat_map (lines_in es)) (keeps-others es e u ranked n)

-- ---- without to-top edits

pub no-tops-same-lines :
    (es : List Edit) → any is_top es ≡ false → version_lines es ≡ flat_map (lines_in es) (in_order (creates es))
unfolding version_lines
no-tops-same-lines es none = ap (flat_map (lines_in es)) (no-tops-no-change es none)
