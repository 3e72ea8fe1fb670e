-- Req 06 in the list over the edits held: a drawing without kind 3 lists as before, its groups being those of document
-- 01's conflict of two edits. Assumes nothing.
use mathlib.Core.Path.{◌≡◌, refl, ap}
use mathlib.Core.Bool.{false}
use mathlib.Core.List.{List, ◌∷◌, flat_map}
use Prim.Native.Nat.{ℕ, ◌<◌}
use lib.ListN.{length, get_or}
use Rattle.math_lists.specs.SortedLists.{any, filter}
use Rattle.math_lists.proofs.Booleans.{clash, off}
use Rattle.math_lists.proofs.ByPlaces.{filter-place, any-place-on}
use Rattle.math_lists.proofs.FlatMaps.{flat-same}
use Rattle.math_maximal.specs.Groups.{every, groups}
use Rattle.math_maximal.proofs.Groups.{groups-same}
use Rattle.edit_record.specs.declared.Edit.{Edit}
use Rattle.edit_record.specs.RecordBytes.{no_edit}
use Rattle.edit_record.specs.Answer1.{is_limited}
use Rattle.edit_causal.specs.Conflict.{do_conflict, conflicts_in}
use Rattle.edit_causal.proofs.ConflictsAmongSets.{conflict-plainly}
use Rattle.edit_history.specs.EditsHeld.{creates, is_set_on, sets_on}
use Rattle.edit_sum.specs.SumOfEdits.{sum_over}
use Rattle.group_true.specs.TrueGroups.{groups_of, true_groups}
use Rattle.list_text.specs.HeadAndRefusal.{head_line}
use Rattle.list_line.specs.Line.{object_lines}
use Rattle.list_order.specs.Moves.{layered_order}
use Rattle.demand_list.specs.ListOverEdits.{lines_in, version_lines, lines_over}

-- ---- the list as it was without contexts

-- the groups of the Sets ms by document 01's conflict of two edits
unfoldable pub groups_before : List Edit → List ℕ
groups_before ms = groups (λ i j. do_conflict (get_or ms i no_edit) (get_or ms j no_edit)) (length ms) every

unfoldable pub lines_before : List Edit → Edit → List (List ℕ)
lines_before es c =
    let ms = sets_on c.site c.seq es in
    object_lines c ms (groups_before ms)

unfoldable pub list_before : ℕ → List Edit → List (List ℕ)
list_before n es =
    let lines = flat_map (lines_before es) (layered_order es) in
    head_line n (length (creates es)) (length lines) (sum_over es) ∷ lines

-- ---- a drawing without kind 3

pub groups-plain :
    (ms : List Edit) → ((i : ℕ) → i < length ms → is_limited (get_or ms i no_edit) ≡ false) →
    groups_of ms ≡ groups_before ms
unfolding groups_of groups_before
groups-plain ms none =
    groups-same (conflicts_in ms) (λ i j. do_conflict (get_or ms i no_edit) (get_or ms j no_edit)) (length ms) every every
    (λ i l. refl) (conflict-plainly ms none)

module _ (es : List Edit) (none : any is_limited es ≡ false) where
  lines-as-before : (c : Edit) → lines_in es c ≡ lines_before es c
  unfolding lines_in true_groups lines_before sets_on
  lines-as-before c =
      let on = is_set_on c.site c.seq in
      let ms = filter on es in
      ap (object_lines c ms) (groups-plain ms (λ i l.
      off (is_limited (get_or ms i no_edit)) (λ h.
      let (j, m, e, _) = filter-place on no_edit es i l in
      clash (any-place-on is_limited no_edit es j m (rw e h)) none)))

  pub lists-as-before : (n : ℕ) → lines_over n es ≡ list_before n es
  unfolding lines_over version_lines list_before
  lists-as-before n =
      ap (λ (ls : List (List ℕ)). head_line n (length (creates es)) (length ls) (sum_over es) ∷ ls)
      (flat-same (lines_in es) (lines_before es) (layered_order es) (λ c m. lines-as-before c))
