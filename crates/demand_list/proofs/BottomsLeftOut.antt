-- Req 12 in the list over the edits held: a drawing without kind 5 lists as before, and every drawing lists as its
-- edits without those of kind 5 listed before, but that line 0 sums them too. Assumes nothing.
use mathlib.Core.Path.{◌≡◌, sym, ap, ap₂, ◌∙◌}
use mathlib.Core.Bool.{true, false}
use mathlib.Core.List.{List, ◌∷◌, flat_map}
use Prim.Native.Nat.{ℕ}
use lib.ListN.{length}
use Rattle.math_lists.specs.SortedLists.{any, filter}
use Rattle.math_lists.proofs.Booleans.{clash, both, off, or_right}
use Rattle.edit_record.specs.declared.Edit.{Edit}
use Rattle.edit_record.specs.Answer1.{is_set, is_create, is_top, is_bottom}
use Rattle.edit_record.proofs.WellFormed.{layer-not-set}
use Rattle.edit_causal.specs.Causal.{same_edit}
use Rattle.edit_history.specs.EditsHeld.{creates, is_set_on, sets_on}
use Rattle.edit_sum.specs.SumOfEdits.{sum_over}
use Rattle.group_true.specs.TrueGroups.{groups_of, true_groups}
use Rattle.list_text.specs.HeadAndRefusal.{head_line}
use Rattle.list_line.specs.Line.{object_lines}
use Rattle.list_order.specs.Moves.{layered_order}
use Rattle.list_order.proofs.OrderBefore.{order_before, left_in, left-same, create-not-bottom}
use Rattle.list_order.proofs.OrderBefore.{as_before, bottoms-left-out}
use Rattle.demand_list.specs.ListOverEdits.{lines_in, version_lines, lines_over}
use Rattle.math_lists.proofs.FlatMaps.{flat-same}

-- ---- the list as Req 08 had it

-- the same lines, in the order before
unfoldable pub lines_before : List Edit → List (List ℕ)
lines_before es = flat_map (lines_in es) (order_before es)

-- with line 0, whose sum is k
unfoldable pub list_before : ℕ → ℕ → List Edit → List (List ℕ)
list_before n k es = head_line n (length (creates es)) (length (lines_before es)) k ∷ lines_before es

-- ---- a drawing without kind 5

pub lists-as-before :
    (n : ℕ) (es : List Edit) → any is_bottom es ≡ false → lines_over n es ≡ list_before n (sum_over es) es
unfolding lines_over version_lines list_before lines_before
lists-as-before n es none =
    ap (λ (cs : List Edit).
    head_line n (length (creates es)) (length (flat_map (lines_in es) cs)) (sum_over es) ∷ flat_map (lines_in es) cs)
    (as_before es none)

-- ---- every drawing

set-not-bottom : (e : Edit) → is_set e ≡ true → is_bottom e ≡ false
set-not-bottom e h =
    off (is_bottom e) (λ k. clash h (layer-not-set e (or_right (is_top e) (is_bottom e) k)))

-- the text of the lines hangs on the Sets alone
left-text : (es : List Edit) (c : Edit) → lines_in es c ≡ lines_in (left_in es) c
unfolding lines_in true_groups sets_on
left-text es c =
    let on = is_set_on c.site c.seq in
    let same : filter on (left_in es) ≡ filter on es
    = left-same on
    (λ e h. set-not-bottom e (both (is_set e) (same_edit e.tsite e.tseq c.site c.seq) h).0) es in
    ap (λ (ss : List Edit). object_lines c ss (groups_of ss)) (sym same)

pub lists-without-bottoms : (n : ℕ) (es : List Edit) → lines_over n es ≡ list_before n (sum_over es) (left_in es)
unfolding lines_over version_lines list_before lines_before creates
lists-without-bottoms n es =
    let lines : flat_map (lines_in es) (layered_order es) ≡ flat_map (lines_in (left_in es)) (order_before (left_in es))
    = flat-same (lines_in es) (lines_in (left_in es)) (layered_order es) (λ c m. left-text es c)
    ∙ ap (flat_map (lines_in (left_in es))) (bottoms-left-out es) in
    ap₂ (λ (cs : List Edit) (ls : List (List ℕ)). head_line n (length cs) (length ls) (sum_over es) ∷ ls)
    (sym (left-same is_create create-not-bottom es)) lines
