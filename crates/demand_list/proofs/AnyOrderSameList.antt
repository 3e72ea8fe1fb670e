-- Demand 3: the records of an accepted replay, in any order that keeps each after those that its author had seen, are
-- accepted too and give the same printed list, byte for byte. Assumes 1 to 16 sites.
use mathlib.Core.Path.{◌≡◌, sym, ap, ap₂, ◌∙◌}
use mathlib.Core.List.{List, ◌∷◌, flat_map}
use Prim.Native.Nat.{ℕ, ◌≤◌}
use lib.ListN.{length}
use Rattle.edit_record.specs.declared.Edit.{Edit}
use Rattle.edit_record.specs.Layout.{most_sites}
use Rattle.edit_record.specs.Answer1.{is_create}
use Rattle.edit_history.specs.EditsHeld.{creates}
use Rattle.edit_sum.specs.SumOfEdits.{sum_over}
use Rattle.table_drawing.specs.Tables.{Tables, held_by}
use Rattle.table_given.specs.Replay.{replay_of, edits_in}
use Rattle.table_given.proofs.ReplayFaithful.{replay-faithful}
use Rattle.math_lists.specs.Rearranged.{Rearranged}
use Rattle.demand_any_order.specs.Records.{records_of}
use Rattle.demand_any_order.specs.Settled.{Causal, Settled}
use Rattle.math_lists.proofs.Rearranged.{same_length, chosen-rearranged}
use Rattle.demand_any_order.proofs.SumAnyOrder.{sum-any-order}
use Rattle.demand_any_order.proofs.ReplayAccepted.{replay-holds}
use Rattle.demand_any_order.proofs.AnyOrderAccepted.{any-order-accepted}
use Rattle.demand_any_order.proofs.SameDrawings.{held-rearranged, held-settled, held-causal}
use Rattle.demand_any_order.proofs.SameDrawings.{held-causal-too}
use Rattle.list_text.specs.HeadAndRefusal.{head_line}
use Rattle.list_version.proofs.RanksStrict.{held-ranked}
use Rattle.demand_list.proofs.AnyOrderLines.{any-order-lines}
use Rattle.list_order.specs.Moves.{layered_order}
use Rattle.list_order.proofs.Deciding.{AllRanked}
use Rattle.list_order.proofs.AnyOrder.{layered-any-order}
use Rattle.list_lines.specs.List.{lines_of}
use Rattle.list_print.specs.Printing.{joined, list_of}
use Rattle.demand_list.specs.ListOverEdits.{lines_in, version_lines, lines_over}
use Rattle.math_lists.proofs.FlatMaps.{flat-same}
use Rattle.demand_list.proofs.ListOverEdits.{lines-over-list}

-- ---- lists of edits

module _ (sites : ℕ) (few : sites ≤ most_sites) (es fs : List Edit) (r : Rearranged es fs) (s : Settled sites es)
    (causal : Causal es) (causal' : Causal fs) (ranked : AllRanked es) where
  same-version-lines : version_lines es ≡ version_lines fs
  unfolding version_lines lines_in
  same-version-lines =
      flat-same (lines_in es) (lines_in fs) (layered_order es)
      (λ c m. any-order-lines sites few es fs r s causal causal' c)
      ∙ ap (flat_map (lines_in fs)) (layered-any-order es fs r ranked s.apart)

  same-lines-over : (n : ℕ) → lines_over n es ≡ lines_over n fs
  unfolding lines_over creates
  same-lines-over n =
      ap₂ (λ (k : ℕ) (ls : List (List ℕ)). head_line n k (length ls) (sum_over es) ∷ ls)
      (same_length (chosen-rearranged is_create r)) same-version-lines
      ∙ ap (λ (k : ℕ). head_line n (length (creates fs)) (length (version_lines fs)) k ∷ version_lines fs)
      (sum-any-order r)

-- ---- records

module _ (sites : ℕ) (some : 1 ≤ sites) (few : sites ≤ most_sites) (rs rs' : ℕ → List ℕ) (n : ℕ)
    (r : Rearranged (records_of rs n) (records_of rs' n)) (c : Causal (edits_in rs' n))
    (h : (replay_of sites rs n).answer ≡ 0) where
  abbrev t : Tables
  t = (replay_of sites rs n).after

  abbrev t' : Tables
  t' = (replay_of sites rs' n).after

  accepted-too : (replay_of sites rs' n).answer ≡ 0
  accepted-too = any-order-accepted sites some few rs rs' n r c h

  same_lines : lines_of t ≡ lines_of t'
  same_lines =
      let f = replay-faithful sites some few rs n in
      let f' = replay-faithful sites some few rs' n in
      let s = f.kept.is_sound in
      lines-over-list t f
      ∙ ap (λ (k : ℕ). lines_over k (held_by t)) (replay-holds sites some few rs n h).1
      ∙ same-lines-over sites few (held_by t) (held_by t') (held-rearranged sites some few rs rs' n r h accepted-too)
      (held-settled sites some few rs rs' n r h accepted-too) (held-causal sites some few rs rs' n r h accepted-too)
      (held-causal-too sites some few rs rs' n r h accepted-too) (held-ranked t s) sites
      ∙ ap (λ (k : ℕ). lines_over k (held_by t')) (sym (replay-holds sites some few rs' n accepted-too).1)
      ∙ sym (lines-over-list t' f')

  pub any-order-same-list : ((replay_of sites rs' n).answer ≡ 0) × (lines_of t ≡ lines_of t')
  any-order-same-list = (accepted-too, same_lines)

  -- the bytes
  pub any-order-same-bytes : list_of t ≡ list_of t'
  unfolding list_of
  any-order-same-bytes = ap joined same_lines
