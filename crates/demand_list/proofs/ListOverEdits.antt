-- The printed list of a faithful drawing is the list over the edits that it holds. Assumes nothing.
use mathlib.Core.Path.{◌≡◌, sym, ap, ap₂, ◌∙◌}
use mathlib.Core.List.{List, ◌∷◌, flat_map}
use Prim.Native.Nat.{ℕ}
use lib.ListN.{length}
use Rattle.edit_sum.proofs.SumOfRecords.{held-sum, passing-fit}
use Rattle.table_drawing.specs.Tables.{Tables, held_by}
use Rattle.table_arrival.proofs.Faithful.{Faithful}
use Rattle.list_text.specs.HeadAndRefusal.{head_line}
use Rattle.list_line.specs.Line.{object_lines}
use Rattle.list_objects.specs.Objects.{create_of, sets_for, objects_of}
use Rattle.list_lines.specs.List.{lines_for, version_total, lines_of}
use Rattle.demand_list.specs.ListOverEdits.{lines_in, version_lines, lines_over}
use Rattle.math_lists.proofs.FlatMaps.{flat-same, flat-made}
use Rattle.demand_list.proofs.ObjectsInOrder.{object-below, creates-ordered}
use Rattle.demand_list.proofs.HeadTotal.{lines-total}

module _ (t : Tables) (f : Faithful t) where
  -- the lines of its objects
  versions-over : flat_map (lines_for t) (objects_of t) ≡ version_lines (held_by t)
  unfolding version_lines lines_for lines_in
  versions-over =
      let held = held_by t in
      flat-same (lines_for t) (λ o. lines_in held (create_of t o)) (objects_of t)
      (λ o m. ap (object_lines (create_of t o) (sets_for t o)) (f.rows o (object-below t o m)))
      ∙ sym (flat-made (lines_in held) (create_of t) (objects_of t))
      ∙ ap (flat_map (lines_in held)) (creates-ordered t f.kept.is_sound)

  pub lines-over-list : lines_of t ≡ lines_over t.counters.sites (held_by t)
  unfolding lines_of lines_over
  lines-over-list =
      let s = f.kept.is_sound in
      let total : version_total t ≡ length (version_lines (held_by t)) = sym (lines-total t s) ∙ ap length versions-over in
      let held = held_by t in
      ap₂ (λ (k : ℕ) (ls : List (List ℕ)).
      head_line t.counters.sites t.counters.objects k t.counters.sum ∷ ls) total versions-over
      ∙ ap₂ (λ (m k : ℕ). head_line t.counters.sites m (length (version_lines held)) k ∷ version_lines held)
      s.objects (s.sum
      ∙ held-sum t.records t.counters.records
      (passing-fit t.counters.sites t.records t.counters.records s.pass))
