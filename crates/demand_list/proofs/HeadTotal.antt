-- The total of the versions in line 0 is the number of the lines that follow it. Assumes nothing.
use mathlib.Core.Path.{◌≡◌, ap, ◌∙◌}
use mathlib.Core.List.{flat_map}
use Prim.Native.Nat.{ℕ, suc, ◌*◌, ◌+◌, ◌≤◌, ◌<◌}
use native.Mathlib.Omega.{arith}
use lib.ListN.{length, length-map}
use Rattle.math_lists.specs.NumbersBelow.{sum}
use Rattle.math_lists.proofs.NumbersBelow.{sum_same}
use Rattle.group_step.specs.GroupRows.{most_groups}
use Rattle.table_drawing.specs.Tables.{Tables, sets_at, groups_at}
use Rattle.table_soundness.proofs.SoundFacts.{Sound}
use Rattle.table_arrival.specs.Answers6and7.{row_of}
use Rattle.table_arrival.proofs.RowsAfterStore.{used-long}
use Rattle.list_version.specs.VersionOrder.{versions_of}
use Rattle.list_line.specs.Line.{version_line, object_lines}
use Rattle.list_version.proofs.VersionsSorted.{versions-length}
use Rattle.list_objects.specs.Objects.{create_of, sets_for, objects_of}
use Rattle.list_lines.specs.List.{lines_for, version_total, lines_of}
use Rattle.math_lists.proofs.FlatMaps.{flat-rearranged, flat-below}
use Rattle.demand_list.proofs.ObjectsInOrder.{objects-rearranged}

module _ (t : Tables) (s : Sound t) where
  -- an object has a line for each of its groups
  pub line-each : (o : ℕ) → o < t.counters.objects → length (lines_for t o) ≡ groups_at t.objects o
  unfolding lines_for object_lines
  line-each o l =
      let ms = sets_for t o in
      let fits : o * most_groups + most_groups ≤ length t.groups = omega (arith, s.groups-long, s.few-objects) in
      length-map (versions_of ms (row_of t o)) (version_line (create_of t o) ms)
      ∙ versions-length ms (row_of t o)
      ∙ used-long t.groups o (sets_at t.objects o) (groups_at t.objects o) (s.object o l).row fits

  pub lines-total : length (flat_map (lines_for t) (objects_of t)) ≡ version_total t
  unfolding version_total
  lines-total =
      let m = t.counters.objects in
      let f = lines_for t in
      let total : sum m (λ o. length (f o)) ≡ sum m (groups_at t.objects)
      = sum_same m (λ o. length (f o)) (groups_at t.objects) line-each in
      flat-rearranged f (objects-rearranged t) ∙ flat-below f m ∙ total

  pub head-counts-lines : length (lines_of t) ≡ suc (version_total t)
  unfolding lines_of
  head-counts-lines = ap suc lines-total
