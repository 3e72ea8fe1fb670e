-- The object that a Set names, where its target is held: its number, its Create, and its row of groups, ready for the
-- step. Assumes nothing.
use mathlib.Core.Path.{◌≡◌, ap₂, ◌∙◌}
use mathlib.Core.Bool.{true}
use Prim.Native.Nat.{ℕ, suc, ◌+◌, ◌-◌, ◌*◌, ◌^◌, ◌≤◌, ◌<◌}
use native.Mathlib.Omega.{arith}
use lib.ListN.{length, get_or, drop, replicate}
use Rattle.math_lists.specs.SortedLists.{any, elem, Ascending}
use Rattle.math_lists.proofs.ByPlaces.{elem-place}
use Rattle.edit_record.specs.declared.Site.{Site}
use Rattle.edit_record.specs.declared.Seq.{Seq}
use Rattle.edit_record.specs.declared.Edit.{Edit}
use Rattle.math_maximal.specs.Step.{step}
use Rattle.math_maximal.proofs.StepOnAnyRow.{step-ascending, step-below, step-some}
use Rattle.edit_causal.specs.Conflict.{conflicts_with}
use Rattle.edit_history.specs.EditsHeld.{record_at, sets_on, is_target, object_of}
use Rattle.edit_history.proofs.EditsHeld.{Target}
use Rattle.group_step.specs.GroupRows.{most_groups, row}
use Rattle.table_drawing.specs.Tables.{Tables, held_by, place_at, sets_at, groups_at}
use Rattle.table_soundness.proofs.SoundFacts.{Sound}
use Rattle.table_soundness.proofs.EachObject.{Row}
use Rattle.table_arrival.specs.Answers6and7.{mates_of, row_of, groups_after}
use Rattle.table_soundness.proofs.ObjectsByNumber.{target-object}
use Rattle.edit_causal.proofs.Identities.{same-site, same-seq}
use Rattle.table_arrival.proofs.RowsAfterStore.{used-ascending, used-below, used-some, used-rest}

module _ (t : Tables) (s : Sound t) (e : Edit) (h : any (is_target e) (held_by t) ≡ true) where
  abbrev o : ℕ
  o = object_of e (held_by t)

  abbrev p : ℕ
  p = place_at t.objects o

  abbrev n : ℕ
  n = length (mates_of t e)

  pub object-less : o < t.counters.objects
  object-less = (target-object t s e h).0

  pub target : Target e (record_at t.records p)
  target = (target-object t s e h).1

  pub target-site : (record_at t.records p).site ≡ e.tsite
  target-site = same-site (record_at t.records p).site e.tsite target.site

  pub target-seq : (record_at t.records p).seq ≡ e.tseq
  target-seq = same-seq (record_at t.records p).seq e.tseq target.seq

  -- its Sets are the mates of the new one
  pub sets-are : sets_at t.objects o ≡ n
  sets-are =
      (s.object o object-less).entry.sets
      ∙ ap₂ (λ (x : Site) (y : Seq). length (sets_on x y (held_by t))) target-site target-seq

  -- ---- its row

  pub row_fits : o * most_groups + most_groups ≤ length t.groups
  row_fits = omega (arith, s.groups-long, s.few-objects, object-less)

  row-sound : Row t.groups o n (groups_at t.objects o)
  row-sound = rw sets-are at (s.object o object-less).row

  pub row-few : groups_at t.objects o ≤ most_groups
  row-few = row-sound.few

  pub row-ascending : Ascending (row_of t o)
  row-ascending = used-ascending t.groups o n (groups_at t.objects o) row-sound row_fits

  pub row_below : (x : ℕ) → elem x (row_of t o) ≡ true → x < 2 ^ n
  row_below = used-below t.groups o n (groups_at t.objects o) row-sound row_fits

  pub row-rest :
      drop (groups_at t.objects o) (row o t.groups) ≡ replicate (most_groups - groups_at t.objects o) 0
  row-rest = used-rest t.groups o n (groups_at t.objects o) row-sound row_fits

  -- ---- and after the step

  pub after-ascending : Ascending (groups_after t e)
  unfolding groups_after
  after-ascending = step-ascending (conflicts_with e (mates_of t e)) n (row_of t o)

  pub after-below : (x : ℕ) → elem x (groups_after t e) ≡ true → x < 2 ^ suc n
  unfolding groups_after
  after-below = step-below (conflicts_with e (mates_of t e)) n (row_of t o) row_below

  pub after-some : 1 ≤ length (groups_after t e)
  unfolding groups_after
  after-some =
      let m = conflicts_with e (mates_of t e) in
      let (x, q) = step-some m n (row_of t o) row_below (get_or (row_of t o) 0 0)
      (used-some t.groups o n (groups_at t.objects o) row-sound row_fits) in
      let (i, l, r) = elem-place x (step m n (row_of t o)) q in
      omega arith
