-- Two drawings of the same records, taken in two orders: they have the same objects, and an object has the same groups
-- in both. Assumes 1 to 16 sites, that no record is refused in either order, and that the order of the keys is strict.
use mathlib.Core.Path.{◌≡◌, sym, subst, ◌∙◌}
use mathlib.Core.Bool.{Bool}
use mathlib.Core.List.{List}
use Prim.Native.Nat.{ℕ, ◌≤◌, ◌<◌}
use native.Mathlib.Omega.{arith}
use lib.ListN.{get_or}
use Rattle.math_lists.specs.SortedLists.{Asc}
use Rattle.edit_record.specs.declared.Edit.{Edit}
use Rattle.edit_record.specs.Layout.{most_sites}
use Rattle.edit_record.specs.Answer1.{is_create}
use Rattle.math_maximal.proofs.Renumbered.{Keys}
use Rattle.edit_history.specs.EditsHeld.{record_at, creates}
use Rattle.table_drawing.specs.Tables.{Tables, place_at, held_by}
use Rattle.table_arrival.specs.Answers6and7.{row_of}
use Rattle.edit_record.specs.RecordBytes.{no_edit}
use Rattle.group_true.specs.TrueGroups.{true_groups}
use Rattle.table_soundness.proofs.ObjectsByNumber.{object-create}
use Rattle.table_arrival.proofs.Faithful.{Faithful}
use Rattle.table_given.specs.Replay.{replay_of, edits_in}
use Rattle.table_given.proofs.ReplayFaithful.{replay-faithful}
use Rattle.math_lists.specs.Rearranged.{Rearranged}
use Rattle.demand_any_order.specs.Records.{records_of}
use Rattle.demand_any_order.specs.Settled.{AllAccepted, Causal, Settled}
use Rattle.group_true.specs.Identities.{AllDiffer}
use Rattle.math_lists.proofs.ListMembers.{mem-place, place-of}
use Rattle.math_lists.proofs.Rearranged.{same_length, same-members, chosen-rearranged}
use Rattle.group_true.proofs.Identities.{one-object}
use Rattle.demand_any_order.proofs.AcceptedSettled.{accepted-apart, accepted-causal, accepted-settled}
use Rattle.demand_any_order.proofs.SettledBoxes.{ordered}
use Rattle.demand_any_order.proofs.ReplayAccepted.{replay-holds, refuses-none-exactly}
use Rattle.demand_any_order.proofs.AnyOrderAccepted.{edits-rearranged}
use Rattle.demand_any_order.proofs.SameGroups.{members_of, same_keys}

-- the Create of object o
abbrev pub create_in : Tables → ℕ → Edit
create_in t o = record_at t.records (place_at t.objects o)

module _ (sites : ℕ) (some : 1 ≤ sites) (few : sites ≤ most_sites) (rs rs' : ℕ → List ℕ) (n : ℕ)
    (r : Rearranged (records_of rs n) (records_of rs' n))
    (h : (replay_of sites rs n).answer ≡ 0) (h' : (replay_of sites rs' n).answer ≡ 0) where
  abbrev t : Tables
  t = (replay_of sites rs n).after

  abbrev t' : Tables
  t' = (replay_of sites rs' n).after

  abbrev f : Faithful t
  f = replay-faithful sites some few rs n

  abbrev f' : Faithful t'
  f' = replay-faithful sites some few rs' n

  pub held-rearranged : Rearranged (held_by t) (held_by t')
  held-rearranged =
      rw ((replay-holds sites some few rs n h).0, (replay-holds sites some few rs' n h').0) (edits-rearranged rs rs' n r)

  -- what holds of the edits of an accepted list holds of those that a drawing holds
  held_by_lem :
      (P : List Edit → Type 0) (qs : ℕ → List ℕ) → (replay_of sites qs n).answer ≡ 0 →
      ((es : List Edit) → AllAccepted sites es → P es) → P (held_by (replay_of sites qs n).after)
  held_by_lem P qs k f =
      subst P (sym (replay-holds sites some few qs n k).0)
      (f (edits_in qs n) ((refuses-none-exactly sites some few qs n).0 k).1)

  pub held-apart : AllDiffer (held_by t)
  held-apart = held_by_lem AllDiffer rs h (accepted-apart sites few)

  pub held-settled : Settled sites (held_by t)
  held-settled = held_by_lem (Settled sites) rs h (accepted-settled sites few)

  pub held-settled-too : Settled sites (held_by t')
  held-settled-too = held_by_lem (Settled sites) rs' h' (accepted-settled sites few)

  pub held-causal : Causal (held_by t)
  held-causal = held_by_lem Causal rs h (accepted-causal sites few)

  pub held-causal-too : Causal (held_by t')
  held-causal-too = held_by_lem Causal rs' h' (accepted-causal sites few)

  -- ---- the objects

  creates-rearranged : Rearranged (creates (held_by t)) (creates (held_by t'))
  unfolding creates
  creates-rearranged = chosen-rearranged is_create held-rearranged

  pub as-many-objects : t.counters.objects ≡ t'.counters.objects
  as-many-objects = f.kept.is_sound.objects ∙ same_length creates-rearranged ∙ sym f'.kept.is_sound.objects

  -- each object of the one is an object of the other
  pub same_object :
      (o : ℕ) → o < t.counters.objects → (o' : ℕ) × (o' < t'.counters.objects) × (create_in t o ≡ create_in t' o')
  same_object o l =
      let s = f.kept.is_sound in
      let s' = f'.kept.is_sound in
      let (o', l', e) = place-of no_edit (same-members creates-rearranged (get_or (creates (held_by t)) o no_edit)
      (mem-place no_edit (creates (held_by t)) o (omega (arith, s.objects)))) in
      let less : o' < t'.counters.objects = omega (arith, s'.objects) in
      (o', less, sym (object-create t s no_edit o l) ∙ sym e ∙ object-create t' s' no_edit o' less)

  -- ---- the groups of an object

  pub same_versions :
      {K : Type 0} (lt : K → K → Type 0) → ((x : K) → lt x x → ⊥) → ((x y z : K) → lt x y → lt y z → lt x z) →
      (key : (Edit → Bool) → K) (o o' : ℕ) → o < t.counters.objects → o' < t'.counters.objects →
      (create_in t o).site ≡ (create_in t' o').site → (create_in t o).seq ≡ (create_in t' o').seq →
      (ks ks' : List K) → Asc lt ks → Asc lt ks' →
      Keys (λ g. key (members_of (held_by t) (create_in t o) g)) (row_of t o) ks →
      Keys (λ g. key (members_of (held_by t') (create_in t' o') g)) (row_of t' o') ks' →
      ks ≡ ks'
  same_versions lt irr tr key o o' l l' p q ks ks' a a' k k' =
      let c = create_in t o in
      let row : row_of t o ≡ true_groups (held_by t) c = f.rows o l in
      let row' : row_of t' o' ≡ true_groups (held_by t') c
      = f'.rows o' l' ∙ one-object (held_by t') (create_in t' o') c (sym p) (sym q) in
      same_keys sites few (held_by t) (held_by t') held-rearranged (ordered sites (held_by t) held-settled)
      (ordered sites (held_by t') held-settled-too) held-causal held-causal-too c
      (held-settled.versions c.site c.seq) lt irr tr key ks ks' a a'
      (rw row at k) (rw (row', ← p, ← q) at k')
