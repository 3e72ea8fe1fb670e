-- Demand 3, groups: in two orders of the same edits an object has as many groups, and the same groups of Sets, so that
-- their keys, which may be anything made of a set of edits, are one ascending list. Assumes that both orders are
-- causal,
-- that the limited Sets name versions in one of them, and that the order of the keys is strict.
use mathlib.Core.Path.{◌≡◌}
use mathlib.Core.Bool.{Bool}
use mathlib.Core.List.{List}
use Prim.Native.Nat.{ℕ, ◌≤◌, ◌<◌}
use lib.ListN.{length, get_or}
use Rattle.math_lists.specs.SortedLists.{Asc}
use Rattle.math_contexts.specs.Box.{Lawful}
use Rattle.math_contexts.specs.SameSets.{SameSets}
use Rattle.math_contexts.specs.Versions.{AllNamed}
use Rattle.math_contexts.proofs.ArrivalsAnyOrder.{same-sets}
use Rattle.edit_record.specs.declared.Edit.{Edit}
use Rattle.edit_record.specs.Layout.{most_sites}
use Rattle.edit_record.specs.Answer1.{is_limited}
use Rattle.edit_causal.specs.Conflict.{do_conflict, lists, box_on, conflicts_in}
use Rattle.edit_causal.specs.ConflictForms.{Proper, saw}
use Rattle.edit_causal.proofs.ConflictsAmongSets.{proper-renumbered, conflicts-renumbered}
use Rattle.math_maximal.specs.MaximalSets.{◌⊆◌}
use Rattle.math_maximal.proofs.Renumbered.{Keys}
use Rattle.math_maximal.proofs.AnotherOrder.{has, place, set_of, Distinct, as-many-groups, same-list}
use Rattle.edit_history.specs.EditsHeld.{sets_on}
use Rattle.edit_record.specs.RecordBytes.{no_edit}
use Rattle.group_true.specs.TrueGroups.{groups_of, true_groups}
use Rattle.math_lists.specs.Rearranged.{Rearranged}
use Rattle.demand_any_order.specs.Settled.{Causal}
use Rattle.group_true.specs.EqualEdits.{is_equal}
use Rattle.math_lists.proofs.Rearranged.{turned, same-members}
use Rattle.group_true.proofs.Identities.{equal-at, equal-self, sets-distinct, sets-among}
use Rattle.demand_any_order.proofs.SettledBoxes.{Ordered, box-lawful, box-causal}

-- the Sets in the group g of the object whose Create is c, where es are held
abbrev pub members_of : List Edit → Edit → ℕ → Edit → Bool
members_of es c g = set_of is_equal (sets_on c.site c.seq es) g

-- ---- the edits es in another order, fs, both causal

module _ (n : ℕ) (few : n ≤ most_sites) (es fs : List Edit) (r : Rearranged es fs) (o : Ordered n es) (p : Ordered n fs)
    (causal : Causal es) (causal' : Causal fs) (c : Edit)
    (named : AllNamed (box_on (sets_on c.site c.seq es)) (length (sets_on c.site c.seq es))) where
  abbrev ms : List Edit
  ms = sets_on c.site c.seq es

  abbrev ns : List Edit
  ns = sets_on c.site c.seq fs

  ms-differ : Distinct no_edit ms
  ms-differ = sets-distinct es o.apart c

  ns-differ : Distinct no_edit ns
  ns-differ = sets-distinct fs p.apart c

  ns-among : has is_equal ns ⊆ has is_equal ms
  ns-among = sets-among es fs (same-members (turned r)) c

  ms-among : has is_equal ms ⊆ has is_equal ns
  ms-among = sets-among fs es (same-members r) c

  -- the number in es of the Set that has a number in fs, and the other way round
  abbrev to : ℕ → ℕ
  to i = place is_equal ms (get_or ns i no_edit)

  abbrev fro : ℕ → ℕ
  fro j = place is_equal ns (get_or ms j no_edit)

  same : SameSets (box_on ms) (length ms) (box_on ns) (length ns) to fro
  same =
      same-sets no_edit do_conflict saw lists is_limited is_equal equal-at equal-self ms ns ms-differ ns-differ ns-among
      ms-among (box-causal n few es o causal c.site c.seq) (box-causal n few fs p causal' c.site c.seq)

  proper : Proper ms
  proper = record { lawful = box-lawful n few es o causal c.site c.seq; named = named }

  lawful : Lawful (box_on ns) (length ns)
  lawful = box-lawful n few fs p causal' c.site c.seq

  -- its limited Sets name versions in the other order too
  pub named-in-any-order : AllNamed (box_on ns) (length ns)
  named-in-any-order = (proper-renumbered ms ns to fro same proper lawful).named

  -- two Sets conflict by their numbers in one order if they do by those in the other
  same-conflicts :
      (i j : ℕ) → i < length ns → j < length ns → conflicts_in ns i j ≡ conflicts_in ms (to i) (to j)
  same-conflicts = conflicts-renumbered ms ns to fro same proper lawful

  pub as-many-in-any-order : length (true_groups es c) ≡ length (true_groups fs c)
  unfolding true_groups groups_of
  as-many-in-any-order =
      as-many-groups no_edit is_equal equal-at equal-self ms ns ms-differ ns-differ ns-among ms-among
      (conflicts_in ms) (conflicts_in ns) same-conflicts

  pub same_keys :
      {K : Type 0} (lt : K → K → Type 0) → ((x : K) → lt x x → ⊥) → ((x y z : K) → lt x y → lt y z → lt x z) →
      (key : (Edit → Bool) → K) (ks ks' : List K) → Asc lt ks → Asc lt ks' →
      Keys (λ g. key (members_of es c g)) (true_groups es c) ks →
      Keys (λ g. key (members_of fs c g)) (true_groups fs c) ks' →
      ks ≡ ks'
  unfolding true_groups groups_of
  same_keys =
      same-list no_edit is_equal equal-at equal-self ms ns ms-differ ns-differ ns-among ms-among
      (conflicts_in ms) (conflicts_in ns) same-conflicts
