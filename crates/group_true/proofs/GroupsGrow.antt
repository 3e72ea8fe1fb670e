-- The groups of an object's Sets, ms, and of more that arrive after them: no group is part of another, the Sets keep
-- their numbers, each group lies in a later one, two groups never lie in one later group, the groups never become
-- fewer, and the step gives those of one Set more. Assumes, where it is said, that no Set conflicts with itself.
use mathlib.Core.Path.{◌≡◌, sym}
use mathlib.Core.Bool.{true, false}
use mathlib.Core.List.{List, [], ◌∷◌, ◌++◌}
use Prim.Native.Nat.{ℕ, suc, ◌^◌, ◌≤◌, ◌<◌}
use native.Mathlib.Omega.{arith}
use lib.ListN.{length, get_or, length-append}
use Rattle.math_lists.specs.SortedLists.{elem}
use Rattle.edit_record.specs.declared.Edit.{Edit}
use Rattle.edit_record.specs.RecordBytes.{no_edit}
use Rattle.edit_causal.specs.Conflict.{do_conflict, conflicts_in, conflicts_with}
use Rattle.edit_causal.specs.ConflictForms.{NoneItself}
use Rattle.edit_causal.proofs.ConflictsAmongSets.{conflicts-turned, conflicts-kept, free-plainly}
use Rattle.math_maximal.specs.MaximalSets.{◌∈◌, ◌⊆◌, Maximal}
use Rattle.math_maximal.specs.Groups.{bit, below, every, groups}
use Rattle.math_maximal.specs.Step.{part_of_larger, step}
use Rattle.math_maximal.proofs.Masks.{mask-bit}
use Rattle.math_maximal.proofs.Groups.{below_at, below_on, groups-at, groups-agree}
use Rattle.math_maximal.proofs.MoreElements.{kept, no-more-groups, never-in-one, never-part}
use Rattle.math_maximal.proofs.StepKeepsMaximal.{step-keeps-maximal}
use Rattle.group_true.specs.TrueGroups.{groups_of}

-- ---- one group

module _ (ms : List Edit) (g : ℕ) (e : elem g (groups_of ms) ≡ true) where
  pub is-maximal : (g < 2 ^ length ms) × Maximal (conflicts_in ms) (below (length ms) every) (bit g)
  unfolding groups_of
  is-maximal = groups-at (conflicts_in ms) (length ms) every g e

  -- its members have arrived
  pub members-arrived : (i : ℕ) → i ∈ bit g → i < length ms
  members-arrived i b = (below_at (length ms) every i (is-maximal.1.is_free.within i b)).0

  -- and have no conflict among them by document 01's rule
  pub members-free :
      (i j : ℕ) → i ∈ bit g → j ∈ bit g → do_conflict (get_or ms i no_edit) (get_or ms j no_edit) ≡ false
  members-free i j b x = free-plainly ms i j (is-maximal.1.is_free.free i b j x)

-- ---- two groups

-- none is part of a larger one
pub none-part :
    (ms : List Edit) (g h : ℕ) → elem g (groups_of ms) ≡ true → elem h (groups_of ms) ≡ true → part_of_larger g h ≡ false
unfolding groups_of
none-part ms = never-part (conflicts_in ms) (length ms) every

-- ---- more arrive

module _ (ms more : List Edit) where
  abbrev ns : List Edit
  ns = ms ++ more

  sub : below (length ms) every ⊆ below (length ns) every
  sub i b =
      let l : i < length ms = (below_at (length ms) every i b).0 in
      below_on (length ns) every i (omega (arith, length-append ms more)) (below_at (length ms) every i b).1

  -- the groups of those that came first, among all
  earlier-groups : groups_of ms ≡ groups (conflicts_in ns) (length ms) every
  unfolding groups_of
  earlier-groups =
      let low : (i : ℕ) → i ∈ below (length ms) every → i < length ms = λ i b. (below_at (length ms) every i b).0 in
      groups-agree (conflicts_in ms) (conflicts_in ns) (length ms) every
      (λ i j p q. sym (conflicts-kept ms more i j (low i p) (low j q)))

  -- two groups that lie in one later group are one
  pub never-in-one-later :
      (g h k : ℕ) → elem g (groups_of ms) ≡ true → elem h (groups_of ms) ≡ true → elem k (groups_of ns) ≡ true →
      bit g ⊆ bit k → bit h ⊆ bit k → g ≡ h
  never-in-one-later g h k e f l =
      never-in-one (conflicts_in ns) (length ms) every g h (rw earlier-groups at e) (rw earlier-groups at f)
      (is-maximal ns k l).1.is_free

  module _ (irr : NoneItself ns) where
    -- each group lies in a later one
    pub lies-in-later :
        (g : ℕ) → elem g (groups_of ms) ≡ true → (h : ℕ) × (elem h (groups_of ns) ≡ true) × (bit g ⊆ bit h)
    unfolding groups_of
    lies-in-later g e =
        kept (conflicts_in ns) (length ms) (length ns) every every (conflicts-turned ns) irr sub g
        (rw earlier-groups at e)

    pub never-fewer-groups : length (groups_of ms) ≤ length (groups_of ns)
    unfolding groups_of
    never-fewer-groups =
        rw earlier-groups
        (no-more-groups (conflicts_in ns) (length ms) (length ns) every every (conflicts-turned ns) irr sub)

-- ---- one more

module _ (ms : List Edit) (e : Edit) where
  -- the survey's number has the bits of the Sets that conflict with it
  marks-told :
      (i : ℕ) → i < length ms → bit (conflicts_with e ms) i ≡ conflicts_in (ms ++ (e ∷ [])) (length ms) i
  unfolding conflicts_with
  marks-told i l = mask-bit (length ms) (conflicts_in (ms ++ (e ∷ [])) (length ms)) i l

  -- the step gives the groups of the Sets with one more
  pub sets-step :
      NoneItself (ms ++ (e ∷ [])) → step (conflicts_with e ms) (length ms) (groups_of ms) ≡ groups_of (ms ++ (e ∷ []))
  unfolding groups_of
  sets-step irr =
      let xs = ms ++ (e ∷ []) in
      let long : length xs ≡ suc (length ms) = omega (arith, length-append ms (e ∷ [])) in
      rw (earlier-groups ms (e ∷ []), long)
      (step-keeps-maximal (conflicts_in xs) (conflicts-turned xs) irr (length ms) (conflicts_with e ms) marks-told)
