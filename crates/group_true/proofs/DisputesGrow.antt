-- The Sets of an object, ms, and more that arrive after them: what is in dispute stays so, and two versions are never
-- found in one later version, not even by their members in dispute alone. Dispute is document 01's conflict of two
-- edits; that groups are told apart by it is `disputed-never-in-one` of `math_contexts`. Assumes, where it is said,
-- that
-- the Sets are proper.
use mathlib.Core.Path.{◌≡◌, sym, ◌∙◌}
use mathlib.Core.Bool.{true, ◌&&◌}
use mathlib.Core.List.{List, ◌++◌}
use Prim.Native.Nat.{ℕ, ◌<◌}
use native.Mathlib.Omega.{arith}
use lib.ListN.{length, get_or, length-append, get_or-append}
use Rattle.math_lists.specs.SortedLists.{any, elem}
use Rattle.math_lists.proofs.Booleans.{both, and-on, or_left}
use Rattle.math_lists.proofs.Elements.{any_append}
use Rattle.math_lists.proofs.NumbersBelow.{keep_at, keep-on}
use Rattle.edit_record.specs.declared.Edit.{Edit}
use Rattle.edit_causal.specs.Conflict.{do_conflict, lists, box_on, conflicts_in}
use Rattle.edit_causal.specs.ConflictForms.{Proper, saw}
use Rattle.math_maximal.specs.MaximalSets.{◌∈◌, ◌⊆◌}
use Rattle.math_maximal.specs.Groups.{bit, below, every}
use Rattle.math_maximal.proofs.Groups.{below_at}
use Rattle.math_contexts.specs.Box.{disputed}
use Rattle.math_contexts.specs.BoxByArrival.{rel}
use Rattle.math_contexts.proofs.ContextMembers as members
use Rattle.math_contexts.proofs.DisputedByArrival.{disputed-over}
use Rattle.math_contexts.proofs.NamedSets.{named-groups}
use Rattle.math_contexts.proofs.VersionsGrow.{disputed-never-in-one}
use Rattle.edit_record.specs.RecordBytes.{no_edit}
use Rattle.edit_record.specs.Answer1.{is_limited}
use Rattle.group_true.specs.TrueGroups.{groups_of}
use Rattle.group_true.specs.Disputed.{is_disputed, disputed_of}
use Rattle.group_true.proofs.GroupsGrow.{members-free}

-- ---- in dispute

module _ (ms : List Edit) (m : Edit) where
  -- what is in dispute stays so
  pub stays-disputed : is_disputed ms m ≡ true → (more : List Edit) → is_disputed (ms ++ more) m ≡ true
  unfolding is_disputed
  stays-disputed h more = any_append (do_conflict m) ms more ∙ or_left (any (do_conflict m) ms) _ h

-- ---- the disputed members by their places

module _ (ms : List Edit) where
  -- a member that conflicts with some Set of the object is one
  pub disputed-on :
      (g i : ℕ) → i < length ms → bit g i ≡ true → is_disputed ms (get_or ms i no_edit) ≡ true →
      elem i (disputed_of ms g) ≡ true
  unfolding disputed_of
  disputed-on g i l b h =
      keep-on (length ms) (λ i. bit g i && is_disputed ms (get_or ms i no_edit)) i l (and-on (bit g i) _ b h)

  pub disputed-at :
      (g i : ℕ) → elem i (disputed_of ms g) ≡ true →
      (i < length ms) × (bit g i ≡ true) × (is_disputed ms (get_or ms i no_edit) ≡ true)
  unfolding disputed_of
  disputed-at g i e =
      let (l, p) = keep_at (length ms) (λ i. bit g i && is_disputed ms (get_or ms i no_edit)) i e in
      let (b, h) = both (bit g i) (is_disputed ms (get_or ms i no_edit)) p in
      (l, b, h)

-- ---- more Sets

module _ (ms more : List Edit) where
  abbrev ns : List Edit
  ns = ms ++ more

  same-there : (i : ℕ) → i < length ms → get_or ns i no_edit ≡ get_or ms i no_edit
  same-there i l = get_or-append ms more no_edit i l

  pub dispute-grows :
      (g h : ℕ) → bit g ⊆ bit h → (i : ℕ) → elem i (disputed_of ms g) ≡ true → elem i (disputed_of ns h) ≡ true
  dispute-grows g h sub i e =
      let (l, b, d) = disputed-at ms g i e in
      disputed-on ns h i (omega (arith, length-append ms more)) (sub i b)
      (rw (same-there i l) (stays-disputed ms (get_or ms i no_edit) d more))

  disputed-there :
      (g i : ℕ) → i ∈ bit g → i ∈ disputed (box_on ms) (length ms) every → elem i (disputed_of ms g) ≡ true
  unfolding is_disputed
  disputed-there g i bi d =
      let l = (below_at (length ms) every i (members.disputed-at (box_on ms) (length ms) every i d).0).0 in
      disputed-on ms g i l bi (sym (disputed-over no_edit do_conflict saw lists is_limited ms i l) ∙ d)

  lies :
      (k i : ℕ) → bit k i ≡ true → i ∈ disputed (box_on ms) (length ms) every →
      (below (length ms) every i && bit k i) ≡ true
  lies k i ki d =
      and-on (below (length ms) every i) (bit k i) (members.disputed-at (box_on ms) (length ms) every i d).0 ki

  -- two versions are never found in one
  pub versions-never-in-one :
      Proper ms → (g h k : ℕ) → elem g (groups_of ms) ≡ true → elem h (groups_of ms) ≡ true →
      elem k (groups_of ns) ≡ true → ((i : ℕ) → elem i (disputed_of ms g) ≡ true → bit k i ≡ true) →
      ((i : ℕ) → elem i (disputed_of ms h) ≡ true → bit k i ≡ true) → g ≡ h
  unfolding groups_of conflicts_in rel
  versions-never-in-one p g h k eg eh ek into into' =
      let b = box_on ms in
      let n = length ms in
      let groups-are = named-groups b n p.lawful p.named in
      disputed-never-in-one b n p.lawful g h (rw groups-are at eg) (rw groups-are at eh)
      {U = below n every} {Q = λ i. below n every i && bit k i}
      (record {
        within = λ i m. (both (below n every i) (bit k i) m).0;
        free = λ i m j o.
            let (bi, ki) = both (below n every i) (bit k i) m in
            let (bj, kj) = both (below n every j) (bit k j) o in
            rw (same-there i (below_at n every i bi).0, same-there j (below_at n every j bj).0) at
            (members-free ns k ek i j ki kj);
      })
      (λ i bi d. lies k i (into i (disputed-there g i bi d)) d)
      (λ i bi d. lies k i (into' i (disputed-there h i bi d)) d)
