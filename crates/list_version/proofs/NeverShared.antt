-- In sound tables the Sets of an object have different names, so that two versions of true tables never share an
-- identifier. Assumes nothing.
use Rattle.edit_record.specs.Layout.{two_bytes}
use mathlib.Core.Path.{◌≡◌}
use mathlib.Core.Bool.{true}
use mathlib.Core.List.{List, [], ◌++◌, append-nil}
use Prim.Native.Nat.{ℕ, ◌<◌}
use native.Mathlib.Omega.{arith}
use lib.ListN.{get_or}
use Rattle.math_lists.specs.SortedLists.{elem, filter}
use Rattle.math_lists.proofs.Booleans.{off}
use Rattle.edit_record.specs.declared.Edit.{Edit}
use Rattle.edit_causal.specs.Causal.{same_edit}
use Rattle.edit_history.proofs.EditsByPlaces.{edit-in, edits-pairs}
use Rattle.edit_history.specs.EditsHeld.{record_at, is_set_on, sets_on}
use Rattle.edit_history.proofs.EditsHeld.{count-few}
use Rattle.edit_history.proofs.RecordsPassed.{next-at, one_place}
use Rattle.table_drawing.specs.Tables.{Tables, held_by}
use Rattle.edit_causal.specs.ConflictForms.{Proper}
use Rattle.table_soundness.proofs.SoundFacts.{Sound}
use Rattle.table_arrival.proofs.ProperWith.{proper-held}
use Rattle.edit_record.specs.RecordBytes.{no_edit}
use Rattle.group_true.specs.TrueGroups.{groups_of, true_groups}
use Rattle.math_lists.specs.Rearranged.{Mem}
use Rattle.group_true.specs.Identities.{Differ, AllDiffer}
use Rattle.math_lists.proofs.ListMembers.{chosen_at, mem-place}
use Rattle.group_true.proofs.Identities.{same-on, same_at, one-edit, sets-distinct}
use Rattle.list_version.specs.Identifier.{identifier_of}
use Rattle.list_version.proofs.IdentifiersGrow.{NamesDiffer, identifiers-never-in-one}

module _ (ms : List Edit) (proper : Proper ms) (differ : NamesDiffer ms) where
  -- else both would be found in one, with no Set more
  pub never-shared :
      (g h : ℕ) → elem g (groups_of ms) ≡ true → elem h (groups_of ms) ≡ true →
      identifier_of ms g ≡ identifier_of ms h → g ≡ h
  never-shared g h eg eh same =
      let whole : ms ++ [] ≡ ms = append-nil ms in
      identifiers-never-in-one ms [] (rw whole differ) g h h eg eh (rw whole eh) proper
      (λ x e. rw (whole, ← same) e) (λ x e. rw whole e)

-- where no identity stands twice and every sequence number fits two bytes, the Sets of an object have different names
pub names_apart :
    (es : List Edit) → AllDiffer es → ((e : Edit) → Mem e es → e.seq.0 < two_bytes) → (c : Edit) →
    NamesDiffer (sets_on c.site c.seq es)
unfolding sets_on
names_apart es u small c i j li lj e =
    let f = is_set_on c.site c.seq in
    let ms = filter f es in
    let a = get_or ms i no_edit in
    let b = get_or ms j no_edit in
    let ma : Mem a es = (chosen_at f a es (mem-place no_edit ms i li)).0 in
    let mb : Mem b es = (chosen_at f b es (mem-place no_edit ms j lj)).0 in
    let low : a.seq.0 < two_bytes = small a ma in
    let low' : b.seq.0 < two_bytes = small b mb in
    sets-distinct es u c i j li lj (one-edit es u a b ma mb (same-on a b (omega arith) (omega arith)))

-- ---- in sound tables

module _ (t : Tables) (s : Sound t) where
  abbrev sites : ℕ
  sites = t.counters.sites

  abbrev rs : List ℕ
  rs = t.records

  abbrev n : ℕ
  n = t.counters.records

  -- a sequence number fits two bytes
  pub held-numbered : (e : Edit) → Mem e (held_by t) → e.seq.0 < two_bytes
  held-numbered e m =
      let (p, l, q) = edit-in rs n e m in
      let low : (record_at rs p).seq.0 < two_bytes
      = omega (
        arith,
        s.few-records,
        next-at sites rs n s.pass p l,
        count-few (record_at rs p).site.0 rs p,
      ) in
      rw q low

  pub held-apart : AllDiffer (held_by t)
  held-apart =
      edits-pairs rs Differ n (λ p q l m.
      let a = record_at rs p in
      let b = record_at rs q in
      off (same_edit a.site a.seq b.site b.seq) (λ h.
      let (e, f) = same_at a b h in
      omega (arith, one_place sites rs n s.pass p q (omega arith) m e f)))

  pub held-names-differ : (c : Edit) → NamesDiffer (sets_on c.site c.seq (held_by t))
  held-names-differ = names_apart (held_by t) held-apart held-numbered

pub versions-never-share :
    (t : Tables) → Sound t → (c : Edit) (g h : ℕ) → elem g (true_groups (held_by t) c) ≡ true →
    elem h (true_groups (held_by t) c) ≡ true →
    identifier_of (sets_on c.site c.seq (held_by t)) g ≡ identifier_of (sets_on c.site c.seq (held_by t)) h →
    g ≡ h
unfolding true_groups
versions-never-share t s c g h =
    never-shared (sets_on c.site c.seq (held_by t)) (proper-held t s c.site c.seq) (held-names-differ t s c)
    g h
