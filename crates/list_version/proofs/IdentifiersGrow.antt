-- The Sets of an object, ms, and more that arrive after them: a version whose group lies in a later one keeps its
-- members and the names in its identifier; and two versions are never found in one later version, neither by their
-- members nor by their identifiers. The last two assume that different Sets have different names.
use mathlib.Core.Path.{◌≡◌, sym, ap, ◌∙◌}
use mathlib.Core.Bool.{true}
use mathlib.Core.List.Memᴰ
use mathlib.Core.List.{List, ◌++◌, map, map-map}
use Prim.Native.Nat.{ℕ, ◌<◌}
use native.Mathlib.Omega.{arith}
use lib.ListN.{length, get_or, length-append, get_or-append}
use lib.Dec.{eqb}
use borrow.Author.Tests.{eqb-true}
use Rattle.math_lists.specs.NumbersBelow.{keep}
use Rattle.math_lists.specs.SortedLists.{any, elem, ascending}
use Rattle.math_lists.proofs.Booleans.{eqb-self}
use Rattle.math_lists.proofs.NumbersBelow.{keep_at, keep-on}
use Rattle.math_lists.proofs.Elements.{any-map, any-on, any_at, elem→mem, mem→elem}
use Rattle.math_lists.proofs.SortedLists.{any-ascending}
use Rattle.edit_record.specs.declared.Edit.{Edit}
use Rattle.edit_record.specs.RecordBytes.{no_edit}
use Rattle.math_maximal.specs.MaximalSets.{◌⊆◌}
use Rattle.math_maximal.specs.Groups.{bit}
use Rattle.group_true.specs.TrueGroups.{groups_of}
use Rattle.group_true.proofs.GroupsGrow.{members-arrived, never-in-one-later}
use Rattle.group_true.specs.Disputed.{is_disputed, disputed_of}
use Rattle.edit_causal.specs.ConflictForms.{Proper}
use Rattle.group_true.proofs.DisputesGrow.{disputed-at, dispute-grows, versions-never-in-one}
use Rattle.math_lists.specs.Rearranged.{Mem}
use Rattle.edit_record.specs.Answer1.{name_of}
use Rattle.list_version.specs.Identifier.{identifier_of}
use Rattle.list_version.specs.Members.{members_of}
use Rattle.list_version.proofs.MembersByTest.{filter-keep}

abbrev pub name_at : List Edit → ℕ → ℕ
name_at ms i = name_of (get_or ms i no_edit)

-- different Sets have different names
abbrev pub NamesDiffer : List Edit → Type 0
NamesDiffer ms = (i j : ℕ) → i < length ms → j < length ms → name_at ms i ≡ name_at ms j → i ≡ j

-- ---- members and names by places

module _ (ms : List Edit) (g : ℕ) where
  member-on : (i : ℕ) → i < length ms → bit g i ≡ true → Mem (get_or ms i no_edit) (members_of ms g)
  unfolding members_of
  member-on i l b =
      let n = length ms in
      Memᴰ.map (λ i. get_or ms i no_edit) (elem→mem i (keep n (bit g)) (keep-on n (bit g) i l b))

  member-at :
      (e : Edit) → Mem e (members_of ms g) →
      (i : ℕ) × (i < length ms) × (bit g i ≡ true) × (get_or ms i no_edit ≡ e)
  unfolding members_of
  member-at e m =
      let (i, n, q) = Memᴰ.of_map (λ i. get_or ms i no_edit) (keep (length ms) (bit g)) m in
      let (l, b) = keep_at (length ms) (bit g) i (mem→elem n) in
      (i, l, b, q)

  identifier-places : identifier_of ms g ≡ ascending (map (name_at ms) (disputed_of ms g))
  unfolding identifier_of members_of disputed_of
  identifier-places =
      let at : ℕ → Edit = λ i. get_or ms i no_edit in
      ap (λ (l : List Edit). ascending (map name_of l)) (filter-keep (is_disputed ms) at (bit g) (length ms))
      ∙ ap ascending (map-map name_of at (disputed_of ms g))

  -- x is a name in the identifier exactly if a disputed member has it
  named : (x : ℕ) → elem x (identifier_of ms g) ≡ any (λ i. eqb x (name_at ms i)) (disputed_of ms g)
  named x =
      ap (elem x) identifier-places ∙ any-ascending (eqb x) (map (name_at ms) (disputed_of ms g))
      ∙ any-map (eqb x) (name_at ms) (disputed_of ms g)

  pub name-on : (i : ℕ) → elem i (disputed_of ms g) ≡ true → elem (name_at ms i) (identifier_of ms g) ≡ true
  name-on i e =
      named (name_at ms i)
      ∙ any-on (λ j. eqb (name_at ms i) (name_at ms j)) (disputed_of ms g) i e (eqb-self (name_at ms i))

  pub name-at :
      (x : ℕ) → elem x (identifier_of ms g) ≡ true →
      (i : ℕ) × (elem i (disputed_of ms g) ≡ true) × (x ≡ name_at ms i)
  name-at x h =
      let (i, e, q) = any_at (λ i. eqb x (name_at ms i)) (disputed_of ms g) (sym (named x) ∙ h) in
      (i, e, eqb-true x (name_at ms i) q)

-- ---- more Sets

module _ (ms more : List Edit) where
  abbrev ns : List Edit
  ns = ms ++ more

  same-there : (i : ℕ) → i < length ms → get_or ns i no_edit ≡ get_or ms i no_edit
  same-there i l = get_or-append ms more no_edit i l

  further : (i : ℕ) → i < length ms → i < length ns
  further i l = omega (arith, length-append ms more)

  pub members-grow : (g h : ℕ) → bit g ⊆ bit h → (e : Edit) → Mem e (members_of ms g) → Mem e (members_of ns h)
  members-grow g h sub e m =
      let (i, l, b, q) = member-at ms g e m in
      rw (← q, ← same-there i l) (member-on ns h i (further i l) (sub i b))

  pub identifier-grows :
      (g h : ℕ) → bit g ⊆ bit h → (x : ℕ) → elem x (identifier_of ms g) ≡ true → elem x (identifier_of ns h) ≡ true
  identifier-grows g h sub x e =
      let (i, d, q) = name-at ms g x e in
      let named : elem (name_at ns i) (identifier_of ns h) ≡ true
      = name-on ns h i (dispute-grows ms more g h sub i d) in
      rw (q, ← same-there i (disputed-at ms g i d).0) named

  -- ---- two versions are never found in one

  module _ (differ : NamesDiffer ns) (g h k : ℕ) (eg : elem g (groups_of ms) ≡ true)
      (eh : elem h (groups_of ms) ≡ true) (ek : elem k (groups_of ns) ≡ true) where
    pub members-never-in-one :
        ((e : Edit) → Mem e (members_of ms g) → Mem e (members_of ns k)) →
        ((e : Edit) → Mem e (members_of ms h) → Mem e (members_of ns k)) → g ≡ h
    members-never-in-one into into' =
        never-in-one-later ms more g h k eg eh ek (over g eg into) (over h eh into')
      where
        over :
            (g : ℕ) → elem g (groups_of ms) ≡ true →
            ((e : Edit) → Mem e (members_of ms g) → Mem e (members_of ns k)) → bit g ⊆ bit k
        over g e into i b =
            let l : i < length ms = members-arrived ms g e i b in
            let (j, m, c, q) = member-at ns k (get_or ms i no_edit) (into (get_or ms i no_edit) (member-on ms g i l b)) in
            let one : j ≡ i = differ j i m (further i l) (ap name_of (q ∙ sym (same-there i l))) in
            rw (← one) c

    pub identifiers-never-in-one :
        Proper ms → ((x : ℕ) → elem x (identifier_of ms g) ≡ true → elem x (identifier_of ns k) ≡ true) →
        ((x : ℕ) → elem x (identifier_of ms h) ≡ true → elem x (identifier_of ns k) ≡ true) → g ≡ h
    identifiers-never-in-one proper into into' =
        versions-never-in-one ms more proper g h k eg eh ek (over g into) (over h into')
      where
        over :
            (g : ℕ) → ((x : ℕ) → elem x (identifier_of ms g) ≡ true → elem x (identifier_of ns k) ≡ true) →
            (i : ℕ) → elem i (disputed_of ms g) ≡ true → bit k i ≡ true
        over g into i d =
            let l = (disputed-at ms g i d).0 in
            let (j, e, q) = name-at ns k (name_at ms i) (into (name_at ms i) (name-on ms g i d)) in
            let (m, b, c) = disputed-at ns k j e in
            let one : j ≡ i = differ j i m (further i l) (sym q ∙ ap name_of (sym (same-there i l))) in
            rw (← one) b
