-- Edits by their identities, and 'seen' and 'before' as facts; where no identity stands twice, an identity is one edit,
-- and the Sets of an object differ. Assumes nothing.
use mathlib.Core.Path.{◌≡◌, refl, ap, ap₂, ◌∙◌}
use mathlib.Core.Logic.{inl, inr}
use mathlib.Core.Bool.{true, ◌&&◌}
use mathlib.Core.List.{List, [], ◌∷◌}
use Prim.Native.Nat.{ℕ, zero, suc, ◌≤◌}
use native.Mathlib.Omega.{arith}
use lib.ListN.{get_or}
use lib.Dec.{eqb}
use borrow.Author.Tests.{eqb-true, eq-eqb, le-leb}
use Rattle.math_lists.specs.NumbersBelow.{same_list}
use Rattle.math_lists.specs.SortedLists.{filter}
use Rattle.math_lists.proofs.Booleans.{clash, both}
use Rattle.edit_record.specs.declared.Site.{Site}
use Rattle.edit_record.specs.declared.Seq.{Seq}
use Rattle.edit_record.specs.declared.Edit.{Edit}
use Rattle.edit_causal.specs.Causal.{same_edit, has_seen, comes_before}
use Rattle.edit_causal.proofs.CausalLaws.{same-reflexive, same-symmetric}
use Rattle.math_maximal.specs.MaximalSets.{◌⊆◌}
use Rattle.math_maximal.proofs.AnotherOrder.{Distinct, has}
use Rattle.edit_history.specs.EditsHeld.{is_set_on, sets_on}
use Rattle.edit_record.specs.RecordBytes.{no_edit}
use Rattle.group_true.specs.TrueGroups.{groups_of, true_groups}
use Rattle.math_lists.specs.Rearranged.{Mem}
use Rattle.group_true.specs.Identities.{Differ, AllDiffer}
use Rattle.group_true.specs.EqualEdits.{fields_of, is_equal}
use Rattle.math_lists.proofs.ListMembers.{any-on, any_at, chosen_at, chosen_on, mem-place}
use Rattle.math_lists.proofs.PairsInList.{pairs-two, pairs-chosen}
use Rattle.math_lists.proofs.ByPlaces.{list-equal, same_self}

-- ---- identity, seen, before

pub same-on :
    (a b : Edit) → a.site.0 ≡ b.site.0 → a.seq.0 ≡ b.seq.0 →
    same_edit a.site a.seq b.site b.seq ≡ true
same-on a b p q = rw (eq-eqb a.site.0 b.site.0 p, eq-eqb a.seq.0 b.seq.0 q)

pub same_at :
    (a b : Edit) → same_edit a.site a.seq b.site b.seq ≡ true →
    (a.site.0 ≡ b.site.0) × (a.seq.0 ≡ b.seq.0)
same_at a b h =
    let (p, q) = both (eqb a.site.0 b.site.0) (eqb a.seq.0 b.seq.0) h in
    (eqb-true a.site.0 b.site.0 p, eqb-true a.seq.0 b.seq.0 q)

pub seen-on :
    (e a : Edit) → a.seq.0 ≤ get_or e.vector a.site.0 0 → has_seen e.vector a.site a.seq ≡ true
seen-on e a h = le-leb a.seq.0 (get_or e.vector a.site.0 0) h

pub before_on : (a e : Edit) → Differ a e → has_seen e.vector a.site a.seq ≡ true → comes_before a e ≡ true
before_on a e d s = rw (d, s)

pub differ-turned : (a b : Edit) → Differ a b → Differ b a
differ-turned a b h = same-symmetric b.site b.seq a.site a.seq ∙ h

-- ---- equality in every field

made : List ℕ → List ℕ → List ℕ → Edit
made l v m =
    record {
      kind = get_or l 0 0;
      site = record { 0 = get_or l 1 0 };
      seq = record { 0 = get_or l 2 0 };
      vector = v;
      tsite = record { 0 = get_or l 3 0 };
      key = get_or l 4 0;
      tseq = record { 0 = get_or l 5 0 };
      value = get_or l 6 0;
      count = get_or l 7 0;
      members = m;
    }

pub equal-at : (a b : Edit) → is_equal a b ≡ true → a ≡ b
unfolding is_equal made
equal-at a b h =
    let fields? = same_list (fields_of a) (fields_of b) in
    let vector? = same_list a.vector b.vector in
    let (fv, m) = both (fields? && vector?) (same_list a.members b.members) h in
    let (f, v) = both fields? vector? fv in
    ap₂ (λ (l : List ℕ) (w : List ℕ). made l w a.members) (list-equal (fields_of a) (fields_of b) f)
    (list-equal a.vector b.vector v)
    ∙ ap (made (fields_of b) b.vector) (list-equal a.members b.members m)

pub equal-self : (a : Edit) → is_equal a a ≡ true
unfolding is_equal
equal-self a = rw (same_self (fields_of a), same_self a.vector, same_self a.members)

pub has_on : {x : Edit} {xs : List Edit} → Mem x xs → has is_equal xs x ≡ true
has_on {x} m = any-on (is_equal x) m (equal-self x)

pub has-at : (x : Edit) (xs : List Edit) → has is_equal xs x ≡ true → Mem x xs
has-at x xs h =
    let (y, m, e) = any_at (is_equal x) xs h in
    rw (equal-at x y e) m

-- ---- no identity stands twice

pub one-edit :
    (es : List Edit) → AllDiffer es → (a b : Edit) → Mem a es → Mem b es →
    same_edit a.site a.seq b.site b.seq ≡ true → a ≡ b
one-edit es u a b m k h = elim (pairs-two Differ differ-turned es u a b m k) [ inl e ↦ e | inr d ↦ clash h d ]

distinct : (xs : List Edit) → AllDiffer xs → Distinct no_edit xs
distinct [] u i j a b e = absurd (omega arith)
distinct (x ∷ xs) (u, v) zero zero a b e = refl
distinct (x ∷ xs) (u, v) zero (suc j) a b e =
    clash (same-reflexive x.site x.seq)
    (rw (← e) at (u (get_or xs j no_edit) (mem-place no_edit xs j (omega arith))))
distinct (x ∷ xs) (u, v) (suc i) zero a b e =
    clash (same-reflexive x.site x.seq)
    (rw e at (u (get_or xs i no_edit) (mem-place no_edit xs i (omega arith))))
distinct (x ∷ xs) (u, v) (suc i) (suc j) a b e = ap suc (distinct xs v i j (omega arith) (omega arith) e)

-- ---- the groups of an object

-- only the identity of its Create counts
pub one-object :
    (es : List Edit) (a c : Edit) → a.site ≡ c.site → a.seq ≡ c.seq → true_groups es a ≡ true_groups es c
unfolding true_groups
one-object es a c p q = ap₂ (λ (x : Site) (y : Seq). groups_of (sets_on x y es)) p q

pub sets-distinct : (es : List Edit) → AllDiffer es → (c : Edit) → Distinct no_edit (sets_on c.site c.seq es)
unfolding sets_on
sets-distinct es u c =
    let f = is_set_on c.site c.seq in
    distinct (filter f es) (pairs-chosen Differ f es u)

pub sets-among :
    (es fs : List Edit) → ((x : Edit) → Mem x fs → Mem x es) → (c : Edit) →
    has is_equal (sets_on c.site c.seq fs) ⊆ has is_equal (sets_on c.site c.seq es)
unfolding sets_on
sets-among es fs among c x h =
    let f = is_set_on c.site c.seq in
    let (m, on) = chosen_at f x fs (has-at x (filter f fs) h) in
    has_on (chosen_on f (among x m) on)
