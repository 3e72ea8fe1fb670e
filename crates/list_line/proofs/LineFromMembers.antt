-- A version's identifier and its line from the list of its members, and that no order of the members, or of the
-- object's Sets, matters to them. Assumes, to tell the members by a test, that no Set stands twice.
use mathlib.Core.Path.{◌≡◌, refl, sym, ap, ap₂, fun_ext, ◌∙◌}
use mathlib.Core.Bool.{Bool, true, ◌&&◌}
use mathlib.Core.List.{List, [], ◌∷◌, ◌++◌, map}
use Prim.Native.Nat.{ℕ, zero, suc, ◌<◌}
use lib.Dec.{eqb}
use lib.ListN.{length, get_or}
use Rattle.math_lists.specs.SortedLists.{elem, filter, ascending}
use Rattle.math_lists.proofs.NumbersBelow.{keep_same}
use Rattle.math_lists.proofs.SortedLists.{ascending-unique, any-ascending, is-ascending}
use Rattle.edit_record.specs.declared.Edit.{Edit}
use Rattle.edit_record.specs.Layout.{keys}
use Rattle.edit_causal.specs.Conflict.{do_conflict}
use Rattle.math_maximal.specs.Groups.{bit}
use Rattle.math_maximal.proofs.AnotherOrder.{set_of, Distinct, has-at, place-of}
use Rattle.edit_record.specs.RecordBytes.{no_edit}
use Rattle.group_true.specs.Disputed.{is_disputed}
use Rattle.list_text.specs.Pieces.{space, newline, dotted}
use Rattle.math_lists.specs.Rearranged.{Rearranged}
use Rattle.group_true.specs.EqualEdits.{is_equal}
use Rattle.group_true.proofs.Identities.{equal-at, equal-self}
use Rattle.math_lists.proofs.Rearranged.{turned, any-rearranged, chosen-rearranged, made-rearranged}
use Rattle.edit_record.specs.Answer1.{name_of}
use Rattle.list_version.specs.Identifier.{identifier_of}
use Rattle.list_version.specs.Members.{members_of}
use Rattle.list_version.specs.Values.{has_key, last_after, last_with}
use Rattle.list_line.specs.Line.{identifier_text, setting_text, settings_text, version_line}
use Rattle.list_version.proofs.MembersByTest.{all-places, filter-keep}
use native.Mathlib.Omega.{arith}
use Rattle.list_version.proofs.LastInAnyOrder.{standing, last-stands}

-- ---- from the members qs, where ms are the Sets of the object

abbrev pub names_from : List Edit → List Edit → List ℕ
names_from ms qs = ascending (map name_of (filter (is_disputed ms) qs))

unfoldable pub settings_from : List Edit → ℕ → List ℕ
settings_from qs zero = []
settings_from qs (suc k) = settings_from qs k ++ setting_text k (last_after [] (filter (has_key k) qs))

abbrev pub line_from : Edit → List Edit → List Edit → List ℕ
line_from c ms qs =
    dotted c.site.0 c.seq.0
    ++ ((space ∷ identifier_text (names_from ms qs)) ++ (settings_from qs keys ++ (newline ∷ [])))

settings-from : (ms : List Edit) (g k : ℕ) → settings_text ms g k ≡ settings_from (members_of ms g) k
unfolding settings_text settings_from last_with
settings-from ms g zero = refl
settings-from ms g (suc k) = rw (settings-from ms g k)

pub identifier-from : (ms : List Edit) (g : ℕ) → identifier_of ms g ≡ names_from ms (members_of ms g)
unfolding identifier_of
identifier-from ms g = refl

pub line-from : (c : Edit) (ms : List Edit) (g : ℕ) → version_line c ms g ≡ line_from c ms (members_of ms g)
unfolding version_line
line-from c ms g = rw (identifier-from ms g, settings-from ms g keys)

-- ---- in any order

ascending-any-order : {xs ys : List ℕ} → Rearranged xs ys → ascending xs ≡ ascending ys
ascending-any-order {xs} {ys} r =
    ascending-unique (ascending xs) (ascending ys) (is-ascending xs) (is-ascending ys) (over r) (over (turned r))
  where
    over : {xs ys : List ℕ} → Rearranged xs ys → (x : ℕ) → elem x (ascending xs) ≡ true → elem x (ascending ys) ≡ true
    over {xs} {ys} r x e =
        any-ascending (eqb x) ys ∙ sym (any-rearranged (eqb x) r) ∙ sym (any-ascending (eqb x) xs) ∙ e

disputed-any-order : {ms ns : List Edit} → Rearranged ms ns → is_disputed ms ≡ is_disputed ns
unfolding is_disputed
disputed-any-order r = fun_ext (λ m. any-rearranged (do_conflict m) r)

-- what is shown for a key
shown-any-order :
    (k : ℕ) {xs ys : List Edit} → Rearranged xs ys →
    setting_text k (last_after [] xs) ≡ setting_text k (last_after [] ys)
unfolding setting_text
shown-any-order k {xs} {ys} r = go (last_after [] xs) (last_after [] ys) (last-stands r [])
  where
    go : (p q : List Edit) → map standing p ≡ map standing q → setting_text k p ≡ setting_text k q
    go [] [] e = refl
    go [] (b ∷ q) e = absurd (omega (arith, ap length e))
    go (a ∷ p) [] e = absurd (omega (arith, ap length e))
    go (a ∷ p) (b ∷ q) e =
        let same : a.value ≡ b.value = ap (λ (l : List (List ℕ)). get_or (get_or l 0 []) 2 0) e in
        rw same

settings-any-order : {qs rs : List Edit} → Rearranged qs rs → (k : ℕ) → settings_from qs k ≡ settings_from rs k
unfolding settings_from
settings-any-order r zero = refl
settings-any-order r (suc k) =
    ap₂ (λ (a b : List ℕ). a ++ b) (settings-any-order r k) (shown-any-order k (chosen-rearranged (has_key k) r))

module _ {ms ns qs rs : List Edit} (r : Rearranged ms ns) (s : Rearranged qs rs) where
  pub names-any-order : names_from ms qs ≡ names_from ns rs
  names-any-order =
      ap (λ (f : Edit → Bool). ascending (map name_of (filter f qs))) (disputed-any-order r)
      ∙ ascending-any-order (made-rearranged name_of (chosen-rearranged (is_disputed ns) s))

  pub line-any-order : (c : Edit) → line_from c ms qs ≡ line_from c ns rs
  line-any-order c = rw (names-any-order, settings-any-order s keys)

-- ---- the members are those of the Sets that pass the test of the group

pub members-chosen :
    (ms : List Edit) → Distinct no_edit ms → (g : ℕ) → members_of ms g ≡ filter (set_of is_equal ms g) ms
unfolding members_of set_of
members-chosen ms u g =
    let at : ℕ → Edit = λ i. get_or ms i no_edit in
    let test : Edit → Bool = set_of is_equal ms g in
    let holds : (i : ℕ) → i < length ms → bit g i ≡ test (at i) = λ i l.
    rw (has-at no_edit is_equal equal-at equal-self ms i l, place-of no_edit is_equal equal-at equal-self ms u i l) in
    ap (map at) (keep_same (length ms) (bit g) (λ i. true && test (at i)) holds)
    ∙ sym (filter-keep test at (λ i. true) (length ms))
    ∙ ap (filter test) (all-places no_edit ms)
