-- Demand 3, the lines of one object: they are the same in every causal order of the same edits. Assumes that the edits
-- are settled.
use mathlib.Core.Path.{◌≡◌, sym, ap, ap₂, subst, ◌∙◌}
use mathlib.Core.Logic.{inl, inr}
use mathlib.Core.Bool.{Bool, true, false}
use mathlib.Core.List.Memᴰ
use mathlib.Core.List.{List, map, map-map}
use Prim.Native.Nat.{ℕ, ◌≤◌, ◌<◌}
use native.Mathlib.Omega.{arith}
use lib.Dec.{eqb, ltb}
use lib.ListN.{length}
use borrow.Author.Tests.{ltb-true}
use Rattle.math_lists.specs.SortedLists.{elem, filter, Asc}
use Rattle.math_lists.proofs.Booleans.{clash}
use Rattle.math_lists.proofs.Elements.{elem→mem, mem→elem}
use Rattle.edit_record.specs.declared.Edit.{Edit}
use Rattle.edit_record.specs.Layout.{most_sites}
use Rattle.edit_causal.specs.Conflict.{conflicts_in}
use Rattle.edit_causal.specs.ConflictForms.{Proper}
use Rattle.math_maximal.specs.Groups.{every}
use Rattle.math_maximal.proofs.Groups.{groups-ascending}
use Rattle.math_maximal.proofs.AnotherOrder.{set_of, Distinct}
use Rattle.math_maximal.proofs.Renumbered.{Keys}
use Rattle.edit_history.specs.EditsHeld.{is_set_on, sets_on}
use Rattle.edit_record.specs.RecordBytes.{no_edit}
use Rattle.group_true.specs.TrueGroups.{groups_of, true_groups}
use Rattle.math_lists.specs.Rearranged.{Mem, Rearranged}
use Rattle.demand_any_order.specs.Settled.{Causal, Settled}
use Rattle.group_true.specs.EqualEdits.{is_equal}
use Rattle.math_lists.proofs.Rearranged.{turned, unchanged, chosen-rearranged}
use Rattle.math_lists.proofs.PairsInList.{pairs_made, pairs-weaken}
use Rattle.group_true.proofs.Identities.{sets-distinct}
use Rattle.demand_any_order.proofs.SettledBoxes.{ordered, box-lawful}
use Rattle.demand_any_order.proofs.SettledAnyOrder.{settled-in-any-order}
use Rattle.demand_any_order.proofs.SameGroups.{same_keys}
use Rattle.list_version.specs.Identifier.{identifier_of}
use Rattle.list_version.specs.VersionOrder.{is_ahead, versions_of}
use Rattle.list_line.specs.Line.{version_line, object_lines}
use Rattle.list_version.proofs.ListsCompared.{Before, lex-told, before-through, lex-irreflexive}
use Rattle.list_version.proofs.VersionsSorted.{same_versions, versions-sorted}
use Rattle.list_version.proofs.IdentifiersGrow.{NamesDiffer}
use Rattle.list_version.proofs.NeverShared.{never-shared, names_apart}
use Rattle.list_line.proofs.LineFromMembers.{names_from, line_from, identifier-from, line-from, names-any-order}
use Rattle.list_line.proofs.LineFromMembers.{line-any-order, members-chosen}

-- ---- a version by its identifier and its line

abbrev Printed : Type 0
Printed = List ℕ × List ℕ

abbrev Ahead : Printed → Printed → Type 0
Ahead a b = Before false a.0 b.0

ahead-irreflexive : (a : Printed) → Ahead a a → ⊥
ahead-irreflexive a h = clash h (lex-irreflexive a.0)

ahead-through : (a b d : Printed) → Ahead a b → Ahead b d → Ahead a d
ahead-through a b d = before-through a.0 b.0 d.0

module _ (c : Edit) (ms : List Edit) where
  abbrev printed : ℕ → Printed
  printed g = (identifier_of ms g, version_line c ms g)

  abbrev gs : List ℕ
  gs = groups_of ms

  abbrev entries : List Printed
  entries = map printed (versions_of ms gs)

  lines_are : object_lines c ms gs ≡ map (λ (p : Printed). p.1) entries
  unfolding object_lines
  lines_are = sym (map-map (λ (p : Printed). p.1) printed (versions_of ms gs))

  of-groups : (g : ℕ) → Mem g (versions_of ms gs) → elem g gs ≡ true
  of-groups g m = sym (same_versions ms (eqb g) gs) ∙ mem→elem m

  -- they stand in the order of their identifiers, of which none is shared
  entries_sorted : Proper ms → NamesDiffer ms → Asc Ahead entries
  unfolding groups_of is_ahead
  entries_sorted proper differ =
      pairs_made Ahead printed (versions_of ms gs)
      (pairs-weaken (λ g h. is_ahead ms g h ≡ true) (λ g h. Ahead (printed g) (printed h)) (versions_of ms gs)
      (λ g h m k a. elim (lex-told (ltb g h) (identifier_of ms g) (identifier_of ms h) a) [
        | inl b ↦ b
        | inr (e, l) ↦
            (let one : g ≡ h = never-shared ms proper differ g h (of-groups g m) (of-groups h k) e in
            let less : g < h = ltb-true g h l in
            absurd (omega arith))
      ])
      (versions-sorted ms gs (groups-ascending (conflicts_in ms) (length ms) every)))

  entries-keys : (key : ℕ → Printed) → ((g : ℕ) → printed g ≡ key g) → Keys key gs entries
  entries-keys key e x = (
    (λ w. let (g, m, q) = Memᴰ.of_map printed (versions_of ms gs) w in (g, of-groups g m, sym (e g) ∙ q)),
    (λ (g, m, q).
        subst (λ (y : Printed). Mem y entries) (e g ∙ q)
        (Memᴰ.map printed (elem→mem g (versions_of ms gs) (same_versions ms (eqb g) gs ∙ m)))),
  )

-- ---- the lines

module _ (n : ℕ) (few : n ≤ most_sites) (es fs : List Edit) (r : Rearranged es fs) (s : Settled n es)
    (causal : Causal es) (causal' : Causal fs) (c : Edit) where
  abbrev ms : List Edit
  ms = sets_on c.site c.seq es

  abbrev ns : List Edit
  ns = sets_on c.site c.seq fs

  sets-rearranged : Rearranged ms ns
  unfolding sets_on
  sets-rearranged = chosen-rearranged (is_set_on c.site c.seq) r

  -- they are settled in that order too
  s' : Settled n fs
  s' = settled-in-any-order n few es fs r s causal causal'

  proper : (ls : List Edit) (z : Settled n ls) → Causal ls → Proper (sets_on c.site c.seq ls)
  proper ls z k =
      record {
        lawful = box-lawful n few ls (ordered n ls z) k c.site c.seq;
        named = z.versions c.site c.seq;
      }

  -- the members as a test, in the order of es
  key : (Edit → Bool) → Printed
  key P = (names_from ms (filter P ms), line_from c ms (filter P ms))

  key-is :
      (ls : List Edit) → Distinct no_edit ls → Rearranged ls ms → (g : ℕ) → printed c ls g ≡ key (set_of is_equal ls g)
  unfolding key
  key-is ls d q g =
      let P = set_of is_equal ls g in
      let chosen = chosen-rearranged P q in
      let members = members-chosen ls d g in
      ap₂ (λ (x y : List ℕ). (x, y))
      (identifier-from ls g ∙ ap (names_from ls) members ∙ names-any-order q chosen)
      (line-from c ls g ∙ ap (line_from c ls) members ∙ line-any-order q chosen c)

  pub any-order-lines : object_lines c ms (true_groups es c) ≡ object_lines c ns (true_groups fs c)
  unfolding true_groups
  any-order-lines =
      lines_are c ms
      ∙ ap (map (λ (p : Printed). p.1))
      (same_keys n few es fs r (ordered n es s) (ordered n fs s') causal causal' c (s.versions c.site c.seq)
      Ahead ahead-irreflexive ahead-through key (entries c ms) (entries c ns)
      (entries_sorted c ms (proper es s causal) (names_apart es s.apart s.numbered c))
      (entries_sorted c ns (proper fs s' causal') (names_apart fs s'.apart s'.numbered c))
      (entries-keys c ms (λ g. key (set_of is_equal ms g)) (key-is ms (sets-distinct es s.apart c) (unchanged ms)))
      (entries-keys c ns (λ g. key (set_of is_equal ns g))
      (key-is ns (sets-distinct fs s'.apart c) (turned sets-rearranged))))
      ∙ sym (lines_are c ns)
