-- Demand 2, values: in a faithful drawing the members of one key that no other member of that key comes after all have
-- one value, and the member that is last in the total order is one of them. Assumes nothing.
use mathlib.Core.Path.{◌≡◌, sym, ap, ap₂, ◌∙◌}
use mathlib.Core.Logic.{inl, inr}
use mathlib.Core.Bool.{true, false, not, ◌&&◌}
use mathlib.Core.List.{List}
use Prim.Native.Nat.{ℕ, ◌<◌}
use native.Mathlib.Omega.{arith}
use lib.ListN.{length, get_or}
use lib.Dec.{eqb}
use borrow.Author.Tests.{eqb-true, eq-eqb}
use Rattle.math_lists.specs.SortedLists.{elem}
use Rattle.math_lists.proofs.Booleans.{clash, decide, off, both, and-on}
use Rattle.math_lists.proofs.LastBelow.{last}
use Rattle.math_lists.proofs.ByPlaces.{filter-place}
use Rattle.edit_record.specs.declared.Site.{Site}
use Rattle.edit_record.specs.declared.Seq.{Seq}
use Rattle.edit_record.specs.declared.Edit.{Edit}
use Rattle.edit_record.specs.Answer1.{is_set}
use Rattle.edit_causal.proofs.CausalLaws.{same-reflexive}
use Rattle.edit_causal.specs.Causal.{same_edit, comes_before, are_concurrent}
use Rattle.edit_causal.specs.ShownValue.{shown_value}
use Rattle.edit_causal.specs.Conflict.{do_conflict}
use Rattle.edit_causal.specs.TotalOrder.{ranks_before}
use Rattle.math_maximal.specs.Groups.{bit}
use Rattle.edit_history.specs.EditsHeld.{record_at, is_set_on, sets_on}
use Rattle.edit_history.proofs.EditsHeld.{edits-length}
use Rattle.edit_history.proofs.EditsByPlaces.{edits-at}
use Rattle.edit_history.proofs.RecordsPassed.{one_place}
use Rattle.edit_history.proofs.SeenRanksBefore.{before-ranks}
use Rattle.table_drawing.specs.Tables.{Tables, held_by}
use Rattle.table_soundness.proofs.SoundFacts.{Sound}
use Rattle.edit_record.specs.RecordBytes.{no_edit}
use Rattle.group_true.specs.TrueGroups.{true_groups}
use Rattle.group_true.proofs.GroupsGrow.{members-free}
use Rattle.edit_causal.proofs.Identities.{same_parts}

-- ---- a version's members

module _ (t : Tables) (s : Sound t) (c : Edit) (g : ℕ) (e : elem g (true_groups (held_by t) c) ≡ true) where
  abbrev ms : List Edit
  ms = sets_on c.site c.seq (held_by t)

  -- the i-th Set of the object
  abbrev at : ℕ → Edit
  at i = get_or ms i no_edit

  -- it is a member of the group and has key k
  pub record Member (k i : ℕ) : Type 0 where
    pub low : i < length ms
    pub held : bit g i ≡ true
    pub key : (at i).key ≡ k

  -- no other member of its key comes after it; and none stands after it in the total order
  abbrev pub Undone : ℕ → ℕ → Type 0
  Undone k i = (j : ℕ) → Member k j → comes_before (at i) (at j) ≡ false

  abbrev pub Last : ℕ → ℕ → Type 0
  Last k i = (j : ℕ) → Member k j → ranks_before (at i) (at j) ≡ false

  -- ---- where it stands in the table

  pub record Stands (i : ℕ) : Type 0 where
    pub place : ℕ
    pub low : place < t.counters.records
    pub same : record_at t.records place ≡ at i
    pub on : is_set_on c.site c.seq (at i) ≡ true

  stands : (i : ℕ) → i < length ms → Stands i
  unfolding sets_on
  stands i l =
      let n = t.counters.records in
      let (j, m, e, q) = filter-place (is_set_on c.site c.seq) no_edit (held_by t) i l in
      let k : j < n = omega (arith, edits-length t.records n) in
      record { place = j; low = k; same = sym (edits-at no_edit t.records n j k) ∙ e; on = q }

  -- ---- the value is one

  module _ (k i j : ℕ) (mi : Member k i) (mj : Member k j) where
    x : Stands i
    x = stands i mi.low

    y : Stands j
    y = stands j mj.low

    -- one identity, one edit
    same-value : same_edit (at i).site (at i).seq (at j).site (at j).seq ≡ true → (at i).value ≡ (at j).value
    same-value h =
        let (hs, hq) = same_parts (at i).site (at i).seq (at j).site (at j).seq h in
        let places : x.place ≡ y.place
        = one_place t.counters.sites t.records t.counters.records s.pass x.place y.place x.low
        y.low
        (ap (λ (a : Edit). a.site.0) x.same ∙ ap (λ (z : Site). z.0) hs ∙ sym
        (ap (λ (a : Edit). a.site.0) y.same))
        (ap (λ (a : Edit). a.seq.0) x.same ∙ ap (λ (z : Seq). z.0) hq ∙ sym
        (ap (λ (a : Edit). a.seq.0) y.same)) in
        ap (λ (a : Edit). a.value) (sym x.same ∙ ap (record_at t.records) places ∙ y.same)

    -- members of a group do not conflict
    no-conflict : do_conflict (at i) (at j) ≡ false
    unfolding true_groups
    no-conflict = members-free ms g e i j mi.held mj.held

    -- two Sets of the object with one key, neither before the other, conflict if their values differ
    conflict-if :
        same_edit (at i).site (at i).seq (at j).site (at j).seq ≡ false → comes_before (at i) (at j) ≡ false →
        comes_before (at j) (at i) ≡ false → eqb (shown_value k (at i).value) (shown_value k (at j).value) ≡ false →
        do_conflict (at i) (at j) ≡ true
    conflict-if d ab ba v =
        let (si, oi) = both (is_set (at i)) (same_edit (at i).tsite (at i).tseq c.site c.seq) x.on in
        let (sj, oj) = both (is_set (at j)) (same_edit (at j).tsite (at j).tseq c.site c.seq) y.on in
        let (is, iq) = same_parts (at i).tsite (at i).tseq c.site c.seq oi in
        let (js, jq) = same_parts (at j).tsite (at j).tseq c.site c.seq oj in
        let object : same_edit (at i).tsite (at i).tseq (at j).tsite (at j).tseq ≡ true
        = ap₂ (λ (u : Site) (w : Seq). same_edit u w (at j).tsite (at j).tseq) is iq
        ∙ ap₂ (λ (u : Site) (w : Seq). same_edit c.site c.seq u w) js jq
        ∙ same-reflexive c.site c.seq in
        let keys : eqb (at i).key (at j).key ≡ true = eq-eqb (at i).key (at j).key (mi.key ∙ sym mj.key) in
        let same = same_edit (at i).site (at i).seq (at j).site (at j).seq in
        let concurrent : are_concurrent (at i) (at j) ≡ true
        = and-on (not same && not (comes_before (at i) (at j))) (not (comes_before (at j) (at i)))
        (and-on (not same) (not (comes_before (at i) (at j))) (ap not d) (ap not ab)) (ap not ba) in
        rw (si, sj, concurrent, object, keys, mi.key, mj.key, v)

    pub one_value : Undone k i → Undone k j → shown_value k (at i).value ≡ shown_value k (at j).value
    one_value ui uj =
        elim (decide (same_edit (at i).site (at i).seq (at j).site (at j).seq)) [
          | inl h ↦ ap (shown_value k) (same-value h)
          | inr d ↦
              elim (decide (eqb (shown_value k (at i).value) (shown_value k (at j).value))) [
                | inl v ↦ eqb-true (shown_value k (at i).value) (shown_value k (at j).value) v
                | inr v ↦ clash (conflict-if d (ui j mj) (uj i mi) v) no-conflict
              ]
        ]

  -- the member that is last in the total order is one that no other comes after
  pub last-undone : (k i : ℕ) → Member k i → Last k i → Undone k i
  last-undone k i mi last j mj =
      let x = stands i mi.low in
      let y = stands j mj.low in
      off (comes_before (at i) (at j)) (λ h.
      clash
      (ap₂ ranks_before (sym x.same) (sym y.same)
      ∙ before-ranks t.counters.sites s.few-sites t.records t.counters.records s.pass x.place
      y.place
      x.low y.low (ap₂ comes_before x.same y.same ∙ h))
      (last j mj))
