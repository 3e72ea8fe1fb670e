-- The Sets of an object, among edits that have no order in them but a causal one, are a lawful box whose order is
-- causal. Assumes at most 16 sites.
use mathlib.Core.Path.{◌≡◌, sym, ap, ◌∙◌}
use mathlib.Core.Bool.{true, false, not}
use mathlib.Core.List.{List}
use Prim.Native.Nat.{ℕ, ◌≤◌, ◌<◌}
use native.Mathlib.Omega.{arith}
use native.Mathlib.Decide.{dec_lt}
use lib.ListN.{length, get_or}
use borrow.Author.Tests.{leb-true, le-leb, ltb-false}
use Rattle.math_lists.specs.SortedLists.{elem, filter}
use Rattle.math_lists.proofs.Booleans.{clash, off, both}
use Rattle.math_lists.proofs.NumbersBelow.{none-at}
use Rattle.math_lists.proofs.PairsInList.{pairs-at, pairs-chosen}
use Rattle.math_lists.proofs.ListMembers.{mem-place, place-of, chosen_at}
use Rattle.math_contexts.specs.Box.{Lawful}
use Rattle.math_contexts.specs.Box as box
use Rattle.math_contexts.specs.BoxByArrival.{rel}
use Rattle.math_contexts.proofs.LawfulBox.{lawful-box}
use Rattle.edit_record.specs.declared.Site.{Site}
use Rattle.edit_record.specs.declared.Seq.{Seq}
use Rattle.edit_record.specs.declared.Edit.{Edit}
use Rattle.edit_record.specs.Layout.{most_sites, two_bytes}
use Rattle.edit_record.specs.RecordBytes.{no_edit}
use Rattle.edit_record.specs.Answer1.{is_limited, unfit, name_of}
use Rattle.edit_record.proofs.WellFormed.{well-formed}
use Rattle.edit_causal.specs.Causal.{same_edit, has_seen, comes_before}
use Rattle.edit_causal.specs.Conflict.{do_conflict, lists, listed_by, box_on}
use Rattle.edit_causal.specs.ConflictForms.{saw}
use Rattle.edit_causal.proofs.CausalLaws.{before-irreflexive, conflict-symmetric, conflict-irreflexive}
use Rattle.edit_history.specs.EditsHeld.{is_set_on, sets_on}
use Rattle.edit_history.specs.Answers2to5.{larger_somewhere, tears}
use Rattle.group_true.proofs.ProperSets.{seen-agrees}
use Rattle.math_lists.specs.Rearranged.{Mem}
use Rattle.demand_any_order.specs.Settled.{MayPrecede, Causal, SeqsFit, Known, Settled}
use Rattle.group_true.specs.Identities.{AllDiffer}
use Rattle.group_true.proofs.Identities.{same-on, one-edit}

-- what is asked of the edits, in any order
pub record Ordered (n : ℕ) (es : List Edit) : Type 0 where
  pub fit : (e : Edit) → Mem e es → unfit n e ≡ false
  pub apart : AllDiffer es
  pub whole : (a e : Edit) → Mem a es → Mem e es → tears e a ≡ false
  pub numbered : SeqsFit es
  pub known : Known es

pub ordered : (n : ℕ) (es : List Edit) → Settled n es → Ordered n es
ordered n es s =
    record {
      fit = s.fit;
      apart = s.apart;
      whole = s.whole;
      numbered = s.numbered;
      known = s.known;
    }

-- one name, one identity
names-told :
    (a b : Edit) → a.seq.0 < two_bytes → b.seq.0 < two_bytes → name_of a ≡ name_of b →
    same_edit a.site a.seq b.site b.seq ≡ true
names-told a b la lb h = same-on a b (omega arith) (omega arith)

module _ (n : ℕ) (few : n ≤ most_sites) (es : List Edit) (o : Ordered n es) (causal : Causal es) where
  -- two edits never come each before the other
  not-both : (x y : Edit) → Mem x es → Mem y es → comes_before x y ≡ true → comes_before y x ≡ true → ⊥
  not-both x y mx my h k = go (place-of no_edit mx) (place-of no_edit my)
    where
      go : (i : ℕ) × (i < length es) × (get_or es i no_edit ≡ x) → (j : ℕ) × (j < length es) × (get_or es j no_edit ≡ y) → ⊥
      go (i, li, ei) (j, lj, ej) = elim (dec_lt i j) [
        | yes l ↦ clash k (rw (ei, ej) at (pairs-at MayPrecede no_edit es causal i j l lj))
        | no l ↦ elim (dec_lt j i) [
          | yes m ↦ clash h (rw (ei, ej) at (pairs-at MayPrecede no_edit es causal j i m li))
          | no m ↦
              (let same : j ≡ i = omega arith in
              let one : y ≡ x = sym ej ∙ ap (λ (k : ℕ). get_or es k no_edit) same ∙ ei in
              clash (rw one at h) (before-irreflexive x))
        ]
      ]

  through :
      (x y z : Edit) → Mem x es → Mem y es → Mem z es → saw x y ≡ true → saw y z ≡ true → saw x z ≡ true
  unfolding larger_somewhere
  through x y z mx my mz h k =
      let (_, sy) = both (not (same_edit y.site y.seq x.site x.seq))
      (has_seen x.vector y.site y.seq) h in
      let (_, sz) = both (not (same_edit z.site z.seq y.site y.seq))
      (has_seen y.vector z.site z.seq) k in
      let calm : larger_somewhere y.vector x.vector ≡ false = rw sy at (o.whole y x my mx) in
      let site : z.site.0 < most_sites = omega (arith, (well-formed n z (o.fit z mz)).site) in
      let up = ltb-false (get_or x.vector z.site.0 0) (get_or y.vector z.site.0 0)
      (none-at most_sites _ calm z.site.0 site) in
      let seen : has_seen x.vector z.site z.seq ≡ true
      = le-leb z.seq.0 (get_or x.vector z.site.0 0)
      (omega (arith, leb-true z.seq.0 (get_or y.vector z.site.0 0) sz)) in
      let other : same_edit z.site z.seq x.site x.seq ≡ false
      = off (same_edit z.site z.seq x.site x.seq) (λ s.
      let one = one-edit es o.apart z x mz mx s in
      not-both y x my mx h (rw one at k)) in
      rw (other, seen)

  module _ (s : Site) (q : Seq) where
    abbrev ms : List Edit
    ms = sets_on s q es

    member : (i : ℕ) → i < length ms → Mem (get_or ms i no_edit) es
    unfolding sets_on
    member i l = (chosen_at (is_set_on s q) (get_or (filter (is_set_on s q) es) i no_edit) es (mem-place no_edit ms i l)).0

    pub box-lawful : Lawful (box_on ms) (length ms)
    box-lawful =
        lawful-box no_edit do_conflict saw lists is_limited conflict-symmetric conflict-irreflexive (λ x. Mem x es) through
        (λ x y _ _. seen-agrees x y) ms member (length ms) (omega arith)

    seen_first_lem :
        (i j : ℕ) → i < length ms → j < length ms → saw (get_or ms i no_edit) (get_or ms j no_edit) ≡ true → j < i
    unfolding sets_on
    seen_first_lem i j l k h =
        let before = pairs-chosen MayPrecede (is_set_on s q) es causal in
        elim (dec_lt j i) [
          | yes m ↦ m
          | no m ↦ elim (dec_lt i j) [
            | yes b ↦ clash h (pairs-at MayPrecede no_edit (filter (is_set_on s q) es) before i j b k)
            | no b ↦
                (let same : j ≡ i = omega arith in
                clash (rw same at h) (before-irreflexive (get_or (filter (is_set_on s q) es) i no_edit)))
          ]
        ]

    names-seen :
        (i j : ℕ) → i < length ms → j < length ms → lists (get_or ms i no_edit) (get_or ms j no_edit) ≡ true →
        saw (get_or ms i no_edit) (get_or ms j no_edit) ≡ true
    names-seen i j l k h =
        let a = get_or ms i no_edit in
        let b = get_or ms j no_edit in
        let (limited, listed) = both (is_limited a) (elem (name_of b) (listed_by a)) h in
        let (m, mem, _, seen, name) = o.known a (member i l) limited (name_of b) listed in
        let one = one-edit es o.apart m b mem (member j k)
        (names-told m b (o.numbered m mem) (o.numbered b (member j k)) name) in
        rw one at seen

    pub box-causal : box.CausalBox (box_on ms) (length ms)
    unfolding rel
    box-causal = record { seen_first = seen_first_lem; names_seen = names-seen }
