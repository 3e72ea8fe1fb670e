-- The Sets of an object, among edits that pass 1 to 5 in their order, are a lawful box: having seen goes through.
-- Where they pass 16 as well, they are a box as the laws of contexts ask for it: each that is limited names a version.
-- By one edit more, so that it holds of the edits of a table and of an arriving one after them. Assumes at most 16
-- sites.
use mathlib.Core.Path.{◌≡◌, refl, sym, ap, ap₂, subst, ◌∙◌}
use mathlib.Core.Logic.{◌⊎◌, inl, inr}
use mathlib.Core.Bool.{Bool, true, false, not, cond, and-false}
use mathlib.Core.List.{List, [], ◌∷◌, ◌++◌, append-nil}
use Prim.Native.Nat.{ℕ, zero, suc, ◌+◌, ◌≤◌, ◌<◌}
use native.Mathlib.Omega.{arith}
use lib.ListN.{length, get_or, length-append, get_or-append}
use lib.Seq.{get_or-append_seam}
use lib.Dec.{eqb}
use borrow.Author.Tests.{eqb-true, leb-true, le-leb, ltb-false, not-true}
use Rattle.math_lists.specs.NumbersBelow.{all}
use Rattle.math_lists.specs.SortedLists.{any, filter}
use Rattle.math_lists.proofs.Booleans.{clash, decide, off, both, neither, eqb-self}
use Rattle.math_lists.proofs.NumbersBelow.{none-at}
use Rattle.math_lists.proofs.ByPlaces.{filter-place, any-place-on}
use Rattle.math_lists.proofs.GrownAtEnd.{filter-snoc, filter-length-snoc}
use Rattle.math_lists.proofs.LastBelow.{last}
use Rattle.math_contexts.specs.Box.{Lawful}
use Rattle.math_contexts.specs.BoxByArrival.{rel}
use Rattle.math_contexts.specs.NamedVersions.{names_none}
use Rattle.math_contexts.specs.Versions.{AllNamed}
use Rattle.math_contexts.proofs.ConflictsNamed.{names-none-later}
use Rattle.edit_record.specs.declared.Site.{Site}
use Rattle.edit_record.specs.declared.Seq.{Seq}
use Rattle.edit_record.specs.declared.Edit.{Edit}
use Rattle.edit_record.specs.Layout.{most_sites}
use Rattle.edit_record.specs.RecordBytes.{no_edit}
use Rattle.edit_record.specs.Answer1.{is_set, is_limited}
use Rattle.edit_causal.specs.Causal.{same_edit, has_seen}
use Rattle.edit_causal.specs.Conflict.{do_conflict, listed_by, box_on}
use Rattle.edit_causal.specs.ConflictForms.{Proper, saw}
use Rattle.edit_causal.proofs.CausalLaws.{conflict-symmetric, conflict-irreflexive}
use Rattle.edit_causal.proofs.ConflictsAmongSets.{first-sets}
use Rattle.edit_causal.proofs.Identities.{same_parts}
use Rattle.edit_history.specs.EditsHeld.{record_at, edits_of, count_from, is_set_on, sets_on}
use Rattle.edit_history.specs.Answers2to5.{larger_somewhere, tears, is_torn, passes, records_pass}
use Rattle.edit_history.specs.Answer16.{is_strange, nameless_among, is_nameless, records_named}
use Rattle.edit_history.proofs.RecordsPassed.{Passed, passed}

-- ---- one of some edits has been seen by another

-- no Set conflicts with one that it has seen
pub seen-agrees : (x y : Edit) → saw x y ≡ true → do_conflict x y ≡ false
seen-agrees x y h = rw h (simp and-false)

-- an edit held: its site has an entry, and its sequence number is counted
abbrev Held : List Edit → Edit → Type 0
Held es a = (a.site.0 < most_sites) × (a.seq.0 ≤ count_from a.site.0 es)

module _ (sites : ℕ) (few : sites ≤ most_sites) (es : List Edit) (e : Edit) (p : Passed sites es e) where
  -- an arriving edit has seen what the authors of those that it has seen had seen
  through :
      (j : ℕ) → j < length es → (z : Edit) → Held es z → saw e (get_or es j no_edit) ≡ true →
      saw (get_or es j no_edit) z ≡ true → saw e z ≡ true
  unfolding is_torn larger_somewhere
  through j l z (site, counted) h k =
      let y = get_or es j no_edit in
      let (_, sy) = both (not (same_edit y.site y.seq e.site e.seq))
      (has_seen e.vector y.site y.seq) h in
      let (_, sz) = both (not (same_edit z.site z.seq y.site y.seq))
      (has_seen y.vector z.site z.seq) k in
      let calm : larger_somewhere y.vector e.vector ≡ false
      = off (larger_somewhere y.vector e.vector) (λ t.
      clash (any-place-on (tears e) no_edit es j l (rw (sy, t))) p.whole) in
      let up = ltb-false (get_or e.vector z.site.0 0) (get_or y.vector z.site.0 0)
      (none-at most_sites _ calm z.site.0 site) in
      let seen : has_seen e.vector z.site z.seq ≡ true
      = le-leb z.seq.0 (get_or e.vector z.site.0 0)
      (omega (arith, leb-true z.seq.0 (get_or y.vector z.site.0 0) sz)) in
      let other : same_edit z.site z.seq e.site e.seq ≡ false
      = off (same_edit z.site z.seq e.site e.seq) (λ s.
      let (u, v) = both (eqb z.site.0 e.site.0) (eqb z.seq.0 e.seq.0) s in
      let same : count_from z.site.0 es ≡ count_from e.site.0 es
      = ap (λ (x : ℕ). count_from x es) (eqb-true z.site.0 e.site.0 u) in
      omega (arith, p.in_turn.next, eqb-true z.seq.0 e.seq.0 v)) in
      rw (other, seen)

-- ---- the Sets of an object, and one more

module _ (ms : List Edit) (e : Edit) where
  abbrev ns : List Edit
  ns = ms ++ (e ∷ [])

  old : (i : ℕ) → i < length ms → get_or ns i no_edit ≡ get_or ms i no_edit
  old i l = get_or-append ms (e ∷ []) no_edit i l

  long : length ns ≡ suc (length ms)
  long = omega (arith, length-append ms (e ∷ []))

  lawful-snoc :
      Lawful (box_on ms) (length ms) →
      ((j k : ℕ) → j < length ms → k < j → saw e (get_or ms j no_edit) ≡ true →
      saw (get_or ms j no_edit) (get_or ms k no_edit) ≡ true → saw e (get_or ms k no_edit) ≡ true) →
      Lawful (box_on ns) (length ns)
  unfolding rel
  lawful-snoc law thru = record {
    symmetric = λ i j. conflict-symmetric (get_or ns i no_edit) (get_or ns j no_edit);
    irreflexive = λ i. conflict-irreflexive (get_or ns i no_edit);
    transitive = λ i j k l m o h f. elim (last (rw long at l)) [
      | inl b ↦
          rw (old i b, old k (omega arith))
          (law.transitive i j k b m o (rw (old i b, old j (omega arith)) at h)
          (rw (old j (omega arith), old k (omega arith)) at f))
      | inr q ↦
          (let mine : get_or ns i no_edit ≡ e = rw q (get_or-append_seam ms e [] no_edit) in
          rw (mine, old k (omega arith))
          (thru j k (omega arith) o (rw (mine, old j (omega arith)) at h)
          (rw (old j (omega arith), old k (omega arith)) at f)))
    ];
    compatible = λ i j l m h. seen-agrees (get_or ns i no_edit) (get_or ns j no_edit) h;
  }

  pub named-snoc :
      AllNamed (box_on ms) (length ms) → names_none (box_on ns) (length ms) ≡ false → AllNamed (box_on ns) (length ns)
  named-snoc all h i l = elim (last (rw long at l)) [
    | inl b ↦ names-none-later (first-sets ms (e ∷ [])) i b ∙ all i b
    | inr q ↦ rw q h
  ]

-- ---- 16, to one edit

-- 16 is not given to an edit that is not limited
pub plain-named : (ms : List Edit) (e : Edit) → is_limited e ≡ false → nameless_among ms e ≡ false
unfolding nameless_among
plain-named ms e h = rw h

-- what 16 leaves: a limited edit lists no strange name, and names a version; one that is not limited names one anyway
pub named-version :
    (ms : List Edit) (e : Edit) → nameless_among ms e ≡ false → names_none (box_on (ms ++ (e ∷ []))) (length ms) ≡ false
unfolding nameless_among names_none rel
named-version ms e h = go (is_limited e) refl
  where
    go : (t : Bool) → is_limited e ≡ t → names_none (box_on (ms ++ (e ∷ []))) (length ms) ≡ false
    go true t = (neither (any (is_strange ms e) (listed_by e)) (names_none (box_on (ms ++ (e ∷ []))) (length ms))
        (rw t at h)).1
    go false t = rw (get_or-append_seam ms e [] no_edit, t)

-- ---- edits that pass 1 to 5 in their order

pub record InOrder (es : List Edit) : Type 0 where
  pub held : (i : ℕ) → i < length es → Held es (get_or es i no_edit)
  pub lawful : (s : Site) (q : Seq) → Lawful (box_on (sets_on s q es)) (length (sets_on s q es))

in-order-none : InOrder []
unfolding sets_on filter
in-order-none = record {
  held = λ i l. absurd (omega arith);
  lawful = λ s q. record {
    symmetric = λ i j. unfold rel in conflict-symmetric (get_or [] i no_edit) (get_or [] j no_edit);
    irreflexive = λ i. unfold rel in conflict-irreflexive (get_or [] i no_edit);
    transitive = λ i j k l. absurd (omega arith);
    compatible = λ i j l. absurd (omega arith);
  };
}

-- with one more, the Sets of an object have it as well, if it is one of them
sets_more :
    (es : List Edit) (e : Edit) (s : Site) (q : Seq) →
    sets_on s q (es ++ (e ∷ [])) ≡ sets_on s q es ++ cond (is_set_on s q e) (e ∷ []) []
unfolding sets_on
sets_more es e s q = filter-snoc (is_set_on s q) es e

module _ (sites : ℕ) (few : sites ≤ most_sites) (es : List Edit) (e : Edit) (o : InOrder es)
    (pass : passes sites es e ≡ true) where
  p : Passed sites es e
  p = passed sites es e pass

  lawful-with : (s : Site) (q : Seq) → Lawful (box_on (sets_on s q es ++ (e ∷ []))) (length (sets_on s q es ++ (e ∷ [])))
  unfolding sets_on
  lawful-with s q =
      let f = is_set_on s q in
      lawful-snoc (filter f es) e (o.lawful s q) (λ j k l m h g.
      let (x, lx, ex, _) = filter-place f no_edit es j l in
      let (y, ly, ey, _) = filter-place f no_edit es k (omega arith) in
      rw (← ey)
      (through sites few es e p x lx (get_or es y no_edit) (o.held y ly) (rw (← ex) at h) (rw (← ex, ← ey) at g)))

  held_after : (i : ℕ) → i < length (es ++ (e ∷ [])) → Held (es ++ (e ∷ [])) (get_or (es ++ (e ∷ [])) i no_edit)
  held_after i l =
      let more : (x : ℕ) → count_from x (es ++ (e ∷ [])) ≡ count_from x es + cond (eqb e.site.0 x) 1 0
      = λ x. unfold count_from in filter-length-snoc (λ a. eqb a.site.0 x) es e in
      elim (last (rw (long es e) at l)) [
        | inl b ↦
            (let a = get_or es i no_edit in
            rw (old es e i b) ((o.held i b).0, omega (arith, (o.held i b).1, more a.site.0)))
        | inr q ↦
            (let own : eqb e.site.0 e.site.0 ≡ true = eqb-self e.site.0 in
            rw (q, get_or-append_seam es e [] no_edit)
            (omega (arith, p.in_turn.formed.site), omega (arith, p.in_turn.next, rw own at (more e.site.0))))
      ]

  in-order-more : InOrder (es ++ (e ∷ []))
  in-order-more = record {
    held = held_after;
    lawful = λ s q. subst (λ (ms : List Edit). Lawful (box_on ms) (length ms)) (sym (sets_more es e s q))
        (go s q (decide (is_set_on s q e)));
  }
    where
      go : (s : Site) (q : Seq) → (is_set_on s q e ≡ true) ⊎ (is_set_on s q e ≡ false) →
          (let ms = sets_on s q es ++ cond (is_set_on s q e) (e ∷ []) [] in Lawful (box_on ms) (length ms))
      go s q (inl k) = rw k (lawful-with s q)
      go s q (inr k) = rw (k, append-nil (sets_on s q es)) (o.lawful s q)

-- ---- edits that pass 16 as well

pub record Orderly (es : List Edit) : Type 0 where
  pub held : (i : ℕ) → i < length es → Held es (get_or es i no_edit)
  pub boxes : (s : Site) (q : Seq) → Proper (sets_on s q es)

in_order_lem : {es : List Edit} → Orderly es → InOrder es
in_order_lem o = record { held = o.held; lawful = λ s q. (o.boxes s q).lawful }

pub orderly-none : Orderly []
unfolding sets_on filter
orderly-none = record {
  held = in-order-none.held;
  boxes = λ s q. record { lawful = in-order-none.lawful s q; named = λ i l. absurd (omega arith) };
}

module _ (sites : ℕ) (few : sites ≤ most_sites) (es : List Edit) (e : Edit) (o : Orderly es)
    (pass : passes sites es e ≡ true) where
  -- the Sets of any object with the edit, if it is one of them, are lawful
  pub lawful-after :
      (s : Site) (q : Seq) → Lawful (box_on (sets_on s q es ++ (e ∷ []))) (length (sets_on s q es ++ (e ∷ [])))
  lawful-after = lawful-with sites few es e (in_order_lem o) pass

  pub orderly-more : is_nameless es e ≡ false → Orderly (es ++ (e ∷ []))
  orderly-more h = record {
    held = held_after sites few es e (in_order_lem o) pass;
    boxes = λ s q. subst Proper (sym (sets_more es e s q)) (go s q (decide (is_set_on s q e)));
  }
    where
      go : (s : Site) (q : Seq) → (is_set_on s q e ≡ true) ⊎ (is_set_on s q e ≡ false) →
          Proper (sets_on s q es ++ cond (is_set_on s q e) (e ∷ []) [])
      go s q (inl k) =
          let (_, on) = both (is_set e) (same_edit e.tsite e.tseq s q) k in
          let (x, y) = same_parts e.tsite e.tseq s q on in
          rw k (record {
            lawful = lawful-after s q;
            named = named-snoc (sets_on s q es) e (o.boxes s q).named
                (named-version (sets_on s q es) e
                (subst (λ (xs : List Edit). nameless_among xs e ≡ false)
                (ap₂ (λ (u : Site) (v : Seq). sets_on u v es) x y) h));
          })
      go s q (inr k) = rw (k, append-nil (sets_on s q es)) (o.boxes s q)

-- ---- the edits of a table

pub in-order-table :
    (sites : ℕ) → sites ≤ most_sites → (rs : List ℕ) (n : ℕ) → records_pass sites rs n ≡ true → InOrder (edits_of rs n)
unfolding edits_of records_pass all
in-order-table sites few rs zero pass = in-order-none
in-order-table sites few rs (suc n) pass =
    let (pass', here) = both (records_pass sites rs n) (passes sites (edits_of rs n) (record_at rs n)) pass in
    in-order-more sites few (edits_of rs n) (record_at rs n) (in-order-table sites few rs n pass') here

pub orderly-table :
    (sites : ℕ) → sites ≤ most_sites → (rs : List ℕ) (n : ℕ) → records_pass sites rs n ≡ true →
    records_named rs n ≡ true → Orderly (edits_of rs n)
unfolding edits_of records_pass records_named all
orderly-table sites few rs zero pass named = orderly-none
orderly-table sites few rs (suc n) pass named =
    let (pass', here) = both (records_pass sites rs n) (passes sites (edits_of rs n) (record_at rs n)) pass in
    let (named', own) = both (records_named rs n) (not (is_nameless (edits_of rs n) (record_at rs n))) named in
    orderly-more sites few (edits_of rs n) (record_at rs n) (orderly-table sites few rs n pass' named') here
    (not-true (is_nameless (edits_of rs n) (record_at rs n)) own)
