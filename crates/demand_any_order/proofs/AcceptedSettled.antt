-- A list of edits that is accepted throughout is settled, and its order is causal. Assumes at most sixteen sites.
use mathlib.Core.Path.{◌≡◌, refl, sym, ap, subst, ◌∙◌}
use mathlib.Core.Logic.{inl, inr}
use mathlib.Core.Bool.{Bool, true, false, not, ◌&&◌, and-false}
use mathlib.Core.List.Memᴰ
use mathlib.Core.List.{List, [], ◌∷◌, ◌++◌, append-nil}
use Prim.Native.Nat.{ℕ, ◌≤◌}
use native.Mathlib.Omega.{arith}
use lib.ListN.{length, get_or, length-append}
use lib.Seq.{append_snoc}
use lib.Dec.{ltb}
use lib.Dec.{eqb}
use borrow.Author.Tests.{lt-leb, le-ltb, eqb-true}
use Rattle.math_lists.specs.SortedLists.{any, filter, Asc}
use Rattle.math_lists.proofs.Booleans.{clash, decide, off, both, neither}
use Rattle.math_lists.proofs.Elements as numbers
use Rattle.math_lists.proofs.GrownAtEnd.{filter-few}
use Rattle.math_lists.proofs.NumbersBelow.{some-off}
use Rattle.edit_record.specs.declared.Edit.{Edit}
use Rattle.edit_record.specs.Layout.{most_sites}
use Rattle.edit_record.specs.Answer1.{is_create, is_set, unfit, name_of}
use Rattle.edit_record.proofs.WellFormed.{WellFormed, well-formed}
use Rattle.edit_causal.specs.Causal.{same_edit, comes_before, has_seen}
use Rattle.math_contexts.specs.NamedVersions.{names_none}
use Rattle.edit_causal.specs.Conflict.{listed_by, box_on}
use Rattle.edit_causal.specs.ConflictForms.{saw}
use Rattle.edit_history.specs.EditsHeld.{count_from, creates, is_set_on, sets_on, most_records}
use Rattle.edit_history.specs.Answer16.{is_strange, nameless_among}
use Rattle.edit_history.specs.Answers2to5.{larger_somewhere, tears}
use Rattle.group_step.specs.GroupRows.{most_objects, most_sets, most_groups}
use Rattle.group_true.specs.TrueGroups.{true_groups}
use Rattle.edit_causal.proofs.Identities.{same_parts}
use Rattle.table_arrival.proofs.UntouchedSound.{creates-snoc, sets-snoc}
use Rattle.group_true.proofs.TrueGroups.{groups-same, groups-first}
use Rattle.group_true.proofs.ProperSets.{Orderly, orderly-none, orderly-more}
use Rattle.math_lists.specs.Rearranged.{Mem}
use Rattle.demand_any_order.specs.Settled.{named, AllAccepted, MayPrecede, Causal}
use Rattle.group_true.specs.Identities.{Differ, AllDiffer}
use Rattle.demand_any_order.specs.Settled.{SeqsFit, Known, Settled}
use Rattle.math_lists.proofs.ListMembers.{any_at, chosen_at, split-mem, mem-along, mem-middle, fronts}
use Rattle.math_lists.proofs.PairsInList.{pairs-snoc, pairs-cross, pairs-weaken}
use Rattle.group_true.proofs.Identities.{same_at, seen-on, one-object}
use Rattle.demand_any_order.proofs.AnswerNought.{Fine, fine-at, fine-passes}
use Rattle.demand_any_order.proofs.CountsInTurn.{CountedInTurn, counted_none, counted-more}

-- a's author had not applied b
abbrev Unseen : Edit → Edit → Type 0
Unseen a b = has_seen a.vector b.site b.seq ≡ false

never-larger : (v : List ℕ) → larger_somewhere v v ≡ false
unfolding larger_somewhere
never-larger v =
    some-off most_sites (λ s. ltb (get_or v s 0) (get_or v s 0)) (λ s l. le-ltb (get_or v s 0) (get_or v s 0) (omega arith))

-- what a Set on an object is made of
set-on-at :
    (c e : Edit) → is_set_on c.site c.seq e ≡ true → (is_set e ≡ true) × (e.tsite ≡ c.site) × (e.tseq ≡ c.seq)
set-on-at c e h =
    let (s, on) = both (is_set e) (same_edit e.tsite e.tseq c.site c.seq) h in
    let (p, q) = same_parts e.tsite e.tseq c.site c.seq on in
    (s, p, q)

-- a has not seen b, so b does not come before a
unseen-may-follow : (a b : Edit) → Unseen a b → comes_before b a ≡ false
unseen-may-follow a b h = rw h (and-false (not (same_edit b.site b.seq a.site a.seq)))

module _ (n : ℕ) (few : n ≤ most_sites) (es : List Edit) (t : AllAccepted n es) where
  over :
      (P : List Edit → Type 0) → P [] → ((us : List Edit) (x : Edit) → Fine n us x → P us → P (us ++ (x ∷ []))) →
      P es
  over P z s = fronts P es z (λ us vs x q h. s us x (fine-at n us x (t us vs x q)) h) es [] (sym (append-nil es))

  fit-in : (e : Edit) → Mem e es → unfit n e ≡ false
  fit-in e m = let (us, vs, q) = split-mem m in (fine-at n us e (t us vs e q)).fit

  formed : (e : Edit) → Mem e es → WellFormed n e
  formed e m = well-formed n e (fit-in e m)

  -- ---- what an edit has seen

  counted : CountedInTurn es
  counted = over CountedInTurn counted_none (λ us x f c. counted-more n us x f.in_turn c)

  -- no edit has seen a later one
  later-unseen : Asc Unseen es
  later-unseen =
      (over (λ us. CountedInTurn us × Asc Unseen us) (counted_none, tt) (λ us x f (c, h). (
        counted-more n us x f.in_turn c,
        pairs-snoc Unseen us x h (λ a m.
            lt-leb x.seq.0 (get_or a.vector x.site.0 0)
            (omega (arith, c.entries a m x.site.0 (omega (arith, f.in_turn.formed.site)), f.in_turn.next))),
      ))).1

  pub accepted-apart : AllDiffer es
  accepted-apart =
      pairs-weaken Unseen Differ es
      (λ a b m k h. off (same_edit a.site a.seq b.site b.seq) (λ s.
      let (p, q) = same_at a b s in
      clash (seen-on a b (rw (← p, ← q) (omega (arith, (formed a m).own)))) h))
      later-unseen

  pub accepted-causal : Causal es
  accepted-causal =
      pairs-weaken Unseen MayPrecede es
      (λ a b m k h. unseen-may-follow a b h)
      later-unseen

  whole : (a e : Edit) → Mem a es → Mem e es → tears e a ≡ false
  whole a e ma me =
      let (xs, ys, q) = split-mem me in
      let f = fine-at n xs e (t xs ys e q) in
      elim (Memᴰ.append_cases xs (mem-along q ma)) [
        | inl k ↦ f.whole a k
        | inr k ↦ elim (Memᴰ.cases_cons k) [
          | inl r ↦ rw (r, never-larger e.vector) (and-false (has_seen e.vector e.site e.seq))
          | inr l ↦
              (let front = xs ++ (e ∷ []) in
              let split : es ≡ front ++ ys = q ∙ sym (append_snoc xs e ys) in
              rw (pairs-cross Unseen front ys (subst (Asc Unseen) split later-unseen) e a (mem-middle xs [] e) l))
        ]
      ]

  -- ---- what the limited Sets list

  orderly : Orderly es
  orderly =
      over Orderly orderly-none
      (λ us x f o. orderly-more n few us x o (fine-passes n us x f) f.names)

  numbered : SeqsFit es
  numbered e m =
      let (us, vs, q) = split-mem m in
      let f = fine-at n us e (t us vs e q) in
      let few : count_from e.site.0 us ≤ length us
      = unfold count_from in filter-few (λ a. eqb a.site.0 e.site.0) us in
      omega (arith, f.in_turn.next, f.room)

  known : Known es
  unfolding sets_on nameless_among
  known e m limited x listed =
      let (us, vs, q) = split-mem m in
      let f = fine-at n us e (t us vs e q) in
      let on = is_set_on e.tsite e.tseq in
      let ms = filter on us in
      let (strange, _) = neither (any (is_strange ms e) (listed_by e)) (names_none (box_on (ms ++ (e ∷ []))) (length ms))
      (rw limited at f.names) in
      let hit : Edit → Bool = λ a. saw e a && eqb (name_of a) x in
      let met : any hit ms ≡ true = elim (decide (any hit ms)) [
        | inl h ↦ h
        | inr h ↦ clash (numbers.any-on (is_strange ms e) (listed_by e) x listed (ap not h)) strange
      ] in
      let (a, k, h) = any_at hit ms met in
      let (mem, its) = chosen_at on a us k in
      let (seen, name) = both (saw e a) (eqb (name_of a) x) h in
      (a, mem-along (sym q) (Memᴰ.append_left (e ∷ vs) mem), its, seen, eqb-true (name_of a) x name)

  -- ---- the limits

  few-objects : length (creates es) ≤ most_objects
  few-objects =
      over (λ us. length (creates us) ≤ most_objects) (unfold creates filter in omega arith)
      (λ us x f h. elim (decide (is_create x)) [
        | inl k ↦ (let e = rw k at (creates-snoc us x) in omega (arith, e, f.create-room k))
        | inr k ↦ (let e = rw k at (creates-snoc us x) in omega (arith, e))
      ])

  few-sets : (c : Edit) → length (sets_on c.site c.seq es) ≤ most_sets
  few-sets c =
      over (λ us. length (sets_on c.site c.seq us) ≤ most_sets) (unfold sets_on filter in omega arith)
      (λ us x f h. elim (decide (is_set_on c.site c.seq x)) [
        | inl k ↦
            (let (s, p, q) = set-on-at c x k in
            let e = rw k at (sets-snoc c.site c.seq us x) in
            let r = rw (p, q) at (f.set_room s) in
            omega (arith, e, r))
        | inr k ↦ (let e = rw k at (sets-snoc c.site c.seq us x) in omega (arith, e))
      ])

  few-groups : (c : Edit) → length (true_groups es c) ≤ most_groups
  few-groups c =
      over (λ us. length (true_groups us c) ≤ most_groups)
      (rw (groups-first [] c (unfold sets_on filter in refl)) (omega arith))
      (λ us x f h. elim (decide (is_set_on c.site c.seq x)) [
        | inl k ↦
            (let (s, p, q) = set-on-at c x k in
            subst (λ (gs : List ℕ). length gs ≤ most_groups) (one-object (us ++ (x ∷ [])) (named x) c p q) (f.few s))
        | inr k ↦ rw (groups-same us c x k) h
      ])

  pub accepted-settled : Settled n es
  accepted-settled = record {
    fit = fit-in;
    apart = accepted-apart;
    closed = λ e m s q l p b. counted.present s q p (omega (arith, counted.entries e m s l));
    whole = whole;
    aimed = λ e m k.
        let (xs, ys, q) = split-mem m in
        let (c, i, a) = (fine-at n xs e (t xs ys e q)).aimed k in
        (c, mem-along (sym q) (Memᴰ.append_left (e ∷ ys) i), a);
    numbered = numbered;
    known = known;
    versions = λ s q. (orderly.boxes s q).named;
    few-records =
        over (λ us. length us ≤ most_records) (omega arith)
        (λ us x f h. omega (arith, f.room, length-append us (x ∷ [])));
    few-objects = few-objects;
    few-sets = λ c m k. few-sets c;
    few-groups = λ c m k. few-groups c;
  }
