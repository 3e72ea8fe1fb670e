-- A settled list in a causal order is accepted throughout. Assumes at most sixteen sites.
use mathlib.Core.Path.{◌≡◌, sym, ap, ap₂, subst, ◌∙◌}
use mathlib.Core.Logic.{inl, inr}
use mathlib.Core.Bool.{true, false, not, ◌&&◌}
use mathlib.Core.List.Memᴰ
use mathlib.Core.List.{List, [], ◌∷◌, ◌++◌}
use Prim.Native.Nat.{ℕ, ◌+◌, ◌≤◌, ◌<◌}
use native.Mathlib.Omega.{arith}
use native.Mathlib.Decide.{dec_lt}
use lib.ListN.{length, get_or, length-append}
use lib.Seq.{append_snoc}
use lib.Dec.{eqb}
use borrow.Author.Tests.{eq-eqb}
use Rattle.math_lists.specs.SortedLists.{any, elem, filter}
use Rattle.math_lists.proofs.Booleans.{clash, off, both, or_off, off-where}
use Rattle.math_lists.proofs.Elements as numbers
use Rattle.math_lists.proofs.GrownAtEnd.{filter-append}
use Rattle.math_contexts.specs.NamedVersions.{names_none}
use Rattle.math_contexts.specs.Versions.{AllNamed}
use Rattle.math_contexts.proofs.ConflictsNamed.{names-none-later}
use Rattle.edit_record.specs.declared.Site.{Site}
use Rattle.edit_record.specs.declared.Seq.{Seq}
use Rattle.edit_record.specs.declared.Edit.{Edit}
use Rattle.edit_record.specs.Layout.{most_sites}
use Rattle.edit_record.specs.Answer1.{is_create, is_set, is_limited, is_aimed, name_of}
use Rattle.edit_record.proofs.WellFormed.{WellFormed, well-formed, set-aimed, limited-set, aimed-not-create}
use Rattle.edit_causal.specs.Causal.{same_edit, has_seen}
use Rattle.edit_causal.specs.Conflict.{listed_by, box_on}
use Rattle.edit_causal.specs.ConflictForms.{NoneItself, Proper, saw}
use Rattle.edit_causal.proofs.CausalLaws.{same-reflexive}
use Rattle.edit_causal.proofs.ConflictsAmongSets.{none-itself, first-sets}
use Rattle.edit_history.specs.EditsHeld.{count_from, creates, is_set_on, sets_on}
use Rattle.edit_history.specs.Answer16.{is_strange, nameless_among, is_nameless}
use Rattle.edit_history.proofs.EditsHeld.{Target, target-parts}
use Rattle.edit_history.proofs.RecordsPassed.{InTurn}
use Rattle.group_step.specs.GroupRows.{most_sets, most_groups}
use Rattle.group_true.specs.TrueGroups.{true_groups}
use Rattle.group_true.proofs.TrueGroups.{sets_more, groups-grow}
use Rattle.edit_causal.proofs.Identities.{same-site, same-seq}
use Rattle.math_lists.specs.Rearranged.{Mem}
use Rattle.demand_any_order.specs.Settled.{named, AllAccepted, MayPrecede, Causal, Settled}
use Rattle.group_true.specs.Identities.{Differ, AllDiffer}
use Rattle.math_lists.proofs.ListMembers.{here, any-on, chosen_on, chosen_more, mem-along, mem-middle, fronts}
use Rattle.math_lists.proofs.PairsInList.{pairs-cross}
use Rattle.group_true.proofs.Identities.{same-on, same_at, seen-on, before_on, one-edit, one-object}
use Rattle.demand_any_order.proofs.SettledBoxes.{ordered, box-lawful}
use Rattle.demand_any_order.proofs.AnswerNought.{Fine, fine-on}
use Rattle.demand_any_order.proofs.CountsInTurn.{CountedInTurn, counted_none, counted-more}

sets-append : (x : Site) (q : Seq) (us vs : List Edit) → sets_on x q (us ++ vs) ≡ sets_on x q us ++ sets_on x q vs
unfolding sets_on
sets-append x q us vs = filter-append (is_set_on x q) us vs

module _ (n : ℕ) (few : n ≤ most_sites) (es : List Edit) (s : Settled n es) (causal : Causal es) where
  formed : (e : Edit) → Mem e es → WellFormed n e
  formed e m = well-formed n e (s.fit e m)

  -- the Sets of every object are proper
  proper : (x : Site) (q : Seq) → Proper (sets_on x q es)
  proper x q = record { lawful = box-lawful n few es (ordered n es s) causal x q; named = s.versions x q }

  -- ---- e stands after xs

  module _ (xs ys : List Edit) (e : Edit) (q : es ≡ xs ++ (e ∷ ys)) where
    abbrev front : List Edit
    front = xs ++ (e ∷ [])

    abbrev split : es ≡ front ++ ys
    split = q ∙ sym (append_snoc xs e ys)

    abbrev left : (a : Edit) → Mem a xs → Mem a es
    left a m = mem-along (sym q) (Memᴰ.append_left (e ∷ ys) m)

    abbrev self : Mem e es
    self = mem-along (sym q) (mem-middle xs ys e)

    -- what e has seen stands before it
    prior : (a : Edit) → Mem a es → Differ a e → has_seen e.vector a.site a.seq ≡ true → Mem a xs
    prior a m d seen = elim (Memᴰ.append_cases xs (mem-along q m)) [
      | inl k ↦ k
      | inr k ↦ elim (Memᴰ.cases_cons k) [
        | inl z ↦ clash (rw z (same-reflexive e.site e.seq)) d
        | inr l ↦
            clash (before_on a e d seen)
            (pairs-cross MayPrecede front ys (subst Causal split causal) e a (mem-middle xs [] e) l)
      ]
    ]

    module _ (c : CountedInTurn xs) where
      -- the edit that e has seen is counted
      reached : (x r : ℕ) → x < most_sites → 0 < r → r ≤ get_or e.vector x 0 →
          (x ≡ e.site.0 → r ≡ e.seq.0 → ⊥) → r ≤ count_from x xs
      reached x r l p b d =
          let (a, m, y, z) = s.closed e self x r l p b in
          let differ : Differ a e = off (same_edit a.site a.seq e.site e.seq)
          (λ h. let (u, v) = same_at a e h in d (sym y ∙ u) (sym z ∙ v)) in
          let seen = seen-on e a (rw (y, z) b) in
          let k = prior a m differ seen in
          let own = rw (y, z) at (formed a m).own in
          omega (arith, c.entries a k x l, own)

      in-turn-here : InTurn n xs e
      in-turn-here =
          let w = formed e self in
          let k = count_from e.site.0 xs in
          record {
            formed = w;
            next = elim (dec_lt k e.seq.0) [
              | no l ↦
                  (let (a, m, y, z) = c.present e.site.0 e.seq.0 w.seq (omega arith) in
                  let apart : AllDiffer (xs ++ (e ∷ ys)) = subst AllDiffer q s.apart in
                  clash (same-on a e y z) (pairs-cross Differ xs (e ∷ ys) apart a e m here))
              | yes l ↦ elim (dec_lt (k + 1) e.seq.0) [
                | no g ↦ omega arith
                | yes g ↦
                    absurd (omega (
                      arith,
                      reached e.site.0 (k + 1) (omega (arith, w.site)) (omega arith) (omega (arith, w.own))
                          (λ y z. omega arith),
                    ))
              ]
            ];
            others = λ x l d. elim (dec_lt 0 (get_or e.vector x 0)) [
              | yes g ↦ reached x (get_or e.vector x 0) l g (omega arith) (λ y z. d y)
              | no g ↦ omega arith
            ];
          }

      -- ---- its object

      module _ (k : is_aimed e ≡ true) where
        abbrev target : Edit
        target = (s.aimed e self k).0

        abbrev parts : Target e target
        parts = target-parts e target (s.aimed e self k).2

        abbrev its-site : target.site ≡ e.tsite
        its-site = same-site target.site e.tsite parts.site

        abbrev its-seq : target.seq ≡ e.tseq
        its-seq = same-seq target.seq e.tseq parts.seq

        differs : Differ target e
        differs = off (same_edit target.site target.seq e.site e.seq) (λ h.
            let one = one-edit es s.apart target e (s.aimed e self k).1 self h in
            clash (sym (ap is_create one) ∙ parts.create) (aimed-not-create e k))

        target-prior : Mem target xs
        target-prior = prior target (s.aimed e self k).1 differs parts.seen

        sets-room : is_set e ≡ true → length (sets_on e.tsite e.tseq xs) < most_sets
        sets-room set =
            let bound : length (sets_on e.tsite e.tseq es) ≤ most_sets
            = subst (λ (m : ℕ). m ≤ most_sets) (ap₂ (λ (x : Site) (y : Seq). length (sets_on x y es)) its-site its-seq)
            (s.few-sets target (s.aimed e self k).1 parts.create) in
            let more : length (sets_on e.tsite e.tseq xs) < length (sets_on e.tsite e.tseq es)
            = unfold sets_on in rw q
            (chosen_more (is_set_on e.tsite e.tseq) xs ys e (rw (set, same-reflexive e.tsite e.tseq))) in
            omega arith

        groups-room : length (true_groups front (named e)) ≤ most_groups
        groups-room =
            let bound : length (true_groups es (named e)) ≤ most_groups
            = subst (λ (gs : List ℕ). length gs ≤ most_groups) (one-object es target (named e) its-site its-seq)
            (s.few-groups target (s.aimed e self k).1 parts.create) in
            omega (
              arith,
              ap (λ (l : List Edit). length (true_groups l (named e))) split,
              groups-grow front ys (named e) (subst (λ (l : List Edit). NoneItself (sets_on e.tsite e.tseq l))
                  split
                  (none-itself (sets_on e.tsite e.tseq es) (proper e.tsite e.tseq))),
            )

        -- ---- what it lists

        module _ (limited : is_limited e ≡ true) where
          abbrev mates : List Edit
          mates = sets_on e.tsite e.tseq xs

          known-here : (x : ℕ) → elem x (listed_by e) ≡ true → is_strange mates e x ≡ false
          unfolding sets_on
          known-here x listed =
              let (m, mem, on, seen, name) = s.known e self limited x listed in
              let d : Differ m e = off (same_edit m.site m.seq e.site e.seq) (λ h.
              clash seen (rw h)) in
              let (_, sees) = both (not (same_edit m.site m.seq e.site e.seq))
              (has_seen e.vector m.site m.seq) seen in
              let k = chosen_on (is_set_on e.tsite e.tseq) (prior m mem d sees) on in
              ap not (any-on (λ a. saw e a && eqb (name_of a) x) k (rw (seen, eq-eqb (name_of m) x name)))

          version-here : names_none (box_on (mates ++ (e ∷ []))) (length mates) ≡ false
          version-here =
              let ms = mates ++ (e ∷ []) in
              let more = sets_on e.tsite e.tseq ys in
              let all : sets_on e.tsite e.tseq es ≡ ms ++ more
              = ap (sets_on e.tsite e.tseq) split
              ∙ sets-append e.tsite e.tseq front ys
              ∙ ap (λ (l : List Edit). l ++ more) (sets_more xs e (limited-set e limited)) in
              let long : length mates < length ms = omega (arith, length-append mates (e ∷ [])) in
              sym (names-none-later (first-sets ms more) (length mates) long)
              ∙ subst (λ (l : List Edit). AllNamed (box_on l) (length l)) all (s.versions e.tsite e.tseq)
              (length mates) (omega (arith, length-append ms more))

      named_here : is_nameless xs e ≡ false
      unfolding nameless_among
      named_here = off-where (is_limited e) _ (λ limited.
          let k = set-aimed e (limited-set e limited) in
          or_off (any (is_strange (sets_on e.tsite e.tseq xs) e) (listed_by e)) _
          (numbers.any-off (is_strange (sets_on e.tsite e.tseq xs) e) (listed_by e) (known-here k limited))
          (version-here k limited))

      fine-here : Fine n xs e
      fine-here = record {
        fit = s.fit e self;
        in_turn = in-turn-here;
        whole = λ a m. s.whole a e (left a m) self;
        aimed = λ k. (target k, target-prior k, (s.aimed e self k).2);
        names = named_here;
        room = omega (arith, s.few-records, ap length q, length-append xs (e ∷ ys));
        create-room = λ k.
            unfold creates in omega (
              arith,
              s.few-objects,
              ap (λ (l : List Edit). length (filter is_create l)) q,
              chosen_more is_create xs ys e k,
            );
        set_room = λ k. sets-room (set-aimed e k) k;
        few = λ k. groups-room (set-aimed e k);
      }

  -- ---- the whole list

  counted : (xs ys : List Edit) → es ≡ xs ++ ys → CountedInTurn xs
  counted = fronts CountedInTurn es counted_none (λ us vs x q c. counted-more n us x (in-turn-here us vs x q c) c)

  pub settled-accepted : AllAccepted n es
  settled-accepted xs ys e q = fine-on n xs e (fine-here xs ys e q (counted xs (e ∷ ys) q))
