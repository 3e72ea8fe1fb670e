-- What an answer of 0 over a list of edits says, in facts, and that these facts give it. Assumes nothing.
use mathlib.Core.Path.{◌≡◌}
use mathlib.Core.Bool.{Bool, true, false, not, ◌&&◌, ◌||◌}
use mathlib.Core.List.{List, [], ◌∷◌, ◌++◌}
use Prim.Native.Nat.{ℕ, ◌+◌, ◌≤◌, ◌<◌}
use native.Mathlib.Omega.{arith}
use lib.ListN.{length, get_or}
use lib.Dec.{eqb, leb, ltb}
use borrow.Author.Tests.{eqb-false, leb-false, lt-leb, ltb-false, le-ltb, not-true, not-false}
use Rattle.math_lists.specs.NumbersBelow.{some}
use Rattle.math_lists.specs.SortedLists.{any}
use Rattle.math_lists.proofs.Booleans.{clash, off, neither, or_off, then-off, off-where}
use Rattle.math_lists.proofs.NumbersBelow.{some-off}
use Rattle.edit_record.specs.declared.Edit.{Edit}
use Rattle.edit_record.specs.Layout.{most_sites}
use Rattle.edit_record.specs.Answer1.{is_create, is_set, is_aimed, unfit}
use Rattle.edit_history.specs.EditsHeld.{count_from, creates, sets_on, is_target, most_records}
use Rattle.edit_history.specs.Answers2to5.{is_repeated, is_early, tears, is_torn, is_astray, passes}
use Rattle.edit_history.specs.Answer16.{is_nameless}
use Rattle.edit_history.proofs.RecordsPassed.{InTurn, in-turn}
use Rattle.group_step.specs.GroupRows.{most_objects, most_sets, most_groups}
use Rattle.table_arrival.specs.Answers6and7.{first_of, in_turn}
use Rattle.group_true.specs.TrueGroups.{true_groups}
use Rattle.table_arrival.proofs.FirstReason.{none-present, numbers-above}
use Rattle.math_lists.specs.Rearranged.{Mem}
use Rattle.demand_any_order.specs.Settled.{named, full_over, crowded_over, list_reasons, list_answer}
use Rattle.math_lists.proofs.ListMembers.{any-on, any_at}

pub record Fine (n : ℕ) (es : List Edit) (e : Edit) : Type 0 where
  pub fit : unfit n e ≡ false
  pub in_turn : InTurn n es e
  pub whole : (a : Edit) → Mem a es → tears e a ≡ false
  pub aimed : is_aimed e ≡ true → (c : Edit) × Mem c es × (is_target e c ≡ true)
  pub names : is_nameless es e ≡ false
  pub room : length es < most_records
  pub create-room : is_create e ≡ true → length (creates es) < most_objects
  pub set_room : is_set e ≡ true → length (sets_on e.tsite e.tseq es) < most_sets
  pub few : is_set e ≡ true → length (true_groups (es ++ (e ∷ [])) (named e)) ≤ most_groups

-- b does not hold where a does
module _ (n : ℕ) (es : List Edit) (e : Edit) where
  abbrev records? : Bool
  records? = leb most_records (length es)

  abbrev objects? : Bool
  objects? = is_create e && leb most_objects (length (creates es))

  abbrev sets? : Bool
  sets? = is_set e && leb most_sets (length (sets_on e.tsite e.tseq es))

  abbrev groups : ℕ
  groups = length (true_groups (es ++ (e ∷ [])) (named e))

  -- ---- an answer of 0 gives the facts

  pub fine-at : list_answer n es e ≡ 0 → Fine n es e
  unfolding list_answer is_torn is_astray full_over crowded_over
  fine-at h =
      let no : (i : ℕ) → get_or (list_reasons n es e) i false ≡ false
      = none-present in_turn (list_reasons n es e) (omega arith) numbers-above h in
      let (rc, s) = neither (records? || objects?) sets? (no 6) in
      let (r, c) = neither records? objects? rc in
      record {
        fit = no 0;
        in_turn = in-turn n es e (no 0) (no 1) (no 2);
        whole = λ a m. off (tears e a) (λ t. clash (any-on (tears e) m t) (no 3));
        aimed =
            λ k. any_at (is_target e) es
            (not-false (any (is_target e) es) (then-off (is_aimed e) (not (any (is_target e) es)) k (no 4)));
        names = no 5;
        room = leb-false most_records (length es) r;
        create-room = λ k. leb-false most_objects (length (creates es)) (then-off (is_create e) _ k c);
        set_room = λ k. leb-false most_sets (length (sets_on e.tsite e.tseq es)) (then-off (is_set e) _ k s);
        few = λ k. ltb-false most_groups groups (then-off (is_set e) (ltb most_groups groups) k (no 7));
      }

  -- ---- the facts give an answer of 0: no reason is present

  module _ (f : Fine n es e) where
    not-repeated : is_repeated es e ≡ false
    unfolding is_repeated
    not-repeated = lt-leb e.seq.0 (count_from e.site.0 es) (omega (arith, f.in_turn.next))

    not-early : is_early es e ≡ false
    unfolding is_early
    not-early =
        let ahead : ℕ → Bool = λ s. not (eqb s e.site.0) && ltb (count_from s es) (get_or e.vector s 0) in
        or_off (ltb (count_from e.site.0 es + 1) e.seq.0) (some most_sites ahead)
        (le-ltb (count_from e.site.0 es + 1) e.seq.0 (omega (arith, f.in_turn.next)))
        (some-off most_sites ahead (λ s l.
        off-where (not (eqb s e.site.0)) (ltb (count_from s es) (get_or e.vector s 0)) (λ d.
        le-ltb (count_from s es) (get_or e.vector s 0)
        (f.in_turn.others s l (eqb-false s e.site.0 (not-true (eqb s e.site.0) d))))))

    not-torn : is_torn es e ≡ false
    unfolding is_torn
    not-torn = off (any (tears e) es) (λ h. let (a, m, t) = any_at (tears e) es h in clash t (f.whole a m))

    not-astray : is_astray es e ≡ false
    unfolding is_astray
    not-astray =
        off-where (is_aimed e) (not (any (is_target e) es))
        (λ k. let (c, m, a) = f.aimed k in rw (any-on (is_target e) m a))

    not_full : full_over es e ≡ false
    unfolding full_over
    not_full =
        or_off (records? || objects?) sets?
        (or_off records? objects? (lt-leb most_records (length es) f.room)
        (off-where (is_create e) _ (λ k. lt-leb most_objects (length (creates es)) (f.create-room k))))
        (off-where (is_set e) _ (λ k. lt-leb most_sets (length (sets_on e.tsite e.tseq es)) (f.set_room k)))

    not-crowded : crowded_over es e ≡ false
    unfolding crowded_over
    not-crowded = off-where (is_set e) (ltb most_groups groups) (λ k. le-ltb most_groups groups (f.few k))

    pub fine-on : list_answer n es e ≡ 0
    unfolding list_answer first_of
    fine-on = rw (f.fit, not-repeated, not-early, not-torn, not-astray, f.names, not_full, not-crowded)

    pub fine-passes : passes n es e ≡ true
    unfolding passes
    fine-passes = rw (f.fit, not-repeated, not-early, not-torn, not-astray)
