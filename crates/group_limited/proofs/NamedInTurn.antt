-- The Sets in the first places of which 16 is given to none, each after those before it: each that is limited names a
-- version, and the first to which it is given ends the test. Assumes nothing.
use mathlib.Core.Path.{◌≡◌, refl, sym, ap, subst, ◌∙◌}
use mathlib.Core.Logic.{inl, inr}
use mathlib.Core.Bool.{Bool, true, false, not}
use mathlib.Core.List.{List, [], ◌∷◌, ◌++◌, map, map-append}
use Prim.Native.Nat.{ℕ, zero, suc, ◌+◌, ◌≤◌, ◌<◌}
use native.Mathlib.Omega.{arith}
use lib.ListN.{length, get_or, take, drop, take-append-drop, length-append}
use lib.Seq.{take-take, take-append-le, take_all}
use borrow.Author.Tests.{not-true}
use Rattle.math_lists.proofs.Booleans.{clash, off}
use Rattle.math_lists.proofs.LastBelow.{last}
use Rattle.math_lists.proofs.NumbersBelow.{all-on, all-at}
use Rattle.math_contexts.specs.Box.{Lawful}
use Rattle.math_contexts.specs.BoxByArrival.{rel}
use Rattle.math_contexts.specs.SameSets.{SameBelow}
use Rattle.math_contexts.specs.Contexts.{context}
use Rattle.math_contexts.specs.Versions.{AllNamed}
use Rattle.math_contexts.proofs.ConflictsNamed.{names-none-later}
use Rattle.edit_record.specs.declared.Edit.{Edit}
use Rattle.edit_record.specs.RecordBytes.{no_edit}
use Rattle.edit_causal.specs.Conflict.{box_on}
use Rattle.edit_causal.specs.ConflictForms.{Proper}
use Rattle.edit_causal.proofs.CausalLaws.{conflict-symmetric, conflict-irreflexive}
use Rattle.edit_causal.proofs.ConflictsAmongSets.{first-sets}
use Rattle.edit_history.specs.EditsHeld.{record_at}
use Rattle.edit_history.specs.Answer16.{nameless_among}
use Rattle.edit_history.proofs.EditsInPlaces.{sets-length, set-place}
use Rattle.group_true.proofs.ProperSets.{named-version, named-snoc}
use Rattle.group_context.specs.RowsOfBox.{what_is_left}
use Rattle.group_limited.specs.LimitedForms.{named_in_turn}
use Rattle.group_sight.specs.SightForms.{sets_in}
use Rattle.group_limited.proofs.ToldByRows.{left-told}
use Rattle.group_sight.proofs.OneMoreTaken.{sets_more}

-- the first of some Sets that are lawful are lawful
first-lawful :
    (ms more : List Edit) (n : ℕ) → length ms ≤ n → Lawful (box_on (ms ++ more)) n → Lawful (box_on ms) (length ms)
first-lawful ms more n few law = record {
  symmetric = λ i j. unfold rel in conflict-symmetric (get_or ms i no_edit) (get_or ms j no_edit);
  irreflexive = λ i. unfold rel in conflict-irreflexive (get_or ms i no_edit);
  transitive = λ i j k l m o p q.
      sym (same.seens i k l (omega arith))
      ∙ law.transitive i j k (omega arith) m o (same.seens i j l (omega arith) ∙ p)
      (same.seens j k (omega arith) (omega arith) ∙ q);
  compatible = λ i j l m p.
      sym (same.plains i j l (omega arith))
      ∙ law.compatible i j (omega arith) m (same.seens i j l (omega arith) ∙ p);
}
  where
    same : SameBelow (box_on ms) (box_on (ms ++ more)) (length ms)
    same = first-sets ms more

-- and where they name their versions, so do the first
first-named :
    (ms more : List Edit) (n : ℕ) → length ms ≤ n → AllNamed (box_on (ms ++ more)) n → AllNamed (box_on ms) (length ms)
first-named ms more n few all i l = sym (names-none-later (first-sets ms more) i l) ∙ all i (omega arith)

-- the first of some Sets that are proper are proper
pub first-proper : (ms more : List Edit) → Proper (ms ++ more) → Proper ms
first-proper ms more p =
    let few : length ms ≤ length (ms ++ more) = omega (arith, length-append ms more) in
    record {
      lawful = first-lawful ms more (length (ms ++ more)) few p.lawful;
      named = first-named ms more (length (ms ++ more)) few p.named;
    }

module _ (rs ps : List ℕ) where
  -- the Set in the j-th of the places is nameless after those before it
  abbrev pub nameless : ℕ → Bool
  nameless j = nameless_among (sets_in rs ps j) (record_at rs (get_or ps j 0))

  -- where none of the first i is, each of them names a version
  all_named : (i : ℕ) → i ≤ length ps → ((j : ℕ) → j < i → nameless j ≡ false) → AllNamed (box_on (sets_in rs ps i)) i
  all_named zero l h j m = absurd (omega arith)
  all_named (suc i) l h j m =
      let ms = sets_in rs ps i in
      let e = record_at rs (get_or ps i 0) in
      let size = sets-length rs ps i (omega arith) in
      let before : AllNamed (box_on ms) (length ms)
      = rw size (all_named i (omega arith) (λ x o. h x (omega arith))) in
      let long : length (ms ++ (e ∷ [])) ≡ suc i = omega (arith, length-append ms (e ∷ []), size) in
      let after : AllNamed (box_on (ms ++ (e ∷ []))) (suc i)
      = subst (AllNamed (box_on (ms ++ (e ∷ [])))) long
      (named-snoc ms e before (named-version ms e (h i (omega arith)))) in
      rw (sets_more rs ps i l) (after j m)

  module _ (k : ℕ) (fits : k ≤ length ps) where
    abbrev ms : List Edit
    ms = sets_in rs ps k

    -- ---- the first of them

    split : (j : ℕ) → j ≤ k → ms ≡ sets_in rs ps j ++ map (record_at rs) (drop j (take k ps))
    split j l =
        ap (map (record_at rs))
        (sym (take-append-drop j (take k ps))
        ∙ ap (λ (t : List ℕ). t ++ drop j (take k ps)) (take-take j k ps l))
        ∙ map-append (record_at rs) (take j ps) (drop j (take k ps))

    front : (j : ℕ) → j ≤ k → take j ms ≡ sets_in rs ps j
    front j l =
        let size = sets-length rs ps j (omega arith) in
        ap (take j) (split j l)
        ∙ take-append-le j (sets_in rs ps j) (map (record_at rs) (drop j (take k ps))) (omega arith)
        ∙ take_all j (sets_in rs ps j) (omega arith)

    -- with the next one
    pub lawful-to :
        (i : ℕ) → i < k → (e : Edit) → e ≡ record_at rs (get_or ps i 0) → Lawful (box_on ms) k →
        Lawful (box_on (sets_in rs ps i ++ (e ∷ []))) (suc (length (sets_in rs ps i)))
    lawful-to i l e own law =
        let size = sets-length rs ps (suc i) (omega arith) in
        let more = map (record_at rs) (drop (suc i) (take k ps)) in
        let law' : Lawful (box_on (sets_in rs ps (suc i) ++ more)) k
        = subst (λ (xs : List Edit). Lawful (box_on xs) k) (split (suc i) (omega arith)) law in
        let first : Lawful (box_on (sets_in rs ps (suc i))) (suc i)
        = subst (Lawful (box_on (sets_in rs ps (suc i)))) size
        (first-lawful (sets_in rs ps (suc i)) more k (omega arith) law') in
        rw (own, sets-length rs ps i (omega arith), ← sets_more rs ps i (omega arith)) first

    -- where all are proper, what is left of what the next one has seen is its context
    pub left-where-proper :
        (i : ℕ) → i < k →
        let ms' = sets_in rs ps i in
        let e = record_at rs (get_or ps i 0) in
        Proper ms → what_is_left (box_on (ms' ++ (e ∷ []))) (length ms') ≡ context (box_on (ms' ++ (e ∷ []))) (length ms')
    left-where-proper i l p =
        let e = record_at rs (get_or ps i 0) in
        let size = sets-length rs ps i (omega arith) in
        let next = sets-length rs ps (suc i) (omega arith) in
        let law = lawful-to i l e refl (subst (Lawful (box_on ms)) (sets-length rs ps k fits) p.lawful) in
        let named : (j : ℕ) → j ≤ k → AllNamed (box_on (sets_in rs ps j)) (length (sets_in rs ps j))
        = λ j m. first-named (sets_in rs ps j) (map (record_at rs) (drop j (take k ps))) (length ms)
        (omega (arith, sets-length rs ps j (omega arith), sets-length rs ps k fits))
        (subst (λ (xs : List Edit). AllNamed (box_on xs) (length ms)) (split j m) p.named) in
        left-told (sets_in rs ps i) e law (named i (omega arith))
        (rw (← sets_more rs ps i (omega arith))
        (named (suc i) (omega arith) (length (sets_in rs ps i)) (omega (arith, size, next))))

    -- the same where 16 is given to none up to the next one
    pub left-where-named :
        (i : ℕ) → i < k →
        let ms' = sets_in rs ps i in
        let e = record_at rs (get_or ps i 0) in
        Lawful (box_on ms) k → ((j : ℕ) → j < i → nameless j ≡ false) → nameless i ≡ false →
        what_is_left (box_on (ms' ++ (e ∷ []))) (length ms') ≡ context (box_on (ms' ++ (e ∷ []))) (length ms')
    left-where-named i l law before own =
        let ms' = sets_in rs ps i in
        let e = record_at rs (get_or ps i 0) in
        left-told ms' e (lawful-to i l e refl law)
        (rw (sets-length rs ps i (omega arith)) (all_named i (omega arith) before)) (named-version ms' e own)

    -- where 16 is given to none of the first, they are proper
    pub proper-to :
        (i : ℕ) → i ≤ k → Lawful (box_on ms) k → ((j : ℕ) → j < i → nameless j ≡ false) → Proper (sets_in rs ps i)
    proper-to i l law free =
        let size = sets-length rs ps i (omega arith) in
        record {
          lawful = first-lawful (sets_in rs ps i) (map (record_at rs) (drop i (take k ps))) k (omega arith)
              (subst (λ (xs : List Edit). Lawful (box_on xs) k) (split i l) law);
          named = rw size (all_named i (omega arith) free);
        }

    -- ---- the test

    pub in-turn-on : ((j : ℕ) → j < k → nameless j ≡ false) → named_in_turn ms ≡ true
    unfolding named_in_turn
    in-turn-on h =
        let size = sets-length rs ps k fits in
        all-on (length ms) (λ i. not (nameless_among (take i ms) (get_or ms i no_edit)))
        (λ i l. rw (front i (omega arith), set-place rs ps k fits i (omega arith), h i (omega arith)))

    pub in-turn-off : (j : ℕ) → j < k → nameless j ≡ true → named_in_turn ms ≡ false
    unfolding named_in_turn
    in-turn-off j l h =
        let size = sets-length rs ps k fits in
        off (named_in_turn ms) (λ t.
        let free = not-true (nameless_among (take j ms) (get_or ms j no_edit))
        (all-at (length ms) (λ i. not (nameless_among (take i ms) (get_or ms i no_edit))) t j (omega arith)) in
        clash h (rw (front j (omega arith), set-place rs ps k fits j l) at free))

    -- whether it is given to the next Set, where those before it name theirs
    pub named-where-told :
        (i : ℕ) → i < k →
        let ms' = sets_in rs ps i in
        let e = record_at rs (get_or ps i 0) in
        (t : Bool) →
        (Lawful (box_on (ms' ++ (e ∷ []))) (suc (length ms')) → AllNamed (box_on ms') (length ms') →
        t ≡ nameless_among ms' e) →
        Lawful (box_on ms) k → ((j : ℕ) → j < i → nameless j ≡ false) → t ≡ nameless i
    named-where-told i l t told law before =
        told (lawful-to i l (record_at rs (get_or ps i 0)) refl law)
        (rw (sets-length rs ps i (omega arith)) (all_named i (omega arith) before))

  -- 16 is not given to one more
  pub passed-one-more :
      (i : ℕ) → nameless i ≡ false → ((j : ℕ) → j < i → nameless j ≡ false) → (j : ℕ) → j < i + 1 → nameless j ≡ false
  passed-one-more i h before j l = elim (last {i = j} {n = i} (omega arith)) [
    | inl m ↦ before j m
    | inr q ↦ rw q h
  ]
