-- 16 is given to no record of a table exactly if it is given to none of the Sets on each Create. Assumes that the
-- records pass 1 to 5 in their order.
use mathlib.Core.Path.{◌≡◌, refl, sym, ap, ap₂, ◌∙◌}
use mathlib.Core.Logic.{◌⊎◌, inl, inr}
use mathlib.Core.Bool.{Bool, true, false, not, ◌&&◌, cond, and-true}
use mathlib.Core.List.{List, [], ◌∷◌, ◌++◌, append-nil}
use Prim.Native.Nat.{ℕ, zero, suc, ◌<◌}
use native.Mathlib.Omega.{arith}
use lib.ListN.{length, get_or, take, length-append, get_or-append}
use lib.Dec.{eqb}
use lib.Seq.{get_or-append_seam, take-append-le, take-length}
use borrow.Author.Tests.{eq-eqb, not-true}
use Rattle.math_lists.specs.NumbersBelow.{all}
use Rattle.math_lists.specs.SortedLists.{any, filter}
use Rattle.math_lists.proofs.Booleans.{clash, decide, off, same_test, both, and-on, then-off, off-where, or_right}
use Rattle.math_lists.proofs.ByPlaces.{any-place-on}
use Rattle.math_lists.proofs.GrownAtEnd.{filter-snoc}
use Rattle.math_lists.proofs.NumbersBelow.{all-on, all-at, all_same}
use Rattle.edit_record.specs.declared.Site.{Site}
use Rattle.edit_record.specs.declared.Seq.{Seq}
use Rattle.edit_record.specs.declared.Edit.{Edit}
use Rattle.edit_record.specs.Layout.{set_kind}
use Rattle.edit_record.specs.RecordBytes.{no_edit}
use Rattle.edit_record.specs.Answer1.{is_create, is_set, is_limited}
use Rattle.edit_record.proofs.WellFormed.{set-aimed}
use Rattle.edit_causal.specs.Causal.{same_edit}
use Rattle.edit_causal.proofs.Identities.{same_parts}
use Rattle.edit_history.specs.EditsHeld.{record_at, edits_of, is_set_on, sets_on}
use Rattle.edit_history.specs.Answers2to5.{records_pass}
use Rattle.edit_history.specs.Answer16.{nameless_among, is_nameless, records_named}
use Rattle.edit_history.proofs.EditsHeld.{any-edit-on, target-parts}
use Rattle.edit_history.proofs.RecordsPassed.{target-before}
use Rattle.group_true.proofs.ProperSets.{plain-named}
use Rattle.group_limited.specs.LimitedForms.{named_in_turn}
use Rattle.group_named.specs.ChainForms.{TargetsHeld}
use Rattle.group_named.specs.NamedForms.{is_named_at}

-- ---- the Sets of one object

-- one more
in-turn-more :
    (ms : List Edit) (e : Edit) → named_in_turn (ms ++ (e ∷ [])) ≡ (named_in_turn ms && not (nameless_among ms e))
unfolding named_in_turn all
in-turn-more ms e =
    let ns = ms ++ (e ∷ []) in
    let k = length ms in
    let f : ℕ → Bool = λ i. not (nameless_among (take i ns) (get_or ns i no_edit)) in
    let long : length ns ≡ suc k = omega (arith, length-append ms (e ∷ [])) in
    ap (λ (n : ℕ). all n f) long
    ∙ rw (get_or-append_seam ms e [] no_edit, take-append-le k ms (e ∷ []) (omega arith), take-length ms)
    (ap (λ (t : Bool). t && not (nameless_among ms e))
    (all_same k f (λ i. not (nameless_among (take i ms) (get_or ms i no_edit)))
    (λ i l. rw (get_or-append ms (e ∷ []) no_edit i l, take-append-le i ms (e ∷ []) (omega arith)))))

-- 16 is given to none where none is limited
pub plain-in-turn : (ms : List Edit) → any is_limited ms ≡ false → named_in_turn ms ≡ true
unfolding named_in_turn
plain-in-turn ms h =
    all-on (length ms) (λ i. not (nameless_among (take i ms) (get_or ms i no_edit)))
    (λ i l. rw (plain-named (take i ms) (get_or ms i no_edit)
    (off (is_limited (get_or ms i no_edit)) (λ t. clash (any-place-on is_limited no_edit ms i l t) h))))

module _ (rs : List ℕ) where
  -- the record in place p is a Set on s.q, and 16 is given to it
  abbrev nameless_on : Site → Seq → ℕ → Bool
  nameless_on s q p =
      is_set_on s q (record_at rs p) && nameless_among (sets_on s q (edits_of rs p)) (record_at rs p)

  -- they are told by their records
  in-turn-by-records :
      (s : Site) (q : Seq) (n : ℕ) → named_in_turn (sets_on s q (edits_of rs n)) ≡ all n (λ p. not (nameless_on s q p))
  unfolding edits_of sets_on filter all
  in-turn-by-records s q zero = unfold named_in_turn in refl
  in-turn-by-records s q (suc n) =
      let ms = sets_on s q (edits_of rs n) in
      let e = record_at rs n in
      ap named_in_turn (filter-snoc (is_set_on s q) (edits_of rs n) e)
      ∙ go (is_set_on s q e) ms e
      ∙ ap (λ (t : Bool). t && not (is_set_on s q e && nameless_among ms e)) (in-turn-by-records s q n)
    where
      go : (t : Bool) (ms : List Edit) (e : Edit) →
          named_in_turn (ms ++ cond t (e ∷ []) []) ≡ (named_in_turn ms && not (t && nameless_among ms e))
      go true ms e = in-turn-more ms e
      go false ms e = rw (append-nil ms) (sym (and-true (named_in_turn ms)))

  -- ---- all records

  -- on the Create that it targets
  of-its-own :
      (s : Site) (q : Seq) (p : ℕ) → is_set_on s q (record_at rs p) ≡ true →
      nameless_among (sets_on s q (edits_of rs p)) (record_at rs p) ≡ is_nameless (edits_of rs p) (record_at rs p)
  of-its-own s q p h =
      let e = record_at rs p in
      let (_, on) = both (is_set e) (same_edit e.tsite e.tseq s q) h in
      let (x, y) = same_parts e.tsite e.tseq s q on in
      ap (λ (ms : List Edit). nameless_among ms e)
      (sym (ap₂ (λ (u : Site) (v : Seq). sets_on u v (edits_of rs p)) x y))

  module _ (sites n : ℕ) (pass : records_pass sites rs n ≡ true) where
    boxes-then : records_named rs n ≡ true → (p : ℕ) → p < n → is_named_at rs n p ≡ true
    unfolding records_named is_named_at
    boxes-then h t l =
        let a = record_at rs t in
        or_right (not (is_create a)) (named_in_turn (sets_on a.site a.seq (edits_of rs n)))
        (in-turn-by-records a.site a.seq n
        ∙ all-on n (λ p. not (nameless_on a.site a.seq p))
        (λ p m. ap not
        (off-where (is_set_on a.site a.seq (record_at rs p))
        (nameless_among (sets_on a.site a.seq (edits_of rs p)) (record_at rs p))
        (λ k. of-its-own a.site a.seq p k
        ∙ not-true (is_nameless (edits_of rs p) (record_at rs p))
        (all-at n (λ p. not (is_nameless (edits_of rs p) (record_at rs p))) h p m)))))

    -- a limited one stands among the Sets on its Create
    records-then :
        ((p : ℕ) → p < n → is_named_at rs n p ≡ true) →
        (p : ℕ) → p < n → is_nameless (edits_of rs p) (record_at rs p) ≡ false
    unfolding is_named_at
    records-then h p l = go (decide (is_limited (record_at rs p)))
      where
        e : Edit
        e = record_at rs p

        go : (is_limited e ≡ true) ⊎ (is_limited e ≡ false) → is_nameless (edits_of rs p) e ≡ false
        go (inr k) = plain-named (sets_on e.tsite e.tseq (edits_of rs p)) e k
        go (inl k) =
            let set : is_set e ≡ true = or_right (eqb e.kind set_kind) (is_limited e) k in
            let (t, before, target) = target-before sites rs n pass p l (set-aimed e set) in
            let a = record_at rs t in
            let s = a.site in
            let q = a.seq in
            let parts = target-parts e a target in
            let on : same_edit e.tsite e.tseq s q ≡ true
            = and-on (eqb e.tsite.0 s.0) (eqb e.tseq.0 q.0)
            (eq-eqb e.tsite.0 s.0 (sym parts.site)) (eq-eqb e.tseq.0 q.0 (sym parts.seq)) in
            let its : is_set_on s q e ≡ true = and-on (is_set e) (same_edit e.tsite e.tseq s q) set on in
            let named : named_in_turn (sets_on s q (edits_of rs n)) ≡ true = rw parts.create at (h t (omega arith)) in
            let free = not-true (nameless_on s q p)
            (all-at n (λ i. not (nameless_on s q i)) (sym (in-turn-by-records s q n) ∙ named) p l) in
            sym (of-its-own s q p its)
            ∙ then-off (is_set_on s q e) (nameless_among (sets_on s q (edits_of rs p)) e) its free

    pub named-by-boxes : records_named rs n ≡ all n (is_named_at rs n)
    named-by-boxes =
        same_test (records_named rs n) (all n (is_named_at rs n))
        (λ h. all-on n (is_named_at rs n) (boxes-then h))
        (λ h. unfold records_named in all-on n (λ p. not (is_nameless (edits_of rs p) (record_at rs p)))
        (λ p l. ap not (records-then (all-at n (is_named_at rs n) h) p l)))

    -- each Set has its Create before it
    pub aimed : TargetsHeld rs n
    aimed q l set =
        let e = record_at rs q in
        let (t, before, target) = target-before sites rs n pass q l (set-aimed e set) in
        let parts = target-parts e (record_at rs t) target in
        (t, before, parts.create, parts.site, parts.seq)

  -- where no record is limited there is nothing to test
  pub none-limited : (n : ℕ) → any is_limited (edits_of rs n) ≡ false → records_named rs n ≡ true
  unfolding records_named
  none-limited n h =
      all-on n (λ p. not (is_nameless (edits_of rs p) (record_at rs p)))
      (λ p l. let e = record_at rs p in
      ap not (plain-named (sets_on e.tsite e.tseq (edits_of rs p)) e
      (off (is_limited e) (λ t. clash (any-edit-on is_limited rs n p l t) h))))

  -- and where one is, there is a record
  pub some-limited : (n : ℕ) → any is_limited (edits_of rs n) ≡ true → 0 < n
  unfolding edits_of any
  some-limited zero h = clash h refl
  some-limited (suc n) h = omega arith
