-- The chains after one record more: a record that is no Set leaves them as they are, and a Set stands at the head of
-- its chain. Assumes what is said of the record and of the numbers of objects.
use mathlib.Core.Path.{◌≡◌, refl, sym, ap, ◌∙◌}
use mathlib.Core.Logic.{inl, inr}
use mathlib.Core.Bool.{Bool, true, false, ◌||◌, cond}
use mathlib.Core.List.{List}
use Prim.Native.Nat.{ℕ, suc, ◌≤◌, ◌<◌}
use native.Mathlib.Omega.{arith}
use native.Mathlib.Decide.{ℕ_discrete}
use lib.Dec.{eqb}
use lib.ListN.{length, get_or, set, length-set}
use lib.Seq.{get_or-set_same, get_or-set_other}
use borrow.Author.Tests.{eq-eqb, ne_eqb}
use Rattle.math_lists.proofs.Booleans.{clash, and-on}
use Rattle.math_lists.proofs.LastBelow.{last}
use Rattle.edit_record.specs.Layout.{keys, limited_kind}
use Rattle.edit_record.specs.Answer1.{is_create}
use Rattle.edit_history.specs.EditsHeld.{most_records, record_at}
use Rattle.group_step.specs.GroupRows.{most_objects}
use Rattle.table_index.specs.IndexForms.{number_at, is_on, places_on, latest_on, limited_on}
use Rattle.table_index.specs.IndexForms.{head_at, link_at, limit_at, headed, linked_in, ChainsOf}
use Rattle.table_index.proofs.ChainsOfSets.{latest-here, latest-before, latest-stays, latest-none}
use Rattle.table_index.proofs.ChainsOfSets.{limited-added, limited-stays, limited-none}

module _ (rs : List ℕ) (n : ℕ) (ns hs : List ℕ) (x : ChainsOf rs n ns hs) (grow : number_at rs n ≤ number_at rs (suc n))
  where
    -- ---- no Set

    -- it may be a Create, whose number is then put among ns
    pub chains-stay :
        (ms : List ℕ) → ((p : ℕ) → p < n → get_or ms p 0 ≡ get_or ns p 0) → ((p : ℕ) → is_on rs p n ≡ false) →
        (is_create (record_at rs n) ≡ true →
        ((p : ℕ) → p < suc n → is_on rs n p ≡ false) × (number_at rs n < most_objects)) →
        ChainsOf rs (suc n) ms hs
    chains-stay ms same none create =
        record {
          chains-long = x.chains-long;
          latest = λ q k cq y l. elim (last k) [
            | inl m ↦ x.latest q m cq y l ∙ sym (latest-stays rs q y n (none q))
            | inr e ↦
                (let (free, low) = create (rw e at cq) in
                rw e (x.no-heads (number_at rs n) y (omega arith) low l ∙ sym (latest-none rs n y (suc n) free)))
          ];
          linked = λ q p k cq j on. elim (last j) [
            | inl m ↦ x.linked q p (before q p k m cq on) cq m on
            | inr e ↦ clash (rw e at on) (none q)
          ];
          ranked = λ q p k cq j on. elim (last j) [
            | inl m ↦ same p m ∙ x.ranked q p (before q p k m cq on) cq m on
            | inr e ↦ clash (rw e at on) (none q)
          ];
          limited = λ q k cq. elim (last k) [
            | inl m ↦ x.limited q m cq ∙ ap (λ (b : Bool). cond b 1 0) (sym (limited-stays rs q n (none q)))
            | inr e ↦
                (let (free, low) = create (rw e at cq) in
                rw e
                (x.no-limits (number_at rs n) (omega arith) low
                ∙ ap (λ (b : Bool). cond b 1 0) (sym (limited-none rs n (suc n) free))))
          ];
          no-heads = λ o y k l. x.no-heads o y (omega (arith, grow)) l;
          no-limits = λ o k. x.no-limits o (omega (arith, grow));
        }
      where
        before : (q p : ℕ) → q < suc n → p < n → is_create (record_at rs q) ≡ true → is_on rs q p ≡ true → q < n
        before q p k m cq on = elim (last k) [
          | inl j ↦ j
          | inr e ↦ clash (rw e at on) ((create (rw e at cq)).0 p (omega arith))
        ]

    -- ---- a Set on the Create in place q

    module _
        (q : ℕ)
        (m : q < n)
        (on : is_on rs q n ≡ true)
        (plain : is_create (record_at rs n) ≡ false)
        (create : is_create (record_at rs q) ≡ true)
        (few : (p : ℕ) → p < n → is_create (record_at rs p) ≡ true → (number_at rs p < most_objects)
        × (number_at rs p < number_at rs n))
        (other : (p : ℕ) → p < n → is_create (record_at rs p) ≡ true → (p ≡ q → ⊥) →
        (is_on rs p n ≡ false) × (number_at rs p ≡ number_at rs q → ⊥))
        (key : (record_at rs n).key < keys)
        (low : n < most_records)
        (room : n < length ns) where
      abbrev o : ℕ
      o = number_at rs q

      abbrev y : ℕ
      y = (record_at rs n).key

      abbrev kind : ℕ
      kind = (record_at rs n).kind

      -- the entries that are not touched
      elsewhere :
          (i : ℕ) → (i ≡ link_at n → ⊥) → (i ≡ head_at o y → ⊥) → (i ≡ limit_at o → ⊥) →
          get_or (linked_in hs n o kind y) i 0 ≡ get_or hs i 0
      elsewhere i a b d =
          get_or-set_other (headed hs n o y) (limit_at o) i
          (cond (eqb kind limited_kind) 1 (get_or (headed hs n o y) (limit_at o) 0)) 0 d
          ∙ get_or-set_other (set hs (link_at n) (get_or hs (head_at o y) 0)) (head_at o y) i n 0 b
          ∙ get_or-set_other hs (link_at n) i (get_or hs (head_at o y) 0) 0 a

      -- those that are
      head-is : get_or (linked_in hs n o kind y) (head_at o y) 0 ≡ n
      head-is =
          get_or-set_other (headed hs n o y) (limit_at o) (head_at o y)
          (cond (eqb kind limited_kind) 1 (get_or (headed hs n o y) (limit_at o) 0)) 0
          (λ e. absurd (omega (arith, (few q m create).0, key)))
          ∙ get_or-set_same (set hs (link_at n) (get_or hs (head_at o y) 0)) (head_at o y) n 0
          (simp length-set (omega (arith, x.chains-long, (few q m create).0, key)))

      link-is : get_or (linked_in hs n o kind y) (link_at n) 0 ≡ get_or hs (head_at o y) 0
      link-is =
          get_or-set_other (headed hs n o y) (limit_at o) (link_at n)
          (cond (eqb kind limited_kind) 1 (get_or (headed hs n o y) (limit_at o) 0)) 0 (λ e. absurd (omega (arith, low)))
          ∙ get_or-set_other (set hs (link_at n) (get_or hs (head_at o y) 0)) (head_at o y) (link_at n) n 0
          (λ e. absurd (omega (arith, (few q m create).0, key)))
          ∙ get_or-set_same hs (link_at n) (get_or hs (head_at o y) 0) 0 (omega (arith, x.chains-long, low))

      limit_is : get_or (linked_in hs n o kind y) (limit_at o) 0 ≡ cond (limited_on rs q (suc n)) 1 0
      limit_is =
          get_or-set_same (headed hs n o y) (limit_at o)
          (cond (eqb kind limited_kind) 1 (get_or (headed hs n o y) (limit_at o) 0)) 0
          (simp length-set (omega (arith, x.chains-long, (few q m create).0)))
          ∙ ap (cond (eqb kind limited_kind) 1) was
          ∙ joined (eqb kind limited_kind) (limited_on rs q n)
          ∙ ap (λ (b : Bool). cond b 1 0) (sym (limited-added rs q n on))
        where
          was : get_or (headed hs n o y) (limit_at o) 0 ≡ cond (limited_on rs q n) 1 0
          was =
              get_or-set_other (set hs (link_at n) (get_or hs (head_at o y) 0)) (head_at o y) (limit_at o) n 0
              (λ e. absurd (omega (arith, (few q m create).0, key)))
              ∙ get_or-set_other hs (link_at n) (limit_at o) (get_or hs (head_at o y) 0) 0 (λ e. absurd (omega (arith, low)))
              ∙ x.limited q m create

          joined : (a b : Bool) → ◌≡◌ {A = ℕ} (cond a 1 (cond b 1 0)) (cond (b || a) 1 0)
          joined true true = refl
          joined true false = refl
          joined false true = refl
          joined false false = refl

      older : {p : ℕ} → p < suc n → is_create (record_at rs p) ≡ true → p < n
      older j cp = elim (last j) [ inl i ↦ i | inr e ↦ clash (rw e at cp) plain ]

      -- the Create of the new Set
      own : (p : ℕ) → p < n → is_create (record_at rs p) ≡ true → is_on rs p n ≡ true → p ≡ q
      own p j cp is = go (ℕ_discrete p q)
        where
          go : Dec (p ≡ q) → p ≡ q
          go (yes e) = e
          go (no d) = clash is (other p j cp d).0

      latest-at :
          (p : ℕ) → p < n → is_create (record_at rs p) ≡ true → (z : ℕ) → z < keys → Dec (p ≡ q) → Dec (z ≡ y) →
          get_or (linked_in hs n o kind y) (head_at (number_at rs p) z) 0 ≡ latest_on rs p z (suc n)
      latest-at p j cp z l (yes e) (yes f) =
          rw (e, f)
          (head-is
          ∙ sym (latest-here rs q y n (and-on (is_on rs q n) (eqb y y) on (eq-eqb y y refl))))
      latest-at p j cp z l (yes e) (no d) =
          rw e
          (elsewhere (head_at o z) (λ i. absurd (omega (arith, (few q m create).0, l))) (λ i. d (omega arith))
          (λ i. absurd (omega (arith, (few q m create).0, l)))
          ∙ x.latest q m create z l
          ∙ sym (latest-before rs q z n (rw (ne_eqb y z (λ i. d (sym i)), on))))
      latest-at p j cp z l (no d) w =
          let (off, apart) = other p j cp d in
          let less = (few p j cp).0 in
          elsewhere (head_at (number_at rs p) z) (λ i. absurd (omega arith)) (λ i. apart (omega (arith, key, l)))
          (λ i. absurd (omega (arith, (few q m create).0)))
          ∙ x.latest p j cp z l
          ∙ sym (latest-stays rs p z n off)

      limited-at :
          (p : ℕ) → p < n → is_create (record_at rs p) ≡ true → Dec (p ≡ q) →
          get_or (linked_in hs n o kind y) (limit_at (number_at rs p)) 0 ≡ cond (limited_on rs p (suc n)) 1 0
      limited-at p j cp (yes e) = rw e limit_is
      limited-at p j cp (no d) =
          let (off, apart) = other p j cp d in
          elsewhere (limit_at (number_at rs p)) (λ i. absurd (omega (arith, low)))
          (λ i. absurd (omega (arith, (few q m create).0, key))) (λ i. apart (omega arith))
          ∙ x.limited p j cp
          ∙ ap (λ (b : Bool). cond b 1 0) (sym (limited-stays rs p n off))

      pub chains-linked :
          ChainsOf rs (suc n) (set ns n (length (places_on rs n q))) (linked_in hs n o kind y)
      chains-linked =
          record {
            chains-long = simp length-set x.chains-long;
            latest = λ p j cp z l. latest-at p (older j cp) cp z l (ℕ_discrete p q) (ℕ_discrete z y);
            linked = λ p r j cp k is. elim (last k) [
              | inl i ↦
                  elsewhere (link_at r) (λ e. absurd (omega arith))
                  (λ e. absurd (omega (arith, (few q m create).0, key))) (λ e. absurd (omega (arith, low)))
                  ∙ x.linked p r (older j cp) cp i is
              | inr e ↦
                  (let same = own p (older j cp) cp (rw e at is) in
                  rw (e, same) (link-is ∙ x.latest q m create y key))
            ];
            ranked = λ p r j cp k is. elim (last k) [
              | inl i ↦
                  get_or-set_other ns n r (length (places_on rs n q)) 0 (λ e. absurd (omega arith))
                  ∙ x.ranked p r (older j cp) cp i is
              | inr e ↦
                  (let same = own p (older j cp) cp (rw e at is) in
                  rw (e, same) (get_or-set_same ns n (length (places_on rs n q)) 0 room))
            ];
            limited = λ p j cp. limited-at p (older j cp) cp (ℕ_discrete p q);
            no-heads = λ p z k l i.
                elsewhere (head_at p z) (λ e. absurd (omega arith))
                (λ e. absurd (omega (arith, (few q m create).1, grow, key)))
                (λ e. absurd (omega (arith, (few q m create).0)))
                ∙ x.no-heads p z (omega (arith, grow)) l i;
            no-limits = λ p k l.
                elsewhere (limit_at p) (λ e. absurd (omega (arith, low)))
                (λ e. absurd (omega (arith, (few q m create).0, key)))
                (λ e. absurd (omega (arith, (few q m create).1, grow)))
                ∙ x.no-limits p (omega (arith, grow)) l;
          }
