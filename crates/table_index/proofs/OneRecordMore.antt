-- One record more in the index: a Create gets the next number and has no Sets yet, a Set is counted and stands at the
-- head of its chain, and any other has its place alone. Assumes that the records pass and are within the limits.
use mathlib.Core.Path.{◌≡◌, refl, sym, ap, ◌∙◌}
use mathlib.Core.Logic.{inl, inr}
use mathlib.Core.Bool.{true, false, cond}
use mathlib.Core.List.{List, [], ◌∷◌, ◌++◌}
use Prim.Native.Nat.{ℕ, suc, ◌+◌, ◌≤◌, ◌<◌}
use native.Mathlib.Omega.{arith}
use native.Mathlib.Decide.{ℕ_discrete}
use lib.Dec.{eqb}
use lib.ListN.{length, get_or, set, replicate, length-set, length-append}
use lib.Seq.{get_or-set_same, get_or-set_other}
use borrow.Author.Tests.{eqb-true, eq-eqb}
use Rattle.math_lists.specs.SortedLists.{filter}
use Rattle.math_lists.proofs.Booleans.{clash, off, both, and-on}
use Rattle.math_lists.proofs.LastBelow.{last}
use Rattle.math_lists.proofs.NumbersBelow.{all-at, all-on}
use Rattle.math_lists.proofs.ByPlaces.{zero-anywhere}
use Rattle.edit_record.specs.Layout.{most_sites, keys}
use Rattle.edit_record.specs.Answer1.{is_create, is_set}
use Rattle.edit_causal.specs.Causal.{same_edit}
use Rattle.edit_history.specs.EditsHeld.{most_records, record_at, edits_of, creates, is_set_on, sets_on}
use Rattle.edit_history.specs.Answers2to5.{passes, records_pass}
use Rattle.edit_walk.specs.WalkForms.{places_length, slot_of, place_of, Indexed, Spaced, SameStarts, count_in}
use Rattle.edit_history.proofs.EditsHeld.{target-parts, create-less, chosen-grow, chosen_more}
use Rattle.edit_history.proofs.RecordsPassed.{formed-at, one_place, target-before, set_after}
use Rattle.edit_walk.proofs.WalkKeeps.{slot-low, starts-same, indexed-more}
use Rattle.group_step.specs.GroupRows.{most_objects, most_sets}
use Rattle.table_drawing.specs.declared.Counters.{Counters}
use Rattle.table_index.specs.IndexForms.{number_at, is_on, places_on, head_at, limit_at, chains_length, linked_in}
use Rattle.table_index.specs.IndexForms.{IndexOf, Holds}
use Rattle.table_index.proofs.PlacesOfSets.{places-added, places-stay, places-none, places-length, one_number}
use Rattle.table_index.proofs.ChainsOneMore.{chains-stay, chains-linked}
use Rattle.edit_record.proofs.WellFormed.{create-not-set, set-not-create, set-aimed}

-- ---- the start

pub index-starts :
    (rs ps ns : List ℕ) → length ps ≡ places_length → length ns ≡ most_records →
    IndexOf rs 0 ps ns (replicate most_objects 0) (replicate chains_length 0)
index-starts rs ps ns a b =
    record {
      places-long = a;
      numbers-long = b;
      counts-long = refl;
      indexed = λ p l. absurd (omega arith);
      numbered = λ p l. absurd (omega arith);
      counted = λ p l. absurd (omega arith);
      fresh = λ o l. zero-anywhere most_objects o;
      chained = record {
        chains-long = refl;
        latest = λ q l. absurd (omega arith);
        linked = λ q p l. absurd (omega arith);
        ranked = λ q p l. absurd (omega arith);
        limited = λ q l. absurd (omega arith);
        no-heads = λ o y l k j. zero-anywhere chains_length (head_at o y);
        no-limits = λ o l k. zero-anywhere chains_length (limit_at o);
      };
    }

pub none-numbered : (rs : List ℕ) → 0 ≡ number_at rs 0
unfolding creates edits_of filter
none-numbered rs = refl

-- ---- one record more

module _ (c : Counters) (rs : List ℕ) (h : Holds c rs) (n : ℕ) (l : n < c.records) where
  -- a Set on the Create in place p has the identity of that Create for its target
  pub on-target :
      (p q : ℕ) → is_on rs p q ≡ true →
      (is_set (record_at rs q) ≡ true)
      × ((record_at rs q).tsite.0 ≡ (record_at rs p).site.0)
      × ((record_at rs q).tseq.0 ≡ (record_at rs p).seq.0)
  on-target p q on =
      let e = record_at rs q in
      let a = record_at rs p in
      let (set, same) = both (is_set e) (same_edit e.tsite e.tseq a.site a.seq) on in
      let (site, seq) = both (eqb e.tsite.0 a.site.0) (eqb e.tseq.0 a.seq.0) same in
      (set, eqb-true e.tsite.0 a.site.0 site, eqb-true e.tseq.0 a.seq.0 seq)

  -- the first records pass too
  pass_below : (m : ℕ) → m ≤ c.records → records_pass c.sites rs m ≡ true
  unfolding records_pass
  pass_below m k =
      all-on m (λ p. passes c.sites (edits_of rs p) (record_at rs p))
      (λ p j. all-at c.records (λ q. passes c.sites (edits_of rs q) (record_at rs q)) h.pass p (omega arith))

  numbers-few : (m : ℕ) → m ≤ c.records → number_at rs m ≤ most_objects
  unfolding creates
  numbers-few m k =
      let all : c.objects ≡ number_at rs c.records = h.objects in
      omega (arith, chosen-grow is_create rs m c.records k, h.few-objects)

  numbers-grow : number_at rs n ≤ number_at rs (suc n)
  unfolding creates
  numbers-grow = chosen-grow is_create rs n (suc n) (omega arith)

  pub number-low : number_at rs n ≤ most_objects
  number-low = numbers-few n (omega arith)

  pub number_more : number_at rs (suc n) ≡ number_at rs n + cond (is_create (record_at rs n)) 1 0
  unfolding creates
  number_more = chosen_more is_create rs n

  places-few : (m p : ℕ) → m ≤ c.records → length (places_on rs m p) ≤ most_sets
  unfolding sets_on
  places-few m p k =
      let s = (record_at rs p).site in
      let q = (record_at rs p).seq in
      omega (
        arith,
        places-length rs p m,
        chosen-grow (is_set_on s q) rs m c.records k,
        h.few-sets s q,
      )

  module _ (ps ns cs hs : List ℕ) (x : IndexOf rs n ps ns cs hs) (spaced : Spaced (count_in rs (suc n)) ps) where
    abbrev at : ℕ
    at = slot_of ps (record_at rs n).site.0 (record_at rs n).seq.0

    fits : (s : ℕ) → s < most_sites → count_in rs (suc n) s ≤ count_in rs (suc n) s
    fits s m = omega arith

    placed : Indexed rs (suc n) (set ps at n)
    placed =
        indexed-more c.sites h.few-sites rs n (pass_below (suc n) l) (count_in rs (suc n)) fits ps spaced
        x.indexed

    pub spot-low : at < places_length
    spot-low =
        slot-low c.sites h.few-sites rs n (pass_below (suc n) l) (count_in rs (suc n)) fits ps spaced

    pub starts-kept : SameStarts ps (set ps at n)
    starts-kept =
        starts-same c.sites h.few-sites rs n (pass_below (suc n) l) (count_in rs (suc n)) fits ps spaced

    -- ---- no Set

    -- the places of the Sets stay as they are
    not_on : is_set (record_at rs n) ≡ false → (p : ℕ) → is_on rs p n ≡ false
    not_on d p = off (is_on rs p n) (λ on. clash (on-target p n on).0 d)

    -- ---- neither a Create nor a Set

    pub place-added :
        is_create (record_at rs n) ≡ false → is_set (record_at rs n) ≡ false → IndexOf rs (suc n) (set ps at n) ns cs hs
    place-added d e =
        record {
          places-long = simp length-set x.places-long;
          numbers-long = x.numbers-long;
          counts-long = x.counts-long;
          indexed = placed;
          numbered = λ p k cp. x.numbered p (before p k cp) cp;
          counted = λ p k cp. x.counted p (before p k cp) cp ∙ ap length (sym (places-stay rs p n (not_on e p)));
          fresh = λ o k. x.fresh o (omega (arith, numbers-grow));
          chained =
              chains-stay rs n ns hs x.chained numbers-grow ns (λ p l. refl) (not_on e) (λ create. clash create d);
        }
      where
        before : (p : ℕ) → p < suc n → is_create (record_at rs p) ≡ true → p < n
        before p k cp = elim (last k) [ inl m ↦ m | inr e ↦ clash (rw e at cp) d ]

    -- ---- a Create

    module _ (create : is_create (record_at rs n) ≡ true) where
      no-set : is_set (record_at rs n) ≡ false
      no-set = create-not-set (record_at rs n) create

      -- no Set can have named it
      none_named : (p : ℕ) → p < suc n → is_on rs n p ≡ false
      none_named p k = off (is_on rs n p) (λ on. elim (last k) [
        | inl m ↦ omega (arith, set_after c.sites rs c.records h.pass n p l (omega arith) on)
        | inr e ↦ clash (rw e at on) (not_on no-set n)
      ])

      pub create-added : IndexOf rs (suc n) (set ps at n) (set ns n (number_at rs n)) cs hs
      create-added =
          record {
            places-long = simp length-set x.places-long;
            numbers-long = simp length-set x.numbers-long;
            counts-long = x.counts-long;
            indexed = placed;
            numbered = λ p k cp. elim (last k) [
              | inl m ↦ get_or-set_other ns n p (number_at rs n) 0 (λ e. absurd (omega arith)) ∙ x.numbered p m cp
              | inr e ↦
                  rw e (get_or-set_same ns n (number_at rs n) 0
                  (omega (arith, x.numbers-long, h.few-records)))
            ];
            counted = λ p k cp. elim (last k) [
              | inl m ↦ x.counted p m cp ∙ ap length (sym (places-stay rs p n (not_on no-set p)))
              | inr e ↦ rw (e, places-none rs n (suc n) none_named) (x.fresh (number_at rs n) (omega arith))
            ];
            fresh = λ o k. x.fresh o (omega (arith, numbers-grow));
            chained =
                chains-stay rs n ns hs x.chained numbers-grow (set ns n (number_at rs n))
                (λ p k. get_or-set_other ns n p (number_at rs n) 0 (λ e. absurd (omega arith))) (not_on no-set)
                (λ y. (
                  none_named,
                  omega (arith, create-less rs n (suc n) (omega arith) create, numbers-few (suc n) l),
                ));
          }

    -- ---- a Set

    -- its target is a Create before it, and the index says where
    pub target_at :
        is_set (record_at rs n) ≡ true →
        (q : ℕ)
        × (q < n)
        × (is_create (record_at rs q) ≡ true)
        × (is_on rs q n ≡ true)
        × (place_of (set ps at n) (record_at rs n).tsite.0 (record_at rs n).tseq.0 ≡ q)
    target_at is =
        let e = record_at rs n in
        let (q, m, t) = target-before c.sites rs c.records h.pass n l (set-aimed e is) in
        let a = record_at rs q in
        let parts = target-parts e a t in (
          q,
          m,
          parts.create,
          and-on (is_set e) (same_edit e.tsite e.tseq a.site a.seq) is
              (and-on (eqb e.tsite.0 a.site.0) (eqb e.tseq.0 a.seq.0)
              (eq-eqb e.tsite.0 a.site.0 (sym parts.site))
              (eq-eqb e.tseq.0 a.seq.0 (sym parts.seq))),
          rw (parts.site, parts.seq) at (placed q (omega arith)),
        )

    -- on the Create in place q

    module _ (q : ℕ) (m : q < n) (create : is_create (record_at rs q) ≡ true) (on : is_on rs q n ≡ true) where
      abbrev o : ℕ
      o = number_at rs q

      abbrev k : ℕ
      k = get_or cs o 0

      count : k ≡ length (places_on rs n q)
      count = x.counted q m create

      grown : places_on rs (suc n) q ≡ places_on rs n q ++ (n ∷ [])
      grown = places-added rs q n on

      grown-length : length (places_on rs (suc n) q) ≡ suc k
      grown-length = ap length grown ∙ length-append (places_on rs n q) (n ∷ []) ∙ omega (arith, count)

      pub room : k < most_sets
      room = omega (arith, grown-length, places-few (suc n) q l)

      pub low : o < most_objects
      low = omega (arith, create-less rs q n m create, numbers-few n (omega arith))

      -- the others stay as they are
      other : (p : ℕ) → p < n → is_create (record_at rs p) ≡ true → (p ≡ q → ⊥) →
          (is_on rs p n ≡ false) × (number_at rs p ≡ o → ⊥)
      other p j cp d = (
        off (is_on rs p n) (λ y.
            let (s, a, b) = on-target p n y in
            let (s', a', b') = on-target q n on in
            d (one_place c.sites rs c.records h.pass p q (omega arith) (omega arith) (sym a ∙ a')
            (sym b ∙ b'))),
        λ e. d (one_number rs p q cp create e),
      )

      is-set : is_set (record_at rs n) ≡ true
      is-set = (on-target q n on).0

      no-create : is_create (record_at rs n) ≡ false
      no-create = set-not-create (record_at rs n) is-set

      newer : {A : Type 0} {p : ℕ} → p ≡ n → is_create (record_at rs p) ≡ true → A
      newer e cp = clash (rw e at cp) no-create

      older-few :
          (p : ℕ) → p < n → is_create (record_at rs p) ≡ true →
          (number_at rs p < most_objects) × (number_at rs p < number_at rs n)
      older-few p j cp =
          let less = create-less rs p n j cp in
          (omega (arith, numbers-few n (omega arith)), less)

      pub key-low : (record_at rs n).key < keys
      key-low = (formed-at c.sites rs c.records h.pass n l).key

      pub set-added :
          IndexOf rs (suc n) (set ps at n) (set ns n k) (set cs o (k + 1))
          (linked_in hs n o (record_at rs n).kind (record_at rs n).key)
      set-added =
          record {
            places-long = simp length-set x.places-long;
            numbers-long = simp length-set x.numbers-long;
            counts-long = simp length-set x.counts-long;
            indexed = placed;
            numbered = λ p j cp. elim (last j) [
              | inl i ↦ get_or-set_other ns n p k 0 (λ e. absurd (omega arith)) ∙ x.numbered p i cp
              | inr e ↦ newer e cp
            ];
            counted = λ p j cp. elim (last j) [ inl i ↦ counted-at p i cp (ℕ_discrete p q) | inr e ↦ newer e cp ];
            fresh = λ p j.
                get_or-set_other cs o p (k + 1) 0
                (λ e. absurd
                (omega (arith, create-less rs q n m create, numbers-grow)))
                ∙ x.fresh p (omega (arith, numbers-grow));
            chained =
                rw count
                (chains-linked rs n ns hs x.chained numbers-grow q m on no-create create older-few other key-low
                (omega (arith, h.few-records)) (omega (arith, x.numbers-long, h.few-records)));
          }
        where
          counted-at :
              (p : ℕ) → p < n → is_create (record_at rs p) ≡ true → Dec (p ≡ q) →
              get_or (set cs o (k + 1)) (number_at rs p) 0 ≡ length (places_on rs (suc n) p)
          counted-at p j cp (yes e) =
              rw (e, get_or-set_same cs o (k + 1) 0 (omega (arith, x.counts-long, low)))
              (omega (arith, grown-length))
          counted-at p j cp (no d) =
              get_or-set_other cs o (number_at rs p) (k + 1) 0 (other p j cp d).1
              ∙ x.counted p j cp
              ∙ ap length (sym (places-stay rs p n (other p j cp d).0))
