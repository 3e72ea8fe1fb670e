-- The places of the Sets on a Create, put down along their chains: one link back puts down one more, and where all are
-- put down they stand at the front, in their order. The index has such chains of the box that an edit targets. Assumes
-- nothing.
use mathlib.Core.Path.{◌≡◌, refl, sym, ap, subst, ◌∙◌}
use mathlib.Core.Logic.{inl, inr}
use mathlib.Core.Bool.{Bool, true, false, cond}
use mathlib.Core.List.{List, [], ◌∷◌, map}
use Prim.Native.Nat.{ℕ, zero, suc, ◌≤◌, ◌<◌}
use native.Mathlib.Omega.{arith}
use native.Mathlib.Decide.{ℕ_discrete, dec_lt}
use lib.Dec.{eqb}
use lib.ListN.{length, get_or, set, take, length-set, length-append}
use lib.Seq.{get_or-set_same, get_or-set_other, take-suc}
use borrow.Author.Tests.{eqb-true, eq-eqb}
use Rattle.math_lists.specs.NumbersBelow.{keep}
use Rattle.math_lists.specs.SortedLists.{any}
use Rattle.math_lists.proofs.Booleans.{clash, decide, both, and-on, off}
use Rattle.math_lists.proofs.LastBelow.{last}
use Rattle.edit_record.specs.declared.Edit.{Edit}
use Rattle.edit_history.specs.EditsHeld.{record_at, edits_of, is_target, sets_on}
use Rattle.edit_history.proofs.EditsHeld.{target-parts}
use Rattle.edit_history.proofs.RecordsPassed.{set_after, formed-at}
use Rattle.edit_walk.specs.WalkForms.{place_of}
use Rattle.group_step.specs.GroupRows.{most_sets}
use Rattle.table_drawing.specs.declared.Counters.{Counters}
use Rattle.table_index.specs.IndexForms.{is_on, places_on, is_keyed, latest_on, IndexOf, Holds}
use Rattle.table_index.proofs.PlacesOfSets.{places-added, places-stay, places-grow, places-length}
use Rattle.table_index.proofs.SurveyByIndex.{aimed}
use Rattle.table_kept.specs.ChainForms.{ChainsOn, number_on, PutFrom, IndexedIn}

module _ (rs : List ℕ) (q : ℕ) where
  rank-next : (x : ℕ) → is_on rs q x ≡ true → number_on rs q (suc x) ≡ suc (number_on rs q x)
  rank-next x h =
      omega (arith, ap length (places-added rs q x h), length-append (places_on rs x q) (x ∷ []))

  -- a later Set has a larger number
  rank_less : (x z : ℕ) → is_on rs q x ≡ true → x < z → number_on rs q x < number_on rs q z
  rank_less x z h l = omega (arith, rank-next x h, places-grow rs q (suc x) z l)

  rank-apart :
      (x z : ℕ) → is_on rs q x ≡ true → is_on rs q z ≡ true → (x ≡ z → ⊥) → number_on rs q x ≡ number_on rs q z → ⊥
  rank-apart x z hx hz d e = go (dec_lt x z)
    where
      go : Dec (x < z) → ⊥
      go (yes l) = omega (arith, rank_less x z hx l, e)
      go (no a) = omega (arith, rank_less z x hz (omega (arith, neither)), e)
        where
          neither : z < x
          neither = go' (dec_lt z x)
            where
              go' : Dec (z < x) → z < x
              go' (yes l) = l
              go' (no b) = absurd (d (omega arith))

  -- the latest one of a key before m: none of that key stands between
  pub record LatestBefore (y m p : ℕ) : Type 0 where
    pub below : p < m
    pub on : is_on rs q p ≡ true
    pub key : (record_at rs p).key ≡ y
    pub none : (x : ℕ) → x < m → is_on rs q x ≡ true → (record_at rs x).key ≡ y → x ≤ p

  keyed-at : (y x : ℕ) → is_on rs q x ≡ true → (record_at rs x).key ≡ y → is_keyed rs q y x ≡ true
  keyed-at y x h k = and-on (is_on rs q x) (eqb (record_at rs x).key y) h (eq-eqb (record_at rs x).key y k)

  pub latest-before : (y m : ℕ) → 0 < latest_on rs q y m → LatestBefore y m (latest_on rs q y m)
  unfolding latest_on
  latest-before y zero l = absurd (omega arith)
  latest-before y (suc m) l = go (is_keyed rs q y m) refl l (latest-before y m)
    where
      go : (b : Bool) → is_keyed rs q y m ≡ b → 0 < cond b m (latest_on rs q y m) →
          (0 < latest_on rs q y m → LatestBefore y m (latest_on rs q y m)) →
          LatestBefore y (suc m) (cond b m (latest_on rs q y m))
      go true h l ih =
          let (on, key) = both (is_on rs q m) (eqb (record_at rs m).key y) h in
          record {
            below = omega arith;
            on = on;
            key = eqb-true (record_at rs m).key y key;
            none = λ x k _ _. omega arith;
          }
      go false h l ih =
          let d = ih l in
          record {
            below = omega (arith, d.below);
            on = d.on;
            key = d.key;
            none = λ x k o e. elim (last {i = x} {n = m} k) [
              | inl j ↦ d.none x j o e
              | inr z ↦ clash (keyed-at y x o e) (rw z h)
            ];
          }

  -- where there is none, none of that key stands before m
  pub latest-none-before :
      (y m : ℕ) → is_on rs q 0 ≡ false → latest_on rs q y m ≡ 0 → (x : ℕ) → x < m → is_on rs q x ≡ true →
      (record_at rs x).key ≡ y → ⊥
  unfolding latest_on
  latest-none-before y zero first l x k o e = absurd (omega arith)
  latest-none-before y (suc m) first l x k o e =
      go (is_keyed rs q y m) refl l (λ z j. latest-none-before y m first z x j o e)
    where
      go : (b : Bool) → is_keyed rs q y m ≡ b → cond b m (latest_on rs q y m) ≡ 0 →
          (latest_on rs q y m ≡ 0 → x < m → ⊥) → ⊥
      go true h z ih = clash (rw z at (both (is_on rs q m) (eqb (record_at rs m).key y) h).0) first
      go false h z ih = elim (last {i = x} {n = m} k) [
        | inl j ↦ ih z j
        | inr w ↦ clash (keyed-at y x o e) (rw w h)
      ]

  -- ---- one link back

  pub put-one-more :
      (n y m p : ℕ) (qs ps : List ℕ) → m ≤ n → LatestBefore y m p → PutFrom rs n q y m qs ps →
      number_on rs q p < length ps → PutFrom rs n q y p qs (set ps (number_on rs q p) p)
  put-one-more n y m p qs ps few d h room = record {
    long = length-set ps (number_on rs q p) p ∙ h.long;
    put = λ x l on key from. elim (ℕ_discrete x p) [
      | yes z ↦ rw z (get_or-set_same ps (number_on rs q p) p 0 room)
      | no w ↦
          get_or-set_other ps (number_on rs q p) (number_on rs q x) p 0 (rank-apart x p on d.on w)
          ∙ h.put x l on key (later x w on key from)
    ];
    others = λ x l on key.
        get_or-set_other ps (number_on rs q p) (number_on rs q x) p 0 (rank-apart x p on d.on (λ z. key (rw z d.key)))
        ∙ h.others x l on key;
  }
    where
      later : (x : ℕ) → (x ≡ p → ⊥) → is_on rs q x ≡ true → (record_at rs x).key ≡ y → p ≤ x → m ≤ x
      later x w on key from = go (dec_lt x m)
        where
          go : Dec (x < m) → m ≤ x
          go (yes l) = absurd (w (omega (arith, d.none x l on key)))
          go (no a) = omega arith

  -- where the chain ends, all of the key are put down
  pub put-to-end :
      (n y m : ℕ) (qs ps : List ℕ) → is_on rs q 0 ≡ false → latest_on rs q y m ≡ 0 → PutFrom rs n q y m qs ps →
      PutFrom rs n q y 0 qs ps
  put-to-end n y m qs ps first end h = record {
    long = h.long;
    put = λ x l on key from. h.put x l on key (go x on key (dec_lt x m));
    others = h.others;
  }
    where
      go : (x : ℕ) → is_on rs q x ≡ true → (record_at rs x).key ≡ y → Dec (x < m) → m ≤ x
      go x on key (yes l) = absurd (latest-none-before y m first end x l on key)
      go x on key (no a) = omega arith

  -- ---- all of them

  pub all-in-order :
      (ps : List ℕ) (n : ℕ) → number_on rs q n ≤ length ps →
      ((x : ℕ) → x < n → is_on rs q x ≡ true → get_or ps (number_on rs q x) 0 ≡ x) →
      take (number_on rs q n) ps ≡ places_on rs n q
  unfolding places_on keep
  all-in-order ps zero l h = refl
  all-in-order ps (suc n) l h = elim (decide (is_on rs q n)) [
    | inl on ↦
        (let next = rank-next n on in
        ap (λ (k : ℕ). take k ps) next
        ∙ take-suc ps (number_on rs q n) 0 (omega (arith, next))
        ∙ rw (h n (omega arith) on, all-in-order ps n (omega (arith, next)) (λ x k. h x (omega arith)))
        (sym (places-added rs q n on)))
    | inr none ↦
        (let same = places-stay rs q n none in
        ap (λ (k : ℕ). take k ps) (ap length same)
        ∙ all-in-order ps n (omega (arith, ap length same)) (λ x k. h x (omega arith))
        ∙ sym same)
  ]

  -- its number is within what there is room for
  pub rank-fits : (n p : ℕ) → p < n → is_on rs q p ≡ true → length (places_on rs n q) ≤ most_sets → number_on rs q p <
      most_sets
  rank-fits n p l on narrow = omega (arith, rank_less p n on l, narrow)

-- ---- the chains of the box that an edit targets

pub target-chains :
    (rs : List ℕ) (n : ℕ) (ps ns hs : List ℕ) → IndexedIn rs n ps ns hs → (e : Edit) →
    any (is_target e) (edits_of rs n) ≡ true →
    let q = place_of ps e.tsite.0 e.tseq.0 in
    ChainsOn rs n ns hs q × (map (record_at rs) (places_on rs n q) ≡ sets_on e.tsite e.tseq (edits_of rs n))
target-chains rs n ps ns hs x e held =
    let c = x.counters in
    let h = x.holds in
    subst
    (λ (k : ℕ). IndexOf rs k ps ns x.counts hs → any (is_target e) (edits_of rs k) ≡ true →
    ChainsOn rs k ns hs (place_of ps e.tsite.0 e.tseq.0)
    × (map (record_at rs) (places_on rs k (place_of ps e.tsite.0 e.tseq.0))
    ≡ sets_on e.tsite e.tseq (edits_of rs k)))
    x.all (counted-chains rs c h ps ns x.counts hs e) x.index held
  where
    counted-chains :
        (rs : List ℕ) (c : Counters) (h : Holds c rs) (ps ns cs hs : List ℕ) (e : Edit) →
        IndexOf rs c.records ps ns cs hs → any (is_target e) (edits_of rs c.records) ≡ true →
        ChainsOn rs c.records ns hs (place_of ps e.tsite.0 e.tseq.0)
        × (map (record_at rs) (places_on rs c.records (place_of ps e.tsite.0 e.tseq.0))
        ≡ sets_on e.tsite e.tseq (edits_of rs c.records))
    counted-chains rs c h ps ns cs hs e ix held =
        let q = place_of ps e.tsite.0 e.tseq.0 in
        let t = aimed c rs h ps ns cs hs ix e held in (
          record {
            low = t.low;
            few = h.few-records;
            create = (target-parts e (record_at rs q) t.target).create;
            chained = ix.chained;
            number = t.number;
            first =
                off (is_on rs q 0) (λ on. omega (
                  arith,
                  set_after c.sites rs c.records h.pass q 0 t.low (omega (arith, t.low)) on,
                ));
            known = λ z l on. (formed-at c.sites rs c.records h.pass z l).key;
            narrow = omega (
              arith,
              places-length rs q c.records,
              h.few-sets (record_at rs q).site (record_at rs q).seq,
            );
          },
          t.sets,
        )
