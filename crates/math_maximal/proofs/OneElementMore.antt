-- What becomes of the maximal conflict-free sets of S when one element k is added: the step of document 01, said of
-- sets, where `c k` is the set of what conflicts with k. What is assumed of c stands at the head of each part.
use mathlib.Core.Path.{◌≡◌}
use mathlib.Core.Logic.{◌⊎◌, inl, inr}
use mathlib.Core.Bool.{Bool, false}
use Prim.Native.Nat.{ℕ, ◌<◌}
use lib.Dec.{eqb}
use borrow.Author.Tests.{eqb-true}
use Rattle.math_lists.proofs.Booleans.{clash, decide, eqb-self}
use Rattle.math_maximal.specs.MaximalSets.{◌∈◌, ◌⊆◌, with, without, Fits, Free, Maximal}
use Rattle.math_maximal.proofs.MaximalSets.{with_cases, with-old, with-new, without_at, without_on, top}
use Rattle.math_maximal.proofs.MaximalSets.{with-free, within-maximal}

-- the members of P that are not in D, together with k
unfoldable pub offer : (ℕ → Bool) → ℕ → (ℕ → Bool) → ℕ → Bool
offer D k P = with (without P D) k

module _ (D : ℕ → Bool) (k : ℕ) (P : ℕ → Bool) where
  offer-new : k ∈ offer D k P
  unfolding offer
  offer-new = with-new (without P D) k

  offer-old : (i : ℕ) → i ∈ P → D i ≡ false → i ∈ offer D k P
  unfolding offer
  offer-old i p d = with-old (without P D) k i (without_on P D i p d)

  offer-cases : (i : ℕ) → i ∈ offer D k P → ((i ∈ P) × (D i ≡ false)) ⊎ (i ≡ k)
  unfolding offer
  offer-cases i h = elim (with_cases (without P D) k i h) [ inl a ↦ inl (without_at P D i a) | inr e ↦ inr e ]

-- ---- the maximal sets that k does not join: nothing is assumed of c

module _ (c : ℕ → ℕ → Bool) (S : ℕ → Bool) (k : ℕ) where
  pub stays : {P : ℕ → Bool} → Maximal c S P → (Fits c P k → ⊥) → Maximal c (with S k) P
  stays m d = record {
    is_free = record { within = λ i p. with-old S k i (m.is_free.within i p); free = m.is_free.free };
    full = λ i s f. elim (with_cases S k i s) [ inl t ↦ m.full i t f | inr e ↦ absurd (d (rw e at f)) ];
  }

  pub stayed : {Q : ℕ → Bool} → Maximal c (with S k) Q → Q k ≡ false → Maximal c S Q
  stayed m d = record {
    is_free = record {
      within = λ i q. elim (with_cases S k i (m.is_free.within i q)) [ inl t ↦ t | inr e ↦ clash q (rw e d) ];
      free = m.is_free.free;
    };
    full = λ i s f. m.full i (with-old S k i s) f;
  }

without-free : {c : ℕ → ℕ → Bool} {S P : ℕ → Bool} → Free c S P → (D : ℕ → Bool) → Free c S (without P D)
without-free {P = P} h D = record {
  within = λ i p. h.within i (without_at P D i p).0;
  free = λ i p j q. h.free i (without_at P D i p).0 j (without_at P D j q).0;
}

-- ---- those that hold k: c is symmetric and irreflexive, and S has a bound

module _ (c : ℕ → ℕ → Bool) (sm : (i j : ℕ) → c i j ≡ c j i) (irr : (i : ℕ) → c i i ≡ false)
    (N : ℕ) (S : ℕ → Bool) (bound : (i : ℕ) → i ∈ S → i < N) (k : ℕ) where
  -- a candidate has no conflict inside
  offer-free : {P : ℕ → Bool} → Free c S P → Free c (with S k) (offer (c k) k P)
  unfolding offer
  offer-free {P} h =
      with-free c sm irr (without-free h (c k)) (λ i p. with-old S k i (h.within i (without_at P (c k) i p).0)) k
      (with-new S k) (λ j q. (without_at P (c k) j q).1)

  -- a candidate that is not part of a larger one is a maximal set
  pub offer-maximal :
      {P : ℕ → Bool} → Maximal c S P →
      ((R : ℕ → Bool) → Maximal c S R → offer (c k) k P ⊆ offer (c k) k R → offer (c k) k R ⊆ offer (c k) k P) →
      Maximal c (with S k) (offer (c k) k P)
  offer-maximal {P} m largest = record {
    is_free = offer-free m.is_free;
    full = λ i s f. elim (with_cases S k i s) [ inl t ↦ inner i t f | inr e ↦ rw e (offer-new (c k) k P) ];
  }
    where
      inner : (i : ℕ) → i ∈ S → Fits c (offer (c k) k P) i → i ∈ offer (c k) k P
      inner i t f =
          let L = without P (c k) in
          let h = without-free m.is_free (c k) in
          let fit : Fits c L i = λ j q. let (a, b) = without_at P (c k) j q in f j (offer-old (c k) k P j a b) in
          let (R, r, sub) = within-maximal c sm irr N S bound (with L i) (with-free c sm irr h h.within i t fit) in
          largest R r
          (λ j q. elim (offer-cases (c k) k P j q) [
            | inl a ↦ offer-old (c k) k R j (sub j (with-old L i j (without_on P (c k) j a.0 a.1))) a.1
            | inr e ↦ rw e (offer-new (c k) k R)
          ])
          i (offer-old (c k) k R i (sub i (with-new L i)) (rw sm (f k (offer-new (c k) k P))))

  -- a maximal set is part of no larger candidate
  pub offer-top :
      {Q R : ℕ → Bool} → Maximal c (with S k) Q → Maximal c S R → Q ⊆ offer (c k) k R → offer (c k) k R ⊆ Q
  offer-top m r sub i h = let f = offer-free r.is_free in top m f sub i (f.within i h) h

  -- a maximal set that holds k is part of a candidate
  pub offered-by :
      {Q : ℕ → Bool} → Maximal c (with S k) Q → k ∈ Q →
      (P : ℕ → Bool) × Maximal c S P × (Q ⊆ offer (c k) k P)
  offered-by {Q} m d =
      let D : ℕ → Bool = λ j. eqb j k in
      let (P, p, sub) = within-maximal c sm irr N S bound (without Q D) (record {
        within = λ j q. let (a, b) = without_at Q D j q in
            elim (with_cases S k j (m.is_free.within j a)) [ inl s ↦ s | inr e ↦ clash (rw e (eqb-self k)) b ];
        free = (without-free m.is_free D).free;
      }) in (
        P,
        p,
        λ j q. elim (decide (eqb j k)) [
          | inl e ↦ rw (eqb-true j k e) (offer-new (c k) k P)
          | inr e ↦ offer-old (c k) k P j (sub j (without_on Q D j q e)) (m.is_free.free k d j q)
        ],
      )
