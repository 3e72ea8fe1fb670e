-- What holds of the maximal conflict-free sets of any set S. The laws over a free element type assume nothing of the
-- relation; those that enlarge a set assume that it is symmetric and irreflexive, and that S has a bound.
use mathlib.Core.Path.{◌≡◌, sym, ◌∙◌, fun_ext}
use mathlib.Core.Logic.{◌↔◌, ◌⊎◌, inl, inr}
use mathlib.Core.Bool.{Bool, true, false, not, ◌&&◌}
use Prim.Native.Nat.{ℕ, zero, suc, ◌<◌}
use native.Mathlib.Omega.{arith}
use lib.Dec.{eqb}
use borrow.Author.Tests.{eqb-true, not-true}
use Rattle.math_lists.proofs.Booleans.{clash, decide, same_test, both, either, or_left, or_right, eqb-self}
use Rattle.math_lists.proofs.LastBelow.{last}
use Rattle.math_lists.proofs.NumbersBelow.{find}
use Rattle.math_maximal.specs.MaximalSets.{◌∈◌, ◌⊆◌, with, without, Fits, Free, Maximal, InWords}

-- f takes D onto the members of S, and carries the one relation to the other
pub record Onto
    {E D : Type 0} (c : E → E → Bool) (S : E → Bool) (d : D → D → Bool) (U : D → Bool) (f : D → E) : Type 0 where
  pub into : (i : D) → i ∈ U → f i ∈ S
  pub onto : (j : E) → j ∈ S → (i : D) × (i ∈ U) × (f i ≡ j)
  pub agree : (i j : D) → i ∈ U → j ∈ U → d i j ≡ c (f i) (f j)

-- ---- sets as tests

pub same_set : {E : Type 0} {P Q : E → Bool} → P ⊆ Q → Q ⊆ P → P ≡ Q
same_set {P = P} {Q = Q} f g = fun_ext (λ i. same_test (P i) (Q i) (f i) (g i))

module _ (P : ℕ → Bool) (x : ℕ) where
  pub with_cases : (i : ℕ) → i ∈ with P x → (i ∈ P) ⊎ (i ≡ x)
  unfolding with
  with_cases i h = elim (either (P i) (eqb i x) h) [ inl a ↦ inl a | inr b ↦ inr (eqb-true i x b) ]

  pub with-old : P ⊆ with P x
  unfolding with
  with-old i h = or_left (P i) (eqb i x) h

  pub with-new : x ∈ with P x
  unfolding with
  with-new = or_right (P x) (eqb x x) (eqb-self x)

module _ (P Q : ℕ → Bool) (i : ℕ) where
  pub without_at : i ∈ without P Q → (i ∈ P) × (Q i ≡ false)
  unfolding without
  without_at h = let (p, q) = both (P i) (not (Q i)) h in (p, not-true (Q i) q)

  pub without_on : i ∈ P → Q i ≡ false → i ∈ without P Q
  unfolding without
  without_on p q = rw (p, q)

-- ---- of any elements, for any relation

-- a conflict-free set that holds a maximal set of S has no other member of S
pub top :
    {E : Type 0} {c : E → E → Bool} {S P U Q : E → Bool} → Maximal c S P → Free c U Q → P ⊆ Q →
    (i : E) → i ∈ S → i ∈ Q → i ∈ P
top m f sub i s q = m.full i s (λ j p. f.free i q j (sub j p))

-- what is maximal for the one relation is maximal for the one that it is carried to
pub carried :
    {E D : Type 0} {c : E → E → Bool} {S : E → Bool} {d : D → D → Bool} {U : D → Bool} {f : D → E} →
    Onto c S d U f → {P : E → Bool} {Q : D → Bool} → Q ⊆ U → ((i : D) → i ∈ U → Q i ≡ P (f i)) →
    Maximal c S P → Maximal d U Q
carried {f = f} o {P} w e m = record {
  is_free = record {
    within = w;
    free = λ i p j q. o.agree i j (w i p) (w j q)
        ∙ m.is_free.free (f i) (sym (e i (w i p)) ∙ p) (f j) (sym (e j (w j q)) ∙ q);
  };
  full = λ i u h. e i u ∙ m.full (f i) (o.into i u) (λ j p.
      let (k, v, r) = o.onto j (m.is_free.within j p) in
      rw (← r) (sym (o.agree i k u v) ∙ h k (e k v ∙ rw r p)));
}

-- ---- of numbers, for a symmetric and irreflexive relation

module _ (c : ℕ → ℕ → Bool) (sm : (i j : ℕ) → c i j ≡ c j i) (irr : (i : ℕ) → c i i ≡ false) where
  -- an element that conflicts with no member can be added
  pub with-free :
      {S U P : ℕ → Bool} → Free c S P → P ⊆ U → (x : ℕ) → x ∈ U → Fits c P x → Free c U (with P x)
  with-free {P = P} h sub x u fit = record {
    within = λ i p. elim (with_cases P x i p) [ inl a ↦ sub i a | inr e ↦ rw e u ];
    free = λ i p j q. pair (with_cases P x i p) (with_cases P x j q);
  }
    where
      pair : {i j : ℕ} → (i ∈ P) ⊎ (i ≡ x) → (j ∈ P) ⊎ (j ≡ x) → c i j ≡ false
      pair {i} {j} (inl a) (inl b) = h.free i a j b
      pair {i} {j} (inl a) (inr f) = rw (f, sm) (fit i a)
      pair {i} {j} (inr e) (inl b) = rw e (fit j b)
      pair {i} {j} (inr e) (inr f) = rw (e, f) (irr x)

  -- document 01's words say the same
  pub in_words : {S P : ℕ → Bool} → Maximal c S P ↔ InWords c S P
  in_words {S} {P} = (
    (λ m. record {
      no_conflict_inside = m.is_free;
      cant_be_enlarged = λ i s n f.
          clash (m.full i s (λ j p. f.free i (with-new P i) j (with-old P i j p))) n;
    }),
    (λ w. record {
      is_free = w.no_conflict_inside;
      full = λ i s h. elim (decide (P i)) [
        | inl p ↦ p
        | inr n ↦ absurd
            (w.cant_be_enlarged i s n (with-free w.no_conflict_inside w.no_conflict_inside.within i s h))
      ];
    }),
  )

  -- ---- every conflict-free set lies in a maximal one

  module _ (N : ℕ) (S : ℕ → Bool) (bound : (i : ℕ) → i ∈ S → i < N) where
    -- x conflicts with no member, or with one that can be named
    fits? : {Q : ℕ → Bool} → Q ⊆ S → (x : ℕ) → Fits c Q x ⊎ ((j : ℕ) × (j ∈ Q) × (c x j ≡ true))
    fits? {Q} h x = elim (find N (λ j. Q j && c x j)) [
      | inl w ↦ (let (j, l, e) = w in let (q, t) = both (Q j) (c x j) e in inr (j, q, t))
      | inr a ↦ inl (λ j q. rw q at (a j (bound j (h j q))))
    ]

    -- a set that holds P and is full as far as n
    record Grown (P : ℕ → Bool) (n : ℕ) : Type 0 where
      set : ℕ → Bool
      holds : P ⊆ set
      is_free : Free c S set
      full : (i : ℕ) → i < n → i ∈ S → Fits c set i → i ∈ set

    grow : (P : ℕ → Bool) → Free c S P → (n : ℕ) → Grown P n
    grow P h zero = record { set = P; holds = λ i p. p; is_free = h; full = λ i l. absurd (omega arith) }
    grow P h (suc n) = go (grow P h n)
      where
        go : Grown P n → Grown P (suc n)
        go g = pick (decide (S n)) (fits? g.is_free.within n)
          where
            stay : (n ∈ S → Fits c g.set n → n ∈ g.set) → Grown P (suc n)
            stay f = record {
              set = g.set;
              holds = g.holds;
              is_free = g.is_free;
              full = λ i l. elim (last l) [ inl m ↦ g.full i m | inr e ↦ rw e f ];
            }

            pick :
                (n ∈ S) ⊎ (S n ≡ false) → Fits c g.set n ⊎ ((j : ℕ) × (j ∈ g.set) × (c n j ≡ true)) →
                Grown P (suc n)
            pick (inr s) d = stay (λ t. clash t s)
            pick (inl s) (inr (j, q, e)) = stay (λ t f. clash e (f j q))
            pick (inl s) (inl f) = record {
              set = with g.set n;
              holds = λ i p. with-old g.set n i (g.holds i p);
              is_free = with-free g.is_free g.is_free.within n s f;
              full = λ i l t fit. elim (last l) [
                | inl m ↦ with-old g.set n i (g.full i m t (λ j q. fit j (with-old g.set n j q)))
                | inr e ↦ rw e (with-new g.set n)
              ];
            }

    pub within-maximal : (P : ℕ → Bool) → Free c S P → (Q : ℕ → Bool) × Maximal c S Q × (P ⊆ Q)
    within-maximal P h =
        let g = grow P h N in
        (g.set, record { is_free = g.is_free; full = λ i s. g.full i (bound i s) s }, g.holds)
