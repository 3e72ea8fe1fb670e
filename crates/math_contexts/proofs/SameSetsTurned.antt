-- The same Sets under other numbers: the other way round, when both orders are causal, and what is carried over of
-- what a Set has seen and of the disputed ones. Assumes nothing beyond `SameSets`.
use mathlib.Core.Path.{◌≡◌, refl, sym, ◌∙◌}
use mathlib.Core.Logic.{◌↔◌}
use mathlib.Core.Bool.{true}
use Prim.Native.Nat.{ℕ, ◌<◌}
use native.Mathlib.Omega.{arith}
use Rattle.math_maximal.specs.MaximalSets.{◌∈◌}
use Rattle.math_maximal.specs.Groups.{every}
use Rattle.math_maximal.proofs.Groups.{below_at, below_on}
use Rattle.math_contexts.specs.Box.{Box, seen_by, disputed, disputed_by, CausalBox}
use Rattle.math_contexts.specs.SameSets.{SameSets}
use Rattle.math_contexts.proofs.ContextMembers.{disputed-at, disputed-on}

-- ---- the other way round

module _ {b : Box} {n : ℕ} {b' : Box} {m : ℕ} {f q : ℕ → ℕ} (r : SameSets b n b' m f q) where
  there² : (T : ℕ → ℕ → Type 0) (i j : ℕ) → i < n → j < n → T (f (q i)) (f (q j)) → T i j
  there² T i j l k t = rw (r.there i l, r.there j k) at t

  pub turned : SameSets b' m b n q f
  turned = record {
    into = r.back;
    back = r.into;
    there = r.again;
    again = r.there;
    plains = λ i j l k. sym (there² (λ x y. b'.plain (q i) (q j) ≡ b.plain x y) i j l k
        (r.plains (q i) (q j) (r.back i l) (r.back j k)));
    seens = λ i j l k. sym (seen i j l k);
    limiteds = λ i l. sym (rw (r.there i l) at (r.limiteds (q i) (r.back i l)));
    nameds = λ i j l k. sym (named i j l k);
    seen_order = λ i j l k e.
        let (x, y) = there² (λ x y. (q j < q i) ↔ (y < x)) i j l k
        (r.seen_order (q i) (q j) (r.back i l) (r.back j k) (seen i j l k ∙ e)) in
        (y, x);
    named_order = λ i j l k e.
        let (x, y) = there² (λ x y. (q j < q i) ↔ (y < x)) i j l k
        (r.named_order (q i) (q j) (r.back i l) (r.back j k) (named i j l k ∙ e)) in
        (y, x);
  }
    where
      seen : (i j : ℕ) → i < n → j < n → b'.seen (q i) (q j) ≡ b.seen i j
      seen i j l k = there² (λ x y. b'.seen (q i) (q j) ≡ b.seen x y) i j l k
          (r.seens (q i) (q j) (r.back i l) (r.back j k))

      named : (i j : ℕ) → i < n → j < n → b'.named (q i) (q j) ≡ b.named i j
      named i j l k = there² (λ x y. b'.named (q i) (q j) ≡ b.named x y) i j l k
          (r.nameds (q i) (q j) (r.back i l) (r.back j k))

-- ---- both orders are causal

module _ (b : Box) (n : ℕ) (b' : Box) (m : ℕ) (f : ℕ → ℕ) (into : (i : ℕ) → i < m → f i < n)
    (seens : (i j : ℕ) → i < m → j < m → b'.seen i j ≡ b.seen (f i) (f j))
    (causal : CausalBox b n) (causal' : CausalBox b' m) where
  pub causal-seen : (i j : ℕ) → i < m → j < m → b'.seen i j ≡ true → (j < i) ↔ (f j < f i)
  causal-seen i j l k e = (
    (λ _. causal.seen_first (f i) (f j) (into i l) (into j k) (sym (seens i j l k) ∙ e)),
    (λ _. causal'.seen_first i j l k e),
  )

  pub causal-named : (i j : ℕ) → i < m → j < m → b'.named i j ≡ true → (j < i) ↔ (f j < f i)
  causal-named i j l k e = causal-seen i j l k (causal'.names_seen i j l k e)

-- ---- what is carried over

module _ {b : Box} {n : ℕ} {b' : Box} {m : ℕ} {f q : ℕ → ℕ} (r : SameSets b n b' m f q) where
  pub seen-there : (i j : ℕ) → i < m → j ∈ seen_by b' i → f j ∈ seen_by b (f i)
  seen-there i j l s =
      let (k, e) = below_at i (b'.seen i) j s in
      let low : j < m = omega arith in
      below_on (f i) (b.seen (f i)) (f j) ((r.seen_order i j l low e).0 k) (sym (r.seens i j l low) ∙ e)

  pub seen_back : (i j : ℕ) → i < m → j < m → f j ∈ seen_by b (f i) → j ∈ seen_by b' i
  seen_back i j l k s =
      let (o, e) = below_at (f i) (b.seen (f i)) (f j) s in
      let e' = r.seens i j l k ∙ e in
      below_on i (b'.seen i) j ((r.seen_order i j l k e').1 o) e'

  pub disputed-there : (i j : ℕ) → i < m → j ∈ disputed_by b' i → f j ∈ disputed_by b (f i)
  disputed-there i j l d =
      let (s, k, t, e) = disputed-at b' i (b'.seen i) j d in
      let (x, _) = below_at i (b'.seen i) j s in
      let (y, _) = below_at i (b'.seen i) k t in
      disputed-on b (f i) (b.seen (f i)) (f j) (seen-there i j l s) (f k) (seen-there i k l t)
      (sym (r.plains j k (omega arith) (omega arith)) ∙ e)

  -- of all Sets
  pub all_there : (j : ℕ) → j ∈ disputed b' m every → f j ∈ disputed b n every
  all_there j d =
      let (s, k, t, e) = disputed-at b' m every j d in
      let (x, _) = below_at m every j s in
      let (y, _) = below_at m every k t in
      disputed-on b n every (f j) (below_on n every (f j) (r.into j x) refl) (f k)
      (below_on n every (f k) (r.into k y) refl) (sym (r.plains j k x y) ∙ e)
