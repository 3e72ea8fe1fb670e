-- What is in a context and in a reach, and that contexts do not depend on later Sets. Assumes nothing.
use mathlib.Core.Path.{◌≡◌, refl, sym, ◌∙◌, ap}
use mathlib.Core.Logic.{◌↔◌, ◌⊎◌, inl, inr}
use mathlib.Core.Bool.{Bool, true, false, not, ◌&&◌, cond}
use mathlib.Core.List.{List, [], ◌∷◌, ◌++◌}
use Prim.Native.Nat.{ℕ, zero, suc, ◌^◌, ◌<◌}
use native.Mathlib.Omega.{arith}
use lib.ListN.{length, get_or, length-append, get_or-append}
use lib.Seq.{get_or-append_seam}
use lib.Pow.{pow_pos}
use borrow.Author.Tests.{not-true}
use Rattle.math_lists.specs.NumbersBelow.{some, mask}
use Rattle.math_lists.proofs.Booleans.{clash, decide, off, off-where, both, and-on}
use Rattle.math_lists.proofs.LastBelow.{last}
use Rattle.math_lists.proofs.NumbersBelow.{all-on, all-at, some-on, some_at, mask_below}
use Rattle.math_maximal.specs.MaximalSets.{◌∈◌, ◌⊆◌, with}
use Rattle.math_maximal.specs.Groups.{bit, below}
use Rattle.math_maximal.proofs.MaximalSets.{with_cases}
use Rattle.math_maximal.proofs.Bits.{bit-none, bit_below}
use Rattle.math_maximal.proofs.Masks.{mask_at, mask-on}
use Rattle.math_maximal.proofs.Groups.{below_at, below_on}
use Rattle.math_contexts.specs.Box.{Box, seen_by, disputed, disputed_by}
use Rattle.math_contexts.specs.Contexts.{reach_in, unnamed, suits, context_in, contexts, context, reach}
use Rattle.math_contexts.specs.Versions.{InContext}

-- ---- the table of the contexts

pub contexts-long : (b : Box) (n : ℕ) → length (contexts b n) ≡ n
unfolding contexts
contexts-long b zero = refl
contexts-long b (suc n) =
    omega (arith, length-append (contexts b n) (context_in b (contexts b n) n ∷ []), contexts-long b n)

-- later Sets do not matter: the table of the first n holds the context of each of them
pub contexts-hold : (b : Box) (n i : ℕ) → i < n → get_or (contexts b n) i 0 ≡ context b i
unfolding contexts context
contexts-hold b zero i l = absurd (omega arith)
contexts-hold b (suc n) i l = go (last l) (contexts-hold b n i)
  where
    cs : List ℕ
    cs = contexts b n

    x : ℕ
    x = context_in b cs n

    go : (i < n) ⊎ (i ≡ n) → (i < n → get_or cs i 0 ≡ context_in b (contexts b i) i) →
        get_or (cs ++ (x ∷ [])) i 0 ≡ context_in b (contexts b i) i
    go (inl k) ih = get_or-append cs (x ∷ []) 0 i (omega (arith, contexts-long b n)) ∙ ih k
    go (inr e) ih =
        rw e (ap (λ (k : ℕ). get_or (cs ++ (x ∷ [])) k 0) (sym (contexts-long b n)) ∙ get_or-append_seam cs x [] 0)

-- ---- the disputed ones

module _ (b : Box) (n : ℕ) (S : ℕ → Bool) (j : ℕ) where
  pub disputed-at : j ∈ disputed b n S → (j ∈ below n S) × (k : ℕ) × (k ∈ below n S) × (b.plain j k ≡ true)
  unfolding disputed
  disputed-at h =
      let (s, e) = both (below n S j) (some n (λ k. S k && b.plain j k)) h in
      let (k, l, p) = some_at n (λ k. S k && b.plain j k) e in
      let (t, c) = both (S k) (b.plain j k) p in
      (s, k, below_on n S k l t, c)

  pub disputed-on : j ∈ below n S → (k : ℕ) → k ∈ below n S → b.plain j k ≡ true → j ∈ disputed b n S
  unfolding disputed
  disputed-on s k t c =
      let (l, u) = below_at n S k t in
      and-on (below n S j) (some n (λ k. S k && b.plain j k)) s
      (some-on n (λ k. S k && b.plain j k) k l (and-on (S k) (b.plain j k) u c))

module _ (b : Box) (i a : ℕ) where
  unnamed-at : unnamed b i a ≡ true → (a ∈ disputed_by b i) × (b.named i a ≡ false)
  unfolding unnamed
  unnamed-at h =
      let (d, e) = both (disputed_by b i a) (not (b.named i a)) h in
      (d, not-true (b.named i a) e)

  unnamed-on : a ∈ disputed_by b i → b.named i a ≡ false → unnamed b i a ≡ true
  unfolding unnamed
  unnamed-on d e = rw (d, e)

-- ---- the members of a context

-- a number that is there under a test
under : (t : Bool) (g j : ℕ) → j ∈ bit (cond t g 0) → (t ≡ true) × (j ∈ bit g)
under true g j h = (refl, h)
under false g j h = clash h (bit-none j)

module _ (b : Box) (cs : List ℕ) (i j : ℕ) where
  pub suits-at : suits b cs i j ≡ true → (a : ℕ) → a < i → a ∈ reach_in cs j → unnamed b i a ≡ false
  unfolding suits
  suits-at h a l r =
      rw r at
      (not-true (reach_in cs j a && unnamed b i a) (all-at i (λ a. not (reach_in cs j a && unnamed b i a)) h a l))

  pub suits-on : ((a : ℕ) → a < i → a ∈ reach_in cs j → unnamed b i a ≡ false) → suits b cs i j ≡ true
  unfolding suits
  suits-on h =
      all-on i (λ a. not (reach_in cs j a && unnamed b i a))
      (λ a l. rw (off-where (reach_in cs j a) (unnamed b i a) (h a l)))

module _ (b : Box) (i : ℕ) where
  pub context-below : context b i < 2 ^ i
  unfolding context context_in
  context-below = go (b.limited i)
    where
      go : (t : Bool) → cond t (mask i (λ j. b.seen i j && suits b (contexts b i) i j)) 0 < 2 ^ i
      go true = mask_below i (λ j. b.seen i j && suits b (contexts b i) i j)
      go false = pow_pos i

  -- a Set of the reach of i is in the context, or is i
  pub reach-below : (a : ℕ) → a ∈ reach b i → a < suc i
  reach-below a h = elim (with_cases (bit (context b i)) i a h) [
    | inl c ↦ omega (arith, bit_below i (context b i) context-below a c)
    | inr e ↦ omega arith
  ]

-- the table of those before i has the reach of each
pub reach-in : (b : Box) (i j : ℕ) → j < i → reach_in (contexts b i) j ≡ reach b j
reach-in b i j l = ap (λ (g : ℕ). with (bit g) j) (contexts-hold b i j l)

module _ (b : Box) (i j : ℕ) where
  context-at : j ∈ bit (context b i) → InContext b i j
  unfolding context context_in
  context-at h =
      let f : ℕ → Bool = λ j. b.seen i j && suits b (contexts b i) i j in
      let (t, m) = under (b.limited i) (mask i f) j h in
      let (l, p) = mask_at i f j m in
      let (s, w) = both (b.seen i j) (suits b (contexts b i) i j) p in
      record {
        limits = t;
        keeps = record {
          inside = below_on i (b.seen i) j l s;
          within = λ a r d. elim (decide (b.named i a)) [
            | inl e ↦ e
            | inr e ↦ clash (unnamed-on b i a d e)
                (suits-at b (contexts b i) i j w a (omega (arith, reach-below b j a r)) (rw (reach-in b i j l) r))
          ];
        };
      }

  context-on : InContext b i j → j ∈ bit (context b i)
  unfolding context context_in
  context-on h =
      let f : ℕ → Bool = λ j. b.seen i j && suits b (contexts b i) i j in
      let (l, s) = below_at i (b.seen i) j h.keeps.inside in
      rw h.limits
      (mask-on i f j l
      (and-on (b.seen i j) (suits b (contexts b i) i j) s
      (suits-on b (contexts b i) i j
      (λ a k r. off (unnamed b i a)
      (λ u. let (d, e) = unnamed-at b i a u in
      clash (h.keeps.within a (rw (reach-in b i j l) at r) d) e)))))

  -- the members of the context of i are the Sets that keep to what i lists
  pub in-context : (j ∈ bit (context b i)) ↔ InContext b i j
  in-context = (context-at, context-on)

pub context-seen : (b : Box) (i : ℕ) → bit (context b i) ⊆ seen_by b i
context-seen b i j h = ((in-context b i j).0 h).keeps.inside
