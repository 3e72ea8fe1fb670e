-- A group holds the context of each of its members. Assumes that the first n Sets are lawful; that they are valid is
-- not asked.
use mathlib.Core.Path.{refl}
use mathlib.Core.Logic.{inl, inr}
use mathlib.Core.Bool.{Bool}
use Prim.Native.Nat.{ℕ, zero, suc, ◌≤◌, ◌<◌}
use native.Mathlib.Omega.{arith}
use Rattle.math_lists.proofs.Booleans.{clash, off}
use Rattle.math_maximal.specs.MaximalSets.{◌∈◌, ◌⊆◌, Maximal}
use Rattle.math_maximal.specs.Groups.{bit, below, every}
use Rattle.math_maximal.proofs.MaximalSets.{with_cases}
use Rattle.math_maximal.proofs.Groups.{below_at, below_on}
use Rattle.math_contexts.specs.Box.{Box, Lawful, Closed}
use Rattle.math_contexts.specs.Contexts.{context, reach, conflicts}
use Rattle.math_contexts.proofs.ContextMembers.{in-context, context-seen}
use Rattle.math_contexts.proofs.ConflictByReach.{reach-context, reach-more}

-- all Sets, and what a Set has seen, are closed: they hold what their members have seen
pub all_closed : (b : Box) (n : ℕ) → Closed b n every
all_closed b n i j s t =
    let (l, _) = below_at n every i s in
    let (m, _) = below_at i (b.seen i) j t in
    below_on n every j (omega arith) refl

pub seen-closed : (b : Box) (n : ℕ) → Lawful b n → (i : ℕ) → i < n → Closed b i (b.seen i)
seen-closed b n law i l j k s t =
    let (m, e) = below_at i (b.seen i) j s in
    let (o, f) = below_at j (b.seen j) k t in
    below_on i (b.seen i) k (omega arith) (law.transitive i j k l m o e f)

-- the reach of a member of a closed set lies in it
pub reach-inside : (b : Box) (n : ℕ) (S : ℕ → Bool) → Closed b n S → (i : ℕ) → i ∈ below n S → reach b i ⊆ below n S
reach-inside b n S closed i s a r = elim (with_cases (bit (context b i)) i a r) [
  | inl p ↦ closed i a s (context-seen b i a p)
  | inr e ↦ rw e s
]

-- ---- with a Set, a context holds the context of that Set

-- as soon as contexts do so, a Set of a context reaches nothing more
reach-part :
    (b : Box) (i j : ℕ) → j ∈ bit (context b i) → bit (context b j) ⊆ bit (context b i) →
    reach b j ⊆ bit (context b i)
reach-part b i j p sub a r = elim (with_cases (bit (context b j)) j a r) [ inl q ↦ sub a q | inr e ↦ rw e p ]

module _ (b : Box) (n : ℕ) (law : Lawful b n) where
  holds-below : (k i j : ℕ) → i < k → i < n → j ∈ bit (context b i) → bit (context b j) ⊆ bit (context b i)
  holds-below zero i j l o p x q = absurd (omega arith)
  holds-below (suc k) i j l o p x q =
      let w = (in-context b i j).0 p in
      let (v, _) = below_at i (b.seen i) j w.keeps.inside in
      let sub = holds-below k j x (omega arith) (omega arith) q in
      (in-context b i x).1 (record {
        limits = w.limits;
        keeps = record {
          inside = seen-closed b n law i o j x w.keeps.inside (context-seen b j x q);
          within = λ a r. w.keeps.within a (reach-context b j a (reach-part b j x q sub a r));
        };
      })

  pub context-holds-contexts : (i j : ℕ) → i < n → j ∈ bit (context b i) → bit (context b j) ⊆ bit (context b i)
  context-holds-contexts i j l p = holds-below (suc i) i j (omega arith) l p

  -- ---- with a Set, a group of a closed set holds its context

  module _ (m : ℕ) (S G : ℕ → Bool) (few : m ≤ n) (closed : Closed b m S)
      (w : Maximal (conflicts b) (below m S) G) where
    -- j conflicts with nothing with which i does not conflict
    pub group-holds-contexts : (i : ℕ) → i ∈ G → bit (context b i) ⊆ G
    group-holds-contexts i g j p =
        let s = w.is_free.within i g in
        let (l, _) = below_at m S i s in
        let sub = reach-part b i j p (context-holds-contexts i j (omega arith) p) in
        w.full j (closed i j s (context-seen b i j p))
        (λ k q. off (conflicts b j k) (λ h.
        clash (reach-more b i j k (λ a r. reach-context b i a (sub a r)) h) (w.is_free.free i g k q)))

    pub group-holds-reach : (i : ℕ) → i ∈ G → reach b i ⊆ G
    group-holds-reach i g a r = elim (with_cases (bit (context b i)) i a r) [
      | inl p ↦ group-holds-contexts i g a p
      | inr e ↦ rw e g
    ]
