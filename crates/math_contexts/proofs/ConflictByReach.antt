-- The new conflict: what it says, that it is symmetric, that document 01's conflict is part of it and, among plain
-- Sets, all of it, and that a set with no new conflict inside has none of document 01's. What is assumed stands at the
-- head of each part.
use mathlib.Core.Path.{◌≡◌}
use mathlib.Core.Logic.{inl, inr}
use mathlib.Core.Bool.{Bool, true, false, ◌&&◌}
use Prim.Native.Nat.{ℕ, suc, ◌<◌}
use Rattle.math_lists.specs.NumbersBelow.{some}
use Rattle.math_lists.proofs.Booleans.{clash, off, same_test, both, and-on}
use Rattle.math_lists.proofs.NumbersBelow.{some-on, some_at}
use Rattle.math_maximal.specs.MaximalSets.{◌∈◌, ◌⊆◌, Free}
use Rattle.math_maximal.specs.Groups.{bit, every, groups}
use Rattle.math_maximal.proofs.Groups.{below_at, groups-agree}
use Rattle.math_maximal.proofs.MaximalSets.{with_cases, with-old, with-new}
use Rattle.math_contexts.specs.Box.{Box}
use Rattle.math_contexts.specs.Contexts.{context, reach, conflicts}
use Rattle.math_contexts.proofs.ContextMembers.{in-context, reach-below}

-- ---- what it says

-- i is in its own reach, and so is its context
pub reach-self : (b : Box) (i : ℕ) → i ∈ reach b i
reach-self b i = with-new (bit (context b i)) i

pub reach-context : (b : Box) (i : ℕ) → bit (context b i) ⊆ reach b i
reach-context b i = with-old (bit (context b i)) i

module _ (b : Box) (i j : ℕ) where
  -- some x in the reach of i conflicts plainly with some y in the reach of j
  pub conflicts-at :
      conflicts b i j ≡ true →
      (x : ℕ) × (y : ℕ) × (x ∈ reach b i) × (y ∈ reach b j) × (b.plain x y ≡ true)
  unfolding conflicts
  conflicts-at h =
      let inner : ℕ → Bool = λ x. some (suc j) (λ y. reach b j y && b.plain x y) in
      let (x, l, p) = some_at (suc i) (λ x. reach b i x && inner x) h in
      let (r, q) = both (reach b i x) (inner x) p in
      let (y, m, t) = some_at (suc j) (λ y. reach b j y && b.plain x y) q in
      let (s, e) = both (reach b j y) (b.plain x y) t in
      (x, y, r, s, e)

  pub conflicts-on : (x y : ℕ) → x ∈ reach b i → y ∈ reach b j → b.plain x y ≡ true → conflicts b i j ≡ true
  unfolding conflicts
  conflicts-on x y r s e =
      let inner : ℕ → Bool = λ x. some (suc j) (λ y. reach b j y && b.plain x y) in
      some-on (suc i) (λ x. reach b i x && inner x) x (reach-below b i x r)
      (and-on (reach b i x) (inner x) r
      (some-on (suc j) (λ y. reach b j y && b.plain x y) y (reach-below b j y s)
      (and-on (reach b j y) (b.plain x y) s e)))

-- document 01's conflict is a conflict
pub plain-conflicts : (b : Box) (i j : ℕ) → b.plain i j ≡ true → conflicts b i j ≡ true
plain-conflicts b i j e = conflicts-on b i j i j (reach-self b i) (reach-self b j) e

-- a larger reach conflicts with all that a smaller one conflicts with
pub reach-more :
    (b : Box) (i j k : ℕ) → reach b j ⊆ reach b i → conflicts b j k ≡ true → conflicts b i k ≡ true
reach-more b i j k sub h =
    let (x, y, r, s, e) = conflicts-at b j k h in
    conflicts-on b i k x y (sub x r) s e

-- a set that has no conflict inside has none by document 01's rule
pub free-plainly : (b : Box) (S P : ℕ → Bool) → Free (conflicts b) S P → Free b.plain S P
free-plainly b S P f = record {
  within = f.within;
  free = λ i p j q. off (b.plain i j) (λ e. clash (plain-conflicts b i j e) (f.free i p j q));
}

-- ---- plain Sets

-- a plain Set reaches itself alone
pub reach-alone : (b : Box) (i : ℕ) → b.limited i ≡ false → (x : ℕ) → x ∈ reach b i → x ≡ i
reach-alone b i e x r = elim (with_cases (bit (context b i)) i x r) [
  | inl p ↦ clash ((in-context b i x).0 p).limits e
  | inr f ↦ f
]

-- where no Set is limited, conflict is document 01's, and so are the groups
module _ (b : Box) (n : ℕ) (none : (i : ℕ) → i < n → b.limited i ≡ false) where
  pub conflicts-plain : (i j : ℕ) → i < n → j < n → conflicts b i j ≡ b.plain i j
  conflicts-plain i j l k =
      same_test (conflicts b i j) (b.plain i j)
      (λ h. let (x, y, r, s, e) = conflicts-at b i j h in
      rw (reach-alone b i (none i l) x r, reach-alone b j (none j k) y s) at e)
      (plain-conflicts b i j)

  pub groups-plain : groups (conflicts b) n every ≡ groups b.plain n every
  groups-plain =
      groups-agree (conflicts b) b.plain n every
      (λ i j s t. conflicts-plain i j (below_at n every i s).0 (below_at n every j t).0)
