-- A Set and its context have no conflict among them by document 01's rule, so that no Set conflicts with itself.
-- Assumes that the first n Sets are lawful and valid.
use mathlib.Core.Path.{◌≡◌}
use mathlib.Core.Logic.{◌⊎◌, inl, inr}
use mathlib.Core.Bool.{false}
use Prim.Native.Nat.{ℕ, ◌<◌}
use Rattle.math_lists.proofs.Booleans.{clash, off}
use Rattle.math_maximal.specs.MaximalSets.{◌∈◌, Maximal}
use Rattle.math_maximal.specs.Groups.{bit}
use Rattle.math_maximal.proofs.MaximalSets.{with_cases}
use Rattle.math_maximal.proofs.Groups.{below_at}
use Rattle.math_contexts.specs.Box.{Box, seen_by, Lawful}
use Rattle.math_contexts.specs.Contexts.{context, reach, conflicts}
use Rattle.math_contexts.specs.Versions.{Valid}
use Rattle.math_contexts.proofs.ContextMembers.{in-context, context-seen}
use Rattle.math_contexts.proofs.ConflictByReach.{conflicts-at, free-plainly}
use Rattle.math_contexts.proofs.NamesTest.{names_at}

module _ (b : Box) (n : ℕ) (law : Lawful b n) (valid : Valid b n) where
  -- a Set whose context has a member is limited, so that its context is a group of what it has seen
  context-group :
      (i j : ℕ) → i < n → j ∈ bit (context b i) → Maximal (conflicts b) (seen_by b i) (bit (context b i))
  context-group i j l p = (names_at b i (valid i l) ((in-context b i j).0 p).limits).group

  pub reach-free : (i : ℕ) → i < n → (x y : ℕ) → x ∈ reach b i → y ∈ reach b i → b.plain x y ≡ false
  reach-free i l x y r s = pair (with_cases (bit (context b i)) i x r) (with_cases (bit (context b i)) i y s)
    where
      first : (y : ℕ) → y ∈ bit (context b i) → b.plain i y ≡ false
      first y q = let (m, e) = below_at i (b.seen i) y (context-seen b i y q) in law.compatible i y l m e

      pair : (x ∈ bit (context b i)) ⊎ (x ≡ i) → (y ∈ bit (context b i)) ⊎ (y ≡ i) → b.plain x y ≡ false
      pair (inl p) (inl q) =
          (free-plainly b (seen_by b i) (bit (context b i)) (context-group i x l p).is_free).free x p y q
      pair (inl p) (inr f) = rw (f, law.symmetric x i) (first x p)
      pair (inr e) (inl q) = rw e (first y q)
      pair (inr e) (inr f) = rw (e, f) (law.irreflexive i)

  pub not-with-itself : (i : ℕ) → i < n → conflicts b i i ≡ false
  not-with-itself i l =
      off (conflicts b i i) (λ h.
      let (x, y, r, s, e) = conflicts-at b i i h in
      clash e (reach-free i l x y r s))
