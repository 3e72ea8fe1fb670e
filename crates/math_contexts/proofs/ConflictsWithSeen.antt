-- The conflicts of a Set with those that it has seen: a plain Set has none, and a limited one conflicts with all of
-- them that are not in its context. Assumes that the first n Sets are lawful and valid.
use mathlib.Core.Path.{◌≡◌, ◌∙◌}
use mathlib.Core.Logic.{◌⊎◌, inl, inr}
use mathlib.Core.Bool.{true, false, not}
use Prim.Native.Nat.{ℕ, ◌<◌}
use native.Mathlib.Omega.{arith}
use Rattle.math_lists.proofs.Booleans.{clash, decide, off}
use Rattle.math_maximal.specs.MaximalSets.{◌∈◌, ◌⊆◌}
use Rattle.math_maximal.specs.Groups.{bit}
use Rattle.math_maximal.proofs.Groups.{below_at}
use Rattle.math_contexts.specs.Box.{Box, seen_by, Lawful}
use Rattle.math_contexts.specs.Contexts.{context, reach, conflicts}
use Rattle.math_contexts.specs.Versions.{Valid}
use Rattle.math_contexts.proofs.ConflictByReach.{conflicts-at, conflicts-on, reach-context, reach-alone}
use Rattle.math_contexts.proofs.NamesTest.{names_at}
use Rattle.math_contexts.proofs.ReachFree.{reach-free}
use Rattle.math_contexts.proofs.GroupsHoldContexts.{seen-closed, reach-inside, group-holds-reach}

module _ (b : Box) (n : ℕ) (law : Lawful b n) (valid : Valid b n)
    (i : ℕ) (l : i < n) (j : ℕ) (s : j ∈ seen_by b i) where
  pub plain-sees-none : b.limited i ≡ false → conflicts b i j ≡ false
  plain-sees-none t =
      off (conflicts b i j) (λ h.
      let (x, y, r, z, e) = conflicts-at b i j h in
      let (k, v) = below_at i (b.seen i) y (reach-inside b i (b.seen i) (seen-closed b n law i l) j s y z) in
      clash (rw (reach-alone b i t x r) at e) (law.compatible i y l k v))

  pub limited-sees-others : b.limited i ≡ true → conflicts b i j ≡ not (bit (context b i) j)
  limited-sees-others t = go (decide (bit (context b i) j))
    where
      holds : (k : ℕ) → k ∈ bit (context b i) → reach b k ⊆ bit (context b i)
      holds =
          group-holds-reach b n law i (b.seen i) (bit (context b i)) (omega arith) (seen-closed b n law i l)
          (names_at b i (valid i l) t).group

      go : (bit (context b i) j ≡ true) ⊎ (bit (context b i) j ≡ false) → conflicts b i j ≡ not (bit (context b i) j)
      go (inl p) = rw p (off (conflicts b i j) (λ h.
          let (x, y, r, z, e) = conflicts-at b i j h in
          clash e (reach-free b n law valid i l x y r (reach-context b i y (holds j p y z)))))
      go (inr p) = rw p (elim (decide (conflicts b i j)) [
        | inl h ↦ h
        | inr h ↦ clash
            ((names_at b i (valid i l) t).group.full j s (λ k q. off (conflicts b j k) (λ c.
            let (x, y, r, z, e) = conflicts-at b j k c in
            clash (conflicts-on b i j y x (reach-context b i y (holds k q y z)) r (law.symmetric y x ∙ e)) h)))
            p
      ])
