-- A group is known by its disputed members: with those given there is one candidate, which the context of a limited
-- Set is. So the test for answer 16 asks whether there is such a version at all. Assumes that the first n Sets are
-- lawful; that they are valid is not asked.
use mathlib.Core.Path.{◌≡◌, refl, sym, ◌∙◌, subst}
use mathlib.Core.Logic.{◌↔◌, ◌⊎◌, inl, inr}
use mathlib.Core.Bool.{Bool, true, false, ◌&&◌, and-false}
use Prim.Native.Nat.{ℕ, ◌≤◌, ◌<◌}
use native.Mathlib.Omega.{arith}
use Rattle.math_lists.specs.SortedLists.{elem}
use Rattle.math_lists.proofs.Booleans.{clash, decide, off, both, and-on}
use Rattle.math_maximal.specs.MaximalSets.{◌∈◌, ◌⊆◌, Maximal}
use Rattle.math_maximal.specs.Groups.{bit, below, groups}
use Rattle.math_maximal.proofs.MaximalSets.{same_set}
use Rattle.math_maximal.proofs.Bits.{same_bits}
use Rattle.math_maximal.proofs.Groups.{below_at, groups-at}
use Rattle.math_contexts.specs.Box.{Box, disputed, Lawful, Closed}
use Rattle.math_contexts.specs.Contexts.{context, reach, conflicts}
use Rattle.math_contexts.specs.Versions.{names_version, Version, KeepsTo}
use Rattle.math_contexts.proofs.ContextMembers.{disputed-at, disputed-on, in-context}
use Rattle.math_contexts.proofs.ConflictByReach.{conflicts-at, plain-conflicts}
use Rattle.math_contexts.proofs.NamesTest.{names_at, names-on}
use Rattle.math_contexts.proofs.GroupsHoldContexts.{seen-closed, reach-inside, group-holds-reach}

-- ---- of a set that holds what its members have seen

module _ (b : Box) (n : ℕ) (law : Lawful b n)
    (m : ℕ) (S : ℕ → Bool) (few : m ≤ n) (closed : Closed b m S) where
  -- the members of a version are those that keep to its disputed members
  pub version-is : (M G : ℕ → Bool) → Version b m S M G → (j : ℕ) → (j ∈ G) ↔ KeepsTo b m S M j
  version-is M G v j = (
    (λ g. record {
      inside = w.is_free.within j g;
      within = λ a r d. let (l, _) = below_at m S a (disputed-at b m S a d).0 in
          v.exact a l ∙ and-on (G a) (disputed b m S a) (holds j g a r) d;
    }),
    (λ h. w.full j h.inside (λ k q. off (conflicts b j k) (λ t.
        let (x, y, r, s, e) = conflicts-at b j k t in
        let sx = reach-inside b m S closed j h.inside x r in
        let sy = reach-inside b m S closed k (w.is_free.within k q) y s in
        let (l, _) = below_at m S x sx in
        let gx = (both (G x) (disputed b m S x)
        (sym (v.exact x l) ∙ h.within x r (disputed-on b m S x sx y sy e))).0 in
        clash (plain-conflicts b x y e) (w.is_free.free x gx y (holds k q y s))))),
  )
    where
      w : Maximal (conflicts b) (below m S) G
      w = v.group

      holds : (j : ℕ) → j ∈ G → reach b j ⊆ G
      holds = group-holds-reach b n law m S G few closed w

  -- two versions with the same disputed members are one
  pub one-version : (M G H : ℕ → Bool) → Version b m S M G → Version b m S M H → G ≡ H
  one-version M G H v w = same_set
      (λ j g. (version-is M H w j).1 ((version-is M G v j).0 g))
      (λ j h. (version-is M G v j).1 ((version-is M H w j).0 h))

  -- so two groups that agree on every disputed Set are one
  pub known-by-disputed :
      (g h : ℕ) → elem g (groups (conflicts b) m S) ≡ true → elem h (groups (conflicts b) m S) ≡ true →
      ((j : ℕ) → j ∈ disputed b m S → bit g j ≡ bit h j) → g ≡ h
  known-by-disputed g h e f same =
      let (l, p) = groups-at (conflicts b) m S g e in
      let (o, q) = groups-at (conflicts b) m S h f in
      let M : ℕ → Bool = λ j. bit g j && disputed b m S j in
      same_bits m g h l o
      (one-version M (bit g) (bit h) (record { group = p; exact = λ j k. refl })
      (record { group = q; exact = λ j k. agree j (decide (disputed b m S j)) }))
    where
      agree : (j : ℕ) → (disputed b m S j ≡ true) ⊎ (disputed b m S j ≡ false) →
          (bit g j && disputed b m S j) ≡ (bit h j && disputed b m S j)
      agree j (inl d) = rw (same j d)
      agree j (inr d) = rw (d, and-false (bit g j), and-false (bit h j))

-- ---- the test for answer 16

module _ (b : Box) (n i : ℕ) (law : Lawful b n) (l : i < n) (t : b.limited i ≡ true) where
  -- a version, of what i has seen, whose disputed members are those that i lists is the context of i
  pub version-is-context : (G : ℕ → Bool) → Version b i (b.seen i) (b.named i) G → G ≡ bit (context b i)
  version-is-context G v =
      let is : (j : ℕ) → (j ∈ G) ↔ KeepsTo b i (b.seen i) (b.named i) j =
      version-is b n law i (b.seen i) (omega arith)
      (seen-closed b n law i l) (b.named i) G v in
      same_set
      (λ j g. (in-context b i j).1 (record { limits = t; keeps = (is j).0 g }))
      (λ j p. (is j).1 ((in-context b i j).0 p).keeps)

  -- the test passes exactly if there is such a version
  pub names-some : (names_version b i ≡ true) ↔ ((G : ℕ → Bool) × Version b i (b.seen i) (b.named i) G)
  names-some = (
    (λ h. (bit (context b i), names_at b i h t)),
    (λ (G, v). names-on b i (λ _. subst (Version b i (b.seen i) (b.named i)) (version-is-context G v) v)),
  )
