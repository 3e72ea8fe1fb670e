-- The test for answer 16 by the operations of a 64-bit number is that of the definition. Assumes that the Sets are
-- lawful.
use mathlib.Core.Path.{◌≡◌, refl, sym, ◌∙◌}
use mathlib.Core.Bool.{Bool, true, false, not, ◌&&◌, ◌||◌, beq}
use mathlib.Core.List.{List}
use Prim.Native.Nat.{ℕ, ◌<◌}
use native.Mathlib.Omega.{arith}
use Rattle.math_lists.specs.NumbersBelow.{all}
use Rattle.math_lists.proofs.Booleans.{clash, off, same_test, both, and-on, beq-on, beq-eq}
use Rattle.math_lists.proofs.NumbersBelow.{all-on, all-at}
use Rattle.math_maximal.specs.MaximalSets.{◌∈◌, ◌⊆◌, Maximal}
use Rattle.math_maximal.specs.Groups.{bit}
use Rattle.math_maximal.specs.Step.{compatible}
use Rattle.math_maximal.proofs.Groups.{below_at, below_on}
use Rattle.math_contexts.specs.Box.{Box, seen_by, disputed_by, Lawful}
use Rattle.math_contexts.specs.Contexts.{contexts, context, reach, conflicts}
use Rattle.math_contexts.specs.Versions.{names_version, Names}
use Rattle.math_contexts.specs.MaskForms.{reach_mask, foes, mask_names}
use Rattle.math_contexts.proofs.ContextMembers.{disputed-on, in-context, context-seen}
use Rattle.math_contexts.proofs.ConflictByReach.{conflicts-at, conflicts-on, plain-conflicts, reach-self}
use Rattle.math_contexts.proofs.NamesTest.{names_at, names-on}
use Rattle.math_contexts.proofs.GroupsHoldContexts.{seen-closed, reach-inside, group-holds-reach}
use Rattle.math_contexts.proofs.ContextsByMasks.{apart-at, apart-on, foes-at, foes-on}

module _ (b : Box) (n i : ℕ) (law : Lawful b n) (l : i < n) where
  abbrev cs : List ℕ
  cs = contexts b i

  abbrev u : ℕ
  u = foes b i (b.named i)

  abbrev C : ℕ → Bool
  C = bit (context b i)

  abbrev listed : ℕ → Bool
  listed j = beq (b.named i j) (C j && disputed_by b i j)

  abbrev left : ℕ → Bool
  left j = beq (C j) (b.seen i j && compatible u (reach_mask cs j))

  -- what i lists is in its context and disputed
  abbrev Exact : Type 0
  Exact = (j : ℕ) → j < i → b.named i j ≡ (C j && disputed_by b i j)

  -- the context is what i has seen, without what reaches a foe of what i lists
  abbrev Left : Type 0
  Left = (j : ℕ) → j < i → C j ≡ (b.seen i j && compatible u (reach_mask cs j))

  inside : (j : ℕ) → j ∈ seen_by b i → reach b j ⊆ seen_by b i
  inside j s = reach-inside b i (b.seen i) (seen-closed b n law i l) j s

  low : (j : ℕ) → j ∈ seen_by b i → j < i
  low j s = (below_at i (b.seen i) j s).0

  back : (x y : ℕ) → b.plain x y ≡ true → b.plain y x ≡ true
  back x y e = law.symmetric y x ∙ e

  -- y conflicts with x, both seen: so y is disputed
  dispute : (x y : ℕ) → x ∈ seen_by b i → y ∈ seen_by b i → b.plain x y ≡ true → y ∈ disputed_by b i
  dispute x y s t e = disputed-on b i (b.seen i) y t x s (back x y e)

  -- the context of a Set that names a version is what is left
  names-left : Names b i → Left
  names-left w j k =
      same_test (C j) (b.seen i j && compatible u (reach_mask cs j))
      (λ p. and-on (b.seen i j) (compatible u (reach_mask cs j))
      (below_at i (b.seen i) j (context-seen b i j p)).1
      (apart-on b i j k u (λ a r. off (bit u a) (λ q.
      let (x, lx, nx, e) = foes-at b i (b.named i) a q in
      let (cx, _) = both (C x) (disputed_by b i x) (sym (w.exact x lx) ∙ nx) in
      clash (plain-conflicts b x a e) (w.group.is_free.free x cx a (holds j p a r))))))
      (λ h. let (s, t) = both (b.seen i j) (compatible u (reach_mask cs j)) h in
      let sj = below_on i (b.seen i) j k s in
      w.group.full j sj (λ m q. off (conflicts b j m) (λ v.
      let (x, y, r, z, e) = conflicts-at b j m v in
      let sx = inside j sj x r in
      let sy = inside m (context-seen b i m q) y z in
      let ny = w.exact y (low y sy) ∙ and-on (C y) (disputed_by b i y) (holds m q y z) (dispute x y sx sy e) in
      clash (foes-on b i (b.named i) x (low x sx) y (low y sy) ny (back x y e)) (apart-at b i j k u t x r))))
    where
      holds : (j : ℕ) → j ∈ C → reach b j ⊆ C
      holds =
          group-holds-reach b n law i (b.seen i) C (omega arith) (seen-closed b n law i l) w.group

  -- and where it is what is left, it is a group
  left-group : Exact → Left → Maximal (conflicts b) (seen_by b i) C
  left-group e h = record {
    is_free = record {
      within = context-seen b i;
      free = λ j p m q. off (conflicts b j m) (λ v.
          let (x, y, r, z, c) = conflicts-at b j m v in
          let sj = context-seen b i j p in
          let sx = inside j sj x r in
          let sy = inside m (context-seen b i m q) y z in
          let ny = ((in-context b i m).0 q).keeps.within y z (dispute x y sx sy c) in
          let (_, t) = both (b.seen i j) (compatible u (reach_mask cs j)) (sym (h j (low j sj)) ∙ p) in
          clash (foes-on b i (b.named i) x (low x sx) y (low y sy) ny (back x y c))
          (apart-at b i j (low j sj) u t x r));
    };
    full = λ j s f. h j (low j s)
        ∙ and-on (b.seen i j) (compatible u (reach_mask cs j)) (below_at i (b.seen i) j s).1
        (apart-on b i j (low j s) u (λ a r. off (bit u a) (λ q.
        let (x, lx, nx, c) = foes-at b i (b.named i) a q in
        let (cx, _) = both (C x) (disputed_by b i x) (sym (e x lx) ∙ nx) in
        clash (conflicts-on b j x a x r (reach-self b x) (back x a c)) (f x cx))));
  }

  to-masks : names_version b i ≡ true → mask_names b i ≡ true
  unfolding mask_names
  to-masks h = go (b.limited i) refl
    where
      go : (t : Bool) → b.limited i ≡ t → (not t || all i listed && all i left) ≡ true
      go false t = refl
      go true t =
          let w = names_at b i h t in
          and-on (all i listed) (all i left)
          (all-on i listed (λ j k. beq-on (b.named i j) (C j && disputed_by b i j) (w.exact j k)))
          (all-on i left (λ j k. beq-on (C j) (b.seen i j && compatible u (reach_mask cs j)) (names-left w j k)))

  from-masks : mask_names b i ≡ true → names_version b i ≡ true
  unfolding mask_names
  from-masks h = names-on b i (λ t.
      let (p, q) = both (all i listed) (all i left) (rw t at h) in
      let e : Exact = λ j k. beq-eq (b.named i j) (C j && disputed_by b i j) (all-at i listed p j k) in
      record {
        group = left-group e
            (λ j k. beq-eq (C j) (b.seen i j && compatible u (reach_mask cs j)) (all-at i left q j k));
        exact = e;
      })

  pub names-by-masks : names_version b i ≡ mask_names b i
  names-by-masks = same_test (names_version b i) (mask_names b i) to-masks from-masks
