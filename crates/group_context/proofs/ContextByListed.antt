-- The context of a limited Set by what it lists: where what it lists are the disputed members of what it has seen and
-- what reaches no foe of the listed ones, that is its context, and the Set names a version; else it names none. Assumes
-- that the Sets are lawful.
use mathlib.Core.Path.{◌≡◌, refl, sym, ap, ◌∙◌}
use mathlib.Core.Logic.{inl, inr}
use mathlib.Core.Bool.{Bool, true, false, ◌&&◌, cond, beq}
use Prim.Native.Nat.{ℕ, suc, ◌<◌}
use native.Mathlib.Omega.{arith}
use Rattle.math_lists.specs.NumbersBelow.{all, mask}
use Rattle.math_lists.proofs.Booleans.{clash, off, same_test, both, and-on, beq-on, beq-eq}
use Rattle.math_lists.proofs.NumbersBelow.{all-on, all-at}
use Rattle.math_maximal.specs.MaximalSets.{◌∈◌, ◌⊆◌}
use Rattle.math_maximal.specs.Groups.{bit}
use Rattle.math_maximal.specs.Step.{compatible}
use Rattle.math_maximal.proofs.MaximalSets.{with_cases}
use Rattle.math_maximal.proofs.Groups.{below_at, below_on}
use Rattle.math_contexts.specs.Box.{Box, seen_by, disputed_by, Lawful}
use Rattle.math_contexts.specs.Contexts.{contexts, context_in, context, reach}
use Rattle.math_contexts.specs.MaskForms.{reach_mask, foes, mask_names}
use Rattle.math_contexts.proofs.ContextMembers.{disputed-on, in-context, context-below}
use Rattle.math_contexts.proofs.ConflictByReach.{reach-self, reach-context}
use Rattle.math_contexts.proofs.GroupsHoldContexts.{seen-closed, reach-inside, context-holds-contexts}
use Rattle.math_contexts.proofs.ContextsByMasks.{apart-at, apart-on, foes-at}
use Rattle.group_context.specs.RowsOfBox.{is_left, what_is_left}
use Rattle.group_context.proofs.MaskFromBits.{is-mask}

-- Set n lists j exactly if that is left of what it has seen, and disputed
abbrev pub is_listed : Box → ℕ → ℕ → Bool
is_listed b n j = beq (b.named n j) (is_left b n j && disputed_by b n j)

module _ (b : Box) (n : ℕ) (law : Lawful b (suc n)) where
  abbrev C : ℕ → Bool
  C = bit (context b n)

  abbrev u : ℕ
  u = foes b n (b.named n)

  abbrev L : ℕ → Bool
  L = is_left b n

  abbrev Exact : Type 0
  Exact = (j : ℕ) → j < n → b.named n j ≡ (L j && disputed_by b n j)

  inside : (j : ℕ) → j ∈ seen_by b n → reach b j ⊆ seen_by b n
  inside j s = reach-inside b n (b.seen n) (seen-closed b (suc n) law n (omega arith)) j s

  low : (j : ℕ) → j ∈ seen_by b n → j < n
  low j s = (below_at n (b.seen n) j s).0

  -- what is reached from a Set that is reached
  further : (j a : ℕ) → j < n → a ∈ reach b j → reach b a ⊆ reach b j
  further j a l r x q = elim (with_cases (bit (context b j)) j a r) [
    | inl p ↦
        elim (with_cases (bit (context b a)) a x q) [
          | inl z ↦ reach-context b j x (context-holds-contexts b (suc n) law j a (omega arith) p x z)
          | inr e ↦ rw e r
        ]
    | inr e ↦ rw e at q
  ]

  module _ (limits : b.limited n ≡ true) where
    left-in-context : Exact → (j : ℕ) → j < n → L j ≡ true → j ∈ C
    left-in-context exact j l h =
        let (s, t) = both (b.seen n j) (compatible u (reach_mask (contexts b n) j)) h in
        let sj = below_on n (b.seen n) j l s in
        (in-context b n j).1 (record {
          limits = limits;
          keeps = record {
            inside = sj;
            within = λ a r d.
                let sa = inside j sj a r in
                let la = low a sa in
                exact a la
                ∙ and-on (L a) (disputed_by b n a)
                (and-on (b.seen n a) (compatible u (reach_mask (contexts b n) a)) (below_at n (b.seen n) a sa).1
                (apart-on b n a la u (λ x q. apart-at b n j l u t x (further j a l r x q))))
                d;
          };
        })

    context-is-left : Exact → (j : ℕ) → j < n → j ∈ C → L j ≡ true
    context-is-left exact j l p =
        let w = (in-context b n j).0 p in
        let sj = w.keeps.inside in
        and-on (b.seen n j) (compatible u (reach_mask (contexts b n) j)) (below_at n (b.seen n) j sj).1
        (apart-on b n j l u (λ y r. off (bit u y) (λ q.
        let (x, lx, nx, e) = foes-at b n (b.named n) y q in
        let (tx, _) = both (L x) (disputed_by b n x) (sym (exact x lx) ∙ nx) in
        let (vx, _) = both (b.seen n x) (compatible u (reach_mask (contexts b n) x)) tx in
        let sy = inside j sj y r in
        let sx = below_on n (b.seen n) x lx vx in
        let ny = w.keeps.within y r (disputed-on b n (b.seen n) y sy x sx (law.symmetric y x ∙ e)) in
        let (ty, _) = both (L y) (disputed_by b n y) (sym (exact y (low y sy)) ∙ ny) in
        let (_, cy) = both (b.seen n y) (compatible u (reach_mask (contexts b n) y)) ty in
        clash q (apart-at b n y (low y sy) u cy y (reach-self b y)))))

    same : Exact → (j : ℕ) → j < n → C j ≡ L j
    same exact j l = same_test (C j) (L j) (context-is-left exact j l) (left-in-context exact j l)

    exact-of : all n (is_listed b n) ≡ true → Exact
    exact-of h j l = beq-eq (b.named n j) (L j && disputed_by b n j) (all-at n (is_listed b n) h j l)

    context-by-listed : all n (is_listed b n) ≡ true → mask n L ≡ context b n
    context-by-listed h =
        sym (is-mask n (context b n) L (context-below b n) (same (exact-of h)))

    pub names-by-listed : all n (is_listed b n) ≡ mask_names b n
    unfolding mask_names
    names-by-listed =
        rw limits
        (same_test (all n (is_listed b n)) (all n given && all n left)
        (λ h. let exact = exact-of h in
        and-on (all n given) (all n left)
        (all-on n given (λ j l. beq-on (b.named n j) (C j && disputed_by b n j)
        (exact j l ∙ rw (same exact j l))))
        (all-on n left (λ j l. beq-on (C j) (L j) (same exact j l))))
        (λ h. let (p, q) = both (all n given) (all n left) h in
        all-on n (is_listed b n) (λ j l. beq-on (b.named n j) (L j && disputed_by b n j)
        (beq-eq (b.named n j) (C j && disputed_by b n j) (all-at n given p j l)
        ∙ rw (beq-eq (C j) (L j) (all-at n left q j l))))))
      where
        given : ℕ → Bool
        given j = beq (b.named n j) (C j && disputed_by b n j)

        left : ℕ → Bool
        left j = beq (C j) (L j)

  -- what is left is the context of a Set that names a version, and both are empty for a plain Set
  pub left-is-context : mask_names b n ≡ true → what_is_left b n ≡ context b n
  unfolding what_is_left context context_in
  left-is-context h = go (b.limited n) refl
    where
      go : (t : Bool) → b.limited n ≡ t → what_is_left b n ≡ context b n
      go true limits =
          ap (λ (t : Bool). cond t (mask n L) 0) limits ∙ context-by-listed limits (names-by-listed limits ∙ h)
      go false limits = rw limits
