-- The version that a limited Set names is the context that `Contexts` works out, so that there is one at most, and the
-- conflict and answer 16 in the paper's words are those that are worked out. Assumes that the first n Sets are lawful
-- and that each of them that is limited names a version.
use mathlib.Core.Path.{◌≡◌, refl, sym, ap, ap₂, ◌∙◌}
use mathlib.Core.Logic.{◌⊎◌, inl, inr}
use mathlib.Core.Bool.{Bool, true, false, not, ◌&&◌, cond, beq}
use mathlib.Core.List.{List, [], ◌∷◌, ◌++◌}
use Prim.Native.Nat.{ℕ, zero, suc, ◌^◌, ◌≤◌, ◌<◌}
use native.Mathlib.Omega.{arith}
use lib.ListN.{length, get_or}
use lib.Dec.{eqb}
use borrow.Author.Tests.{eqb-false, eqb-true, not-false}
use Rattle.math_lists.specs.NumbersBelow.{all, some}
use Rattle.math_lists.specs.SortedLists.{any, elem}
use Rattle.math_lists.proofs.Booleans.{clash, decide, off, beq-on, beq-eq, eqb-self, or_left}
use Rattle.math_lists.proofs.NumbersBelow.{all-on, all-at}
use Rattle.math_lists.proofs.Elements.{filter-at, filter-on}
use Rattle.math_maximal.specs.Groups.{bit, groups}
use Rattle.math_maximal.proofs.Bits.{same_bits}
use Rattle.math_maximal.proofs.Groups.{below_at, groups-at, groups-on, groups-agree}
use Rattle.math_contexts.specs.Box.{Box, disputed_by, Lawful}
use Rattle.math_contexts.specs.Contexts.{context_in, contexts, context, conflicts}
use Rattle.math_contexts.specs.Versions.{names_version, Valid, context_by, AllNamed, Version}
use Rattle.math_contexts.specs.NamedVersions.{conflicts_by, has_list, versions_named, contexts_named}
use Rattle.math_contexts.specs.NamedVersions.{names_none}
use Rattle.math_contexts.proofs.ContextMembers.{context-below, reach-in}
use Rattle.math_contexts.proofs.NamesTest.{names_at, names-on}
use Rattle.math_contexts.proofs.KnownByDisputed.{names-some, version-is-context}

-- ---- by the contexts that are worked out

conflicts-worked-out :
    (b : Box) (n i j : ℕ) → i < n → j < n → conflicts_by b (contexts b n) i j ≡ conflicts b i j
unfolding conflicts_by conflicts
conflicts-worked-out b n i j l m =
    ap₂ (λ (p q : ℕ → Bool). some (suc i) (λ x. p x && some (suc j) (λ y. q y && b.plain x y)))
    (reach-in b n i l) (reach-in b n j m)

module _ (b : Box) (i : ℕ) where
  -- the groups of what i has seen are the same
  seen-groups : groups (conflicts_by b (contexts b i)) i (b.seen i) ≡ groups (conflicts b) i (b.seen i)
  seen-groups =
      groups-agree (conflicts_by b (contexts b i)) (conflicts b) i (b.seen i)
      (λ j k p q.
      conflicts-worked-out b i j k (below_at i (b.seen i) j p).0 (below_at i (b.seen i) k q).0)

  abbrev named : List ℕ
  named = versions_named b (contexts b i) i

  -- what is named is a version, and each version with that identifier is named
  named-at : (g : ℕ) → elem g named ≡ true → Version b i (b.seen i) (b.named i) (bit g)
  unfolding versions_named has_list
  named-at g e =
      let (k, h) = filter-at (has_list b i) (groups (conflicts_by b (contexts b i)) i (b.seen i)) g e in
      let (l, m) = groups-at (conflicts b) i (b.seen i) g (rw seen-groups at k) in
      record {
        group = m;
        exact = λ j n.
            beq-eq (b.named i j) (bit g j && disputed_by b i j)
            (all-at i (λ j. beq (b.named i j) (bit g j && disputed_by b i j)) h j n);
      }

  named-on : (g : ℕ) → elem g (groups (conflicts b) i (b.seen i)) ≡ true → has_list b i g ≡ true → elem g named ≡ true
  unfolding versions_named
  named-on g e h =
      filter-on (has_list b i) (groups (conflicts_by b (contexts b i)) i (b.seen i)) g (rw seen-groups e) h

-- ---- a list that has an element has a first one

first-in : (xs : List ℕ) → (length xs ≡ 0 → ⊥) → elem (get_or xs 0 0) xs ≡ true
unfolding any
first-in [] h = absurd (h refl)
first-in (x ∷ xs) h = or_left (eqb x x) (elem x xs) (eqb-self x)

in-none : (xs : List ℕ) (x : ℕ) → length xs ≡ 0 → elem x xs ≡ true → ⊥
unfolding any
in-none [] x h e = clash e refl
in-none (y ∷ xs) x h e = omega arith

-- ---- fewer Sets, and plain ones

fewer-lawful : (b : Box) (m n : ℕ) → m ≤ n → Lawful b n → Lawful b m
fewer-lawful b m n few law = record {
  symmetric = law.symmetric;
  irreflexive = law.irreflexive;
  transitive = λ i j k l. law.transitive i j k (omega arith);
  compatible = λ i j l. law.compatible i j (omega arith);
}

plain-context : (b : Box) (i : ℕ) → b.limited i ≡ false → context b i ≡ 0
unfolding context context_in
plain-context b i t = rw t

-- ---- one limited Set

module _ (b : Box) (n i : ℕ) (law : Lawful b n) (l : i < n) (t : b.limited i ≡ true) where
  -- some version is named exactly if the test that is worked out passes
  named_some : (length (named b i) ≡ 0 → ⊥) → names_version b i ≡ true
  named_some h =
      let g = get_or (named b i) 0 0 in
      (names-some b n i law l t).1 (bit g, named-at b i g (first-in (named b i) h))

  named_none : length (named b i) ≡ 0 → names_version b i ≡ true → ⊥
  unfolding has_list
  named_none h p =
      let v = names_at b i p t in
      in-none (named b i) (context b i) h
      (named-on b i (context b i)
      (groups-on (conflicts b) i (b.seen i) (context b i) (context-below b i) v.group)
      (all-on i (λ j. beq (b.named i j) (bit (context b i) j && disputed_by b i j))
      (λ j m. beq-on (b.named i j) (bit (context b i) j && disputed_by b i j) (v.exact j m))))

  -- and it is the context
  first-is-context : (length (named b i) ≡ 0 → ⊥) → get_or (named b i) 0 0 ≡ context b i
  first-is-context h =
      let g = get_or (named b i) 0 0 in
      let v = named-at b i g (first-in (named b i) h) in
      let e = first-in (named b i) h in
      same_bits i g (context b i) (named-below g e) (context-below b i) (version-is-context b n i law l t (bit g) v)
    where
      named-below : (g : ℕ) → elem g (named b i) ≡ true → g < 2 ^ i
      named-below g e = unfold versions_named in
          (groups-at (conflicts_by b (contexts b i)) i (b.seen i) g
          (filter-at (has_list b i) (groups (conflicts_by b (contexts b i)) i (b.seen i)) g e).0).0

-- ---- all of them

module _ (b : Box) where
  -- answer 16 in the paper's words is the test that is worked out, where the contexts are
  names-none-exactly :
      (n i : ℕ) → Lawful b n → i < n → contexts_named b i ≡ contexts b i → names_none b i ≡ not (names_version b i)
  unfolding names_none
  names-none-exactly n i law l same = go (b.limited i) refl (decide (eqb (length (named b i)) 0))
    where
      go : (t : Bool) → b.limited i ≡ t →
          (eqb (length (named b i)) 0 ≡ true) ⊎ (eqb (length (named b i)) 0 ≡ false) →
          (t && eqb (length (versions_named b (contexts_named b i) i)) 0) ≡ not (names_version b i)
      go true t (inl h) =
          rw (same, h, off (names_version b i) (named_none b n i law l t (eqb-true (length (named b i)) 0 h)))
      go true t (inr h) = rw (same, h, named_some b n i law l t (eqb-false (length (named b i)) 0 h))
      go false t d = ap not (sym (names-on b i (λ s. absurd (clash s t))))

  named-is-context :
      (n i : ℕ) → Lawful b n → i < n → contexts_named b i ≡ contexts b i → names_none b i ≡ false →
      context_by b (contexts_named b i) i ≡ context b i
  unfolding names_none
  named-is-context n i law l same h = go (b.limited i) refl
    where
      go : (t : Bool) → b.limited i ≡ t →
          cond t (get_or (versions_named b (contexts_named b i) i) 0 0) 0 ≡ context b i
      go true t =
          let none = rw (t, same) at h in
          rw same (first-is-context b n i law l t (eqb-false (length (named b i)) 0 none))
      go false t = sym (plain-context b i t)

  pub contexts-are : (n : ℕ) → Lawful b n → AllNamed b n → contexts_named b n ≡ contexts b n
  unfolding contexts_named contexts context
  contexts-are zero law all = refl
  contexts-are (suc n) law all =
      let same = contexts-are n (fewer-lawful b n (suc n) (omega arith) law) (λ i l. all i (omega arith)) in
      ap₂ (λ (cs : List ℕ) (c : ℕ). cs ++ (c ∷ [])) same
      (named-is-context (suc n) n law (omega arith) same (all n (omega arith)))

  -- ---- what is said of a box whose limited Sets each name a version

  module _ (n : ℕ) (law : Lawful b n) where
    -- answer 16 to the i-th, where those before it name theirs
    pub names-none-is : (i : ℕ) → i < n → AllNamed b i → names_none b i ≡ not (names_version b i)
    names-none-is i l all =
        names-none-exactly n i law l (contexts-are i (fewer-lawful b i n (omega arith) law) all)

    pub conflicts-are :
        AllNamed b n → (i j : ℕ) → i < n → j < n → conflicts_by b (contexts_named b n) i j ≡ conflicts b i j
    conflicts-are all i j l m =
        ap (λ (cs : List ℕ). conflicts_by b cs i j) (contexts-are n law all) ∙ conflicts-worked-out b n i j l m

    pub named-valid : AllNamed b n → Valid b n
    named-valid all i l =
        not-false (names_version b i) (sym (names-none-is i l (λ j m. all j (omega arith))) ∙ all i l)

  -- and the other way round
  pub valid-named : (n : ℕ) → Lawful b n → Valid b n → AllNamed b n
  valid-named zero law valid i l = absurd (omega arith)
  valid-named (suc n) law valid i l =
      let fewer = fewer-lawful b n (suc n) (omega arith) law in
      names-none-is (suc n) law i l
      (λ j m. valid-named n fewer (λ k q. valid k (omega arith)) j (omega arith))
      ∙ ap not (valid i l)
