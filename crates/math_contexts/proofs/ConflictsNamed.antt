-- The conflict that contexts bring, in the paper's words: what it says, that it is symmetric, that document 01's
-- conflict is part of it and, where no Set is limited, all of it, and that later Sets do not matter to it. What is
-- assumed stands at the head of each part.
use mathlib.Core.Path.{◌≡◌, refl, sym, ap, ap₂, ◌∙◌, fun_ext}
use mathlib.Core.Logic.{◌⊎◌, inl, inr}
use mathlib.Core.Bool.{Bool, true, false, ◌&&◌, beq}
use mathlib.Core.List.{List, [], ◌∷◌, ◌++◌}
use Prim.Native.Nat.{ℕ, zero, suc, ◌≤◌, ◌<◌}
use native.Mathlib.Omega.{arith}
use lib.ListN.{length, get_or, length-append, get_or-append, get_or-eq_default}
use lib.Seq.{get_or-append_seam}
use Rattle.math_lists.specs.NumbersBelow.{some}
use Rattle.math_lists.specs.SortedLists.{filter}
use Rattle.math_lists.proofs.Booleans.{clash, same_test, both, and-on}
use Rattle.math_lists.proofs.NumbersBelow.{some-on, some_at, some_same, all_same}
use Rattle.math_lists.proofs.LastBelow.{last}
use Rattle.math_maximal.specs.Groups.{bit, below}
use Rattle.math_maximal.proofs.Bits.{bit-none}
use Rattle.math_maximal.proofs.MaximalSets.{with_cases, with-new}
use Rattle.math_maximal.proofs.Groups.{groups-same}
use Rattle.math_contexts.specs.Box.{Box, disputed, disputed_by}
use Rattle.math_contexts.specs.Contexts.{reach_in}
use Rattle.math_contexts.specs.SameSets.{SameBelow}
use Rattle.math_contexts.specs.Versions.{context_by}
use Rattle.math_contexts.specs.NamedVersions.{conflicts_by, has_list, versions_named, contexts_named}
use Rattle.math_contexts.specs.NamedVersions.{names_none}

-- ---- what it says, where cs are the contexts

module _ (b : Box) (cs : List ℕ) (i j : ℕ) where
  pub named-conflict-at :
      conflicts_by b cs i j ≡ true →
      (x : ℕ) × (y : ℕ) × (x < suc i) × (y < suc j) × (reach_in cs i x ≡ true) × (reach_in cs j y ≡ true)
      × (b.plain x y ≡ true)
  unfolding conflicts_by
  named-conflict-at h =
      let inner : ℕ → Bool = λ x. some (suc j) (λ y. reach_in cs j y && b.plain x y) in
      let (x, l, p) = some_at (suc i) (λ x. reach_in cs i x && inner x) h in
      let (r, q) = both (reach_in cs i x) (inner x) p in
      let (y, m, t) = some_at (suc j) (λ y. reach_in cs j y && b.plain x y) q in
      let (s, e) = both (reach_in cs j y) (b.plain x y) t in
      (x, y, l, m, r, s, e)

  pub named-conflict-on :
      (x y : ℕ) → x < suc i → y < suc j → reach_in cs i x ≡ true → reach_in cs j y ≡ true → b.plain x y ≡ true →
      conflicts_by b cs i j ≡ true
  unfolding conflicts_by
  named-conflict-on x y l m r s e =
      let inner : ℕ → Bool = λ x. some (suc j) (λ y. reach_in cs j y && b.plain x y) in
      some-on (suc i) (λ x. reach_in cs i x && inner x) x l
      (and-on (reach_in cs i x) (inner x) r
      (some-on (suc j) (λ y. reach_in cs j y && b.plain x y) y m
      (and-on (reach_in cs j y) (b.plain x y) s e)))

-- document 01's conflict is a conflict
pub named-plainly : (b : Box) (cs : List ℕ) (i j : ℕ) → b.plain i j ≡ true → conflicts_by b cs i j ≡ true
named-plainly b cs i j e =
    named-conflict-on b cs i j i j (omega arith) (omega arith) (with-new (bit (get_or cs i 0)) i)
    (with-new (bit (get_or cs j 0)) j) e

-- ---- document 01's conflict is symmetric

module _ (b : Box) (cs : List ℕ) (sm : (i j : ℕ) → b.plain i j ≡ b.plain j i) where
  turn : (i j : ℕ) → conflicts_by b cs i j ≡ true → conflicts_by b cs j i ≡ true
  turn i j h =
      let (x, y, l, m, r, s, e) = named-conflict-at b cs i j h in
      named-conflict-on b cs j i y x m l s r (sm y x ∙ e)

  pub named-symmetric : (i j : ℕ) → conflicts_by b cs i j ≡ conflicts_by b cs j i
  named-symmetric i j = same_test (conflicts_by b cs i j) (conflicts_by b cs j i) (turn i j) (turn j i)

-- ---- Sets with no context

-- where the contexts of i and of j are empty, conflict is document 01's
pub named-alone :
    (b : Box) (cs : List ℕ) (i j : ℕ) → get_or cs i 0 ≡ 0 → get_or cs j 0 ≡ 0 → conflicts_by b cs i j ≡ b.plain i j
named-alone b cs i j p q =
    same_test (conflicts_by b cs i j) (b.plain i j)
    (λ h. let (x, y, _, _, r, s, e) = named-conflict-at b cs i j h in
    rw (alone i p x r, alone j q y s) at e)
    (named-plainly b cs i j)
  where
    alone : (i : ℕ) → get_or cs i 0 ≡ 0 → (x : ℕ) → reach_in cs i x ≡ true → x ≡ i
    alone i p x r = elim (with_cases (bit (get_or cs i 0)) i x r) [
      | inl c ↦ clash (rw p at c) (bit-none x)
      | inr e ↦ e
    ]

-- ---- the table of the contexts

pub contexts-named-long : (b : Box) (n : ℕ) → length (contexts_named b n) ≡ n
unfolding contexts_named
contexts-named-long b zero = refl
contexts-named-long b (suc n) =
    omega (
      arith,
      length-append (contexts_named b n) (context_by b (contexts_named b n) n ∷ []),
      contexts-named-long b n,
    )

-- each is worked out from those before it alone
pub contexts-named-at :
    (b : Box) (n i : ℕ) → i < n → get_or (contexts_named b n) i 0 ≡ context_by b (contexts_named b i) i
unfolding contexts_named
contexts-named-at b zero i l = absurd (omega arith)
contexts-named-at b (suc n) i l = go (last l) (contexts-named-at b n i)
  where
    cs : List ℕ
    cs = contexts_named b n

    x : ℕ
    x = context_by b cs n

    go : (i < n) ⊎ (i ≡ n) → (i < n → get_or cs i 0 ≡ context_by b (contexts_named b i) i) →
        get_or (cs ++ (x ∷ [])) i 0 ≡ context_by b (contexts_named b i) i
    go (inl k) ih = get_or-append cs (x ∷ []) 0 i (omega (arith, contexts-named-long b n)) ∙ ih k
    go (inr e) ih =
        rw e (ap (λ (k : ℕ). get_or (cs ++ (x ∷ [])) k 0) (sym (contexts-named-long b n)) ∙ get_or-append_seam cs x [] 0)

-- a plain Set has none, and past the end there is none
pub plain-has-none : (b : Box) (n i : ℕ) → b.limited i ≡ false → i < n → get_or (contexts_named b n) i 0 ≡ 0
plain-has-none b n i e l = contexts-named-at b n i l ∙ rw e

pub none-past : (b : Box) (n i : ℕ) → n ≤ i → get_or (contexts_named b n) i 0 ≡ 0
none-past b n i l = get_or-eq_default (contexts_named b n) 0 (omega (arith, contexts-named-long b n))

-- where no Set is limited, conflict is document 01's
pub named-all-plain :
    (b : Box) (n : ℕ) → ((i : ℕ) → i < n → b.limited i ≡ false) →
    (i j : ℕ) → i < n → j < n → conflicts_by b (contexts_named b n) i j ≡ b.plain i j
named-all-plain b n none i j l m =
    named-alone b (contexts_named b n) i j (plain-has-none b n i (none i l) l) (plain-has-none b n j (none j m) m)

-- ---- later Sets do not matter: boxes that agree on the first n Sets

module _ {b b' : Box} {n : ℕ} (s : SameBelow b b' n) where
  disputed-same : (i j : ℕ) → i < n → j < i → disputed_by b' i j ≡ disputed_by b i j
  unfolding disputed below
  disputed-same i j l k =
      rw (
        s.seens i j l (omega arith),
        some_same i (λ a. b'.seen i a && b'.plain j a) (λ a. b.seen i a && b.plain j a)
            (λ a m. rw (s.seens i a l (omega arith), s.plains j a (omega arith) (omega arith))),
      )

  list_same : (i : ℕ) → i < n → has_list b' i ≡ has_list b i
  unfolding has_list
  list_same i l = fun_ext (λ g.
      all_same i (λ j. beq (b'.named i j) (bit g j && disputed_by b' i j))
      (λ j. beq (b.named i j) (bit g j && disputed_by b i j))
      (λ j k. rw (s.nameds i j l (omega arith), disputed-same i j l k)))

  -- where the contexts of i and j are the same
  conflicts-same :
      (cs cs' : List ℕ) (i j : ℕ) → i < n → j < n → get_or cs' i 0 ≡ get_or cs i 0 → get_or cs' j 0 ≡ get_or cs j 0 →
      conflicts_by b' cs' i j ≡ conflicts_by b cs i j
  unfolding conflicts_by
  conflicts-same cs cs' i j l m p q =
      rw (p, q)
      (some_same (suc i) (λ x. reach_in cs i x && some (suc j) (λ y. reach_in cs j y && b'.plain x y))
      (λ x. reach_in cs i x && some (suc j) (λ y. reach_in cs j y && b.plain x y))
      (λ x k. ap (λ (t : Bool). reach_in cs i x && t)
      (some_same (suc j) (λ y. reach_in cs j y && b'.plain x y) (λ y. reach_in cs j y && b.plain x y)
      (λ y o. rw (s.plains x y (omega arith) (omega arith))))))

  versions-same : (cs : List ℕ) (i : ℕ) → i < n → versions_named b' cs i ≡ versions_named b cs i
  unfolding versions_named
  versions-same cs i l =
      ap₂ (λ (f : ℕ → Bool) (gs : List ℕ). filter f gs) (list_same i l)
      (groups-same (conflicts_by b' cs) (conflicts_by b cs) i (b'.seen i) (b.seen i)
      (λ j k. s.seens i j l (omega arith))
      (λ j k p q. conflicts-same cs cs j k (omega arith) (omega arith) refl refl))

  context-same : (cs : List ℕ) (i : ℕ) → i < n → context_by b' cs i ≡ context_by b cs i
  context-same cs i l = rw (s.limiteds i l, versions-same cs i l)

  contexts-same : (m : ℕ) → m ≤ n → contexts_named b' m ≡ contexts_named b m
  unfolding contexts_named
  contexts-same zero l = refl
  contexts-same (suc m) l =
      rw (contexts-same m (omega arith), context-same (contexts_named b m) m (omega arith))

  pub names-none-later : (i : ℕ) → i < n → names_none b' i ≡ names_none b i
  unfolding names_none
  names-none-later i l =
      rw (s.limiteds i l, contexts-same i (omega arith), versions-same (contexts_named b i) i l)

  -- also where b' has more Sets
  pub named-conflicts-later :
      (m : ℕ) → n ≤ m → (i j : ℕ) → i < n → j < n →
      conflicts_by b' (contexts_named b' m) i j ≡ conflicts_by b (contexts_named b n) i j
  named-conflicts-later m few i j l k =
      conflicts-same (contexts_named b n) (contexts_named b' m) i j l k (held i l) (held j k)
    where
      held : (i : ℕ) → i < n → get_or (contexts_named b' m) i 0 ≡ get_or (contexts_named b n) i 0
      held i l =
          contexts-named-at b' m i (omega arith)
          ∙ rw (contexts-same i (omega arith), context-same (contexts_named b i) i l)
          (sym (contexts-named-at b n i l))
