-- The order of arrival does not matter: the same Sets under other numbers have the same contexts, the same conflicts
-- and the same disputed ones, and the same of them name a version. Assumes nothing beyond `SameSets`.
use mathlib.Core.Path.{◌≡◌, refl, sym, ◌∙◌, ap}
use mathlib.Core.Logic.{◌⊎◌, inl, inr}
use mathlib.Core.Bool.{true, ◌&&◌}
use Prim.Native.Nat.{ℕ, zero, suc, ◌<◌}
use native.Mathlib.Omega.{arith}
use lib.Dec.{eqb}
use borrow.Author.Tests.{eqb-true, eq-eqb}
use Rattle.math_lists.proofs.Booleans.{same_test, both, and-on}
use Rattle.math_lists.proofs.LastBelow.{last}
use Rattle.math_maximal.specs.MaximalSets.{◌∈◌, with}
use Rattle.math_maximal.specs.Groups.{bit, below, every}
use Rattle.math_maximal.proofs.MaximalSets.{Onto, carried}
use Rattle.math_maximal.proofs.Groups.{below_at, below_on}
use Rattle.math_maximal.proofs.Renumbered.{Renumbered}
use Rattle.math_contexts.specs.Box.{Box, seen_by, disputed, disputed_by}
use Rattle.math_contexts.specs.Contexts.{context, reach, conflicts}
use Rattle.math_contexts.specs.Versions.{names_version, Valid, Names}
use Rattle.math_contexts.specs.SameSets.{SameSets}
use Rattle.math_contexts.proofs.ContextMembers.{disputed-at, in-context, context-seen, reach-below}
use Rattle.math_contexts.proofs.ConflictByReach.{conflicts-at, conflicts-on}
use Rattle.math_contexts.proofs.NamesTest.{names_at, names-on}
use Rattle.math_contexts.proofs.SameSetsTurned.{turned, seen-there, seen_back, disputed-there, all_there}

-- ---- one context, where the reach of j is known to be carried over

module _ {b : Box} {n : ℕ} {b' : Box} {m : ℕ} {f q : ℕ → ℕ} (r : SameSets b n b' m f q) where
  in-context-back :
      (i j : ℕ) → i < m → j < m → ((a : ℕ) → a < m → a ∈ reach b' j → f a ∈ reach b (f j)) →
      f j ∈ bit (context b (f i)) → j ∈ bit (context b' i)
  in-context-back i j l k there h =
      let w = (in-context b (f i) (f j)).0 h in
      (in-context b' i j).1 (record {
        limits = r.limiteds i l ∙ w.limits;
        keeps = record {
          inside = seen_back r i j l k w.keeps.inside;
          within = λ a p d.
              let (o, _) = below_at i (b'.seen i) a (disputed-at b' i (b'.seen i) a d).0 in
              let low : a < m = omega arith in
              r.nameds i a l low ∙ w.keeps.within (f a) (there a low p) (disputed-there r i a l d);
        };
      })

  -- a reach is carried over where its context is
  reach-same :
      (j : ℕ) → j < m → ((x : ℕ) → x < m → bit (context b' j) x ≡ bit (context b (f j)) (f x)) →
      (x : ℕ) → x < m → reach b' j x ≡ reach b (f j) (f x)
  unfolding with
  reach-same j k h x l = rw (h x l, same)
    where
      same : eqb x j ≡ eqb (f x) (f j)
      same = same_test (eqb x j) (eqb (f x) (f j))
          (λ e. eq-eqb (f x) (f j) (ap f (eqb-true x j e)))
          (λ e. eq-eqb x j (sym (r.again x l) ∙ ap q (eqb-true (f x) (f j) e) ∙ r.again j k))

-- ---- all contexts, in the order of arrival

module _ {b : Box} {n : ℕ} {b' : Box} {m : ℕ} {f q : ℕ → ℕ} (r : SameSets b n b' m f q) where
  contexts-below :
      (k i : ℕ) → i < k → i < m → (j : ℕ) → j < m → bit (context b' i) j ≡ bit (context b (f i)) (f j)
  contexts-below zero i l o j p = absurd (omega arith)
  contexts-below (suc k) i l o j p = go (last l) (contexts-below k)
    where
      go :
          (i < k) ⊎ (i ≡ k) →
          ((i : ℕ) → i < k → i < m → (j : ℕ) → j < m → bit (context b' i) j ≡ bit (context b (f i)) (f j)) →
          bit (context b' i) j ≡ bit (context b (f i)) (f j)
      go (inl t) ih = ih i t o j p
      go (inr e) ih =
          same_test (bit (context b' i) j) (bit (context b (f i)) (f j))
          (λ h. in-context-back (turned r) (f i) (f j) (r.into i o) (r.into j p)
          (λ a u s. rw (r.again j p)
          (reached (context-seen b' i j h) (q a) (r.back a u) ∙ rw (r.there a u) s))
          (rw (r.again i o, r.again j p) h))
          (λ h. in-context-back r i j o p
          (λ a u s. sym (reached (seen_back r i j o p (context-seen b (f i) (f j) h)) a u) ∙ s) h)
        where
          reached : j ∈ seen_by b' i → (x : ℕ) → x < m → reach b' j x ≡ reach b (f j) (f x)
          reached s x u =
              let (v, _) = below_at i (b'.seen i) j s in
              reach-same r j p (ih j (omega arith) p) x u

  -- contexts are the same, member for member
  pub contexts-any-order : (i j : ℕ) → i < m → j < m → bit (context b' i) j ≡ bit (context b (f i)) (f j)
  contexts-any-order i j l k = contexts-below (suc i) i (omega arith) l j k

  reach-any-order : (i j : ℕ) → i < m → j < m → reach b' i j ≡ reach b (f i) (f j)
  reach-any-order i j l k = reach-same r i l (λ x u. contexts-any-order i x l u) j k

-- ---- conflicts

conflicts-there :
    {b : Box} {n : ℕ} {b' : Box} {m : ℕ} {f q : ℕ → ℕ} → SameSets b n b' m f q →
    (i j : ℕ) → i < m → j < m → conflicts b' i j ≡ true → conflicts b (f i) (f j) ≡ true
conflicts-there {b} {n} {b'} {m} {f} {q} r i j l k h =
    let (x, y, s, t, e) = conflicts-at b' i j h in
    let lx : x < m = omega (arith, reach-below b' i x s) in
    let ly : y < m = omega (arith, reach-below b' j y t) in
    conflicts-on b (f i) (f j) (f x) (f y)
    (sym (reach-any-order r i x l lx) ∙ s) (sym (reach-any-order r j y k ly) ∙ t) (sym (r.plains x y lx ly) ∙ e)

module _ {b : Box} {n : ℕ} {b' : Box} {m : ℕ} {f q : ℕ → ℕ} (r : SameSets b n b' m f q) where
  pub conflicts-any-order : (i j : ℕ) → i < m → j < m → conflicts b' i j ≡ conflicts b (f i) (f j)
  conflicts-any-order i j l k =
      same_test (conflicts b' i j) (conflicts b (f i) (f j)) (conflicts-there r i j l k)
      (λ h. rw (r.again i l, r.again j k) at (conflicts-there (turned r) (f i) (f j) (r.into i l) (r.into j k) h))

  -- so the groups are the same: `as_many` and `same_keys` of `math_maximal` take this
  pub renumbered : Renumbered (conflicts b) n every (conflicts b') m every f q
  renumbered = record {
    into = λ i s. below_on n every (f i) (r.into i (low m i s)) refl;
    back = λ j s. below_on m every (q j) (r.back j (low n j s)) refl;
    there = λ j s. r.there j (low n j s);
    again = λ i s. r.again i (low m i s);
    agree = λ i j s t. conflicts-any-order i j (low m i s) (low m j t);
  }
    where
      low : (k i : ℕ) → i ∈ below k every → i < k
      low k i s = (below_at k every i s).0

  -- the disputed ones, of which identifiers are made
  pub disputed-any-order : (i : ℕ) → i < m → disputed b' m every i ≡ disputed b n every (f i)
  disputed-any-order i l =
      same_test (disputed b' m every i) (disputed b n every (f i)) (all_there r i)
      (λ d. rw (r.again i l) at (all_there (turned r) (f i) d))

-- ---- answer 16

names-back :
    {b : Box} {n : ℕ} {b' : Box} {m : ℕ} {f q : ℕ → ℕ} → SameSets b n b' m f q →
    (i : ℕ) → i < m → names_version b (f i) ≡ true → names_version b' i ≡ true
names-back {b} {n} {b'} {m} {f} {q} r i l h =
    names-on b' i (λ t. over (names_at b (f i) h (sym (r.limiteds i l) ∙ t)))
  where
    low : (j : ℕ) → j ∈ seen_by b' i → j < m
    low j s = let (o, _) = below_at i (b'.seen i) j s in omega arith

    onto : Onto (conflicts b) (seen_by b (f i)) (conflicts b') (seen_by b' i) f
    onto = record {
      into = λ j s. seen-there r i j l s;
      onto = λ a s.
          let (o, _) = below_at (f i) (b.seen (f i)) a s in
          let la : a < n = omega (arith, r.into i l) in
          (q a, seen_back r i (q a) l (r.back a la) (rw (r.there a la) s), r.there a la);
      agree = λ j k s t. conflicts-any-order r j k (low j s) (low k t);
    }

    listed :
        Names b (f i) → (j : ℕ) → j < i → b'.named i j ≡ true → (bit (context b' i) j && disputed_by b' i j) ≡ true
    listed w j k e =
        let lj : j < m = omega arith in
        let (c, d) = both (bit (context b (f i)) (f j)) (disputed_by b (f i) (f j))
        (sym (w.exact (f j) ((r.named_order i j l lj e).0 k)) ∙ sym (r.nameds i j l lj) ∙ e) in
        and-on (bit (context b' i) j) (disputed_by b' i j) (contexts-any-order r i j l lj ∙ c)
        (rw (r.again i l, r.again j lj) at (disputed-there (turned r) (f i) (f j) (r.into i l) d))

    lists :
        Names b (f i) → (j : ℕ) → j < i → (bit (context b' i) j && disputed_by b' i j) ≡ true → b'.named i j ≡ true
    lists w j k e =
        let lj : j < m = omega arith in
        let (c, d) = both (bit (context b' i) j) (disputed_by b' i j) e in
        let d' = disputed-there r i j l d in
        let (o, _) = below_at (f i) (b.seen (f i)) (f j) (disputed-at b (f i) (b.seen (f i)) (f j) d').0 in
        r.nameds i j l lj ∙ w.exact (f j) o
        ∙ and-on (bit (context b (f i)) (f j)) (disputed_by b (f i) (f j)) (sym (contexts-any-order r i j l lj) ∙ c) d'

    over : Names b (f i) → Names b' i
    over w = record {
      group = carried onto (context-seen b' i) (λ j s. contexts-any-order r i j l (low j s)) w.group;
      exact = λ j k.
          same_test (b'.named i j) (bit (context b' i) j && disputed_by b' i j) (listed w j k) (lists w j k);
    }

pub names-any-order :
    {b : Box} {n : ℕ} {b' : Box} {m : ℕ} {f q : ℕ → ℕ} → SameSets b n b' m f q →
    (i : ℕ) → i < m → names_version b' i ≡ names_version b (f i)
names-any-order {b} {n} {b'} {m} {f} {q} r i l =
    same_test (names_version b' i) (names_version b (f i))
    (λ h. names-back (turned r) (f i) (r.into i l) (rw (r.again i l) h))
    (names-back r i l)

pub valid-any-order :
    {b : Box} {n : ℕ} {b' : Box} {m : ℕ} {f q : ℕ → ℕ} → SameSets b n b' m f q → Valid b n → Valid b' m
valid-any-order {f = f} r valid i l = names-any-order r i l ∙ valid (f i) (r.into i l)
