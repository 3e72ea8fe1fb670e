-- The value of the last of some edits is the same in any order of them. Two edits that tie in the total order are told
-- apart by value, so this asks nothing of the edits. Assumes nothing.
use mathlib.Core.Path.{◌≡◌, refl, sym, ap, ◌∙◌}
use mathlib.Core.Bool.{Bool, true, false, cond}
use mathlib.Core.List.{List, [], ◌∷◌, map}
use Prim.Native.Nat.{ℕ, ◌<◌}
use native.Mathlib.Omega.{arith}
use native.Mathlib.Decide.{dec_lt}
use borrow.Author.Tests.{lt-ltb, le-ltb, eq-eqb, ne_eqb}
use lib.ListN.{length, get_or}
use Rattle.math_lists.proofs.Booleans.{clash}
use Rattle.edit_record.specs.declared.Edit.{Edit}
use Rattle.edit_causal.specs.TotalOrder.{vector_sum}
use Rattle.math_lists.specs.Rearranged.{Rearranged, none, skip, swap, then}
use Rattle.list_version.specs.Values.{stands_before, later, last_after}
use Rattle.list_version.specs.VersionOrder.{lex}
use Rattle.list_version.proofs.ListsCompared.{lex-last, before-through, lex-irreflexive, lex-neither}
use Rattle.list_version.proofs.ListsCompared.{not-before-through}

-- where an edit stands: its rank in the total order, then its value
abbrev pub standing : Edit → List ℕ
standing e = vector_sum e.vector ∷ e.site.0 ∷ e.value ∷ []

stands-as : (a b : Edit) → stands_before a b ≡ lex false (standing a) (standing b)
unfolding lex
stands-as a b = go (dec_lt m n) (dec_lt n m) (dec_lt s t) (dec_lt t s)
  where
    m : ℕ
    m = vector_sum a.vector

    n : ℕ
    n = vector_sum b.vector

    s : ℕ
    s = a.site.0

    t : ℕ
    t = b.site.0

    go : Dec (m < n) → Dec (n < m) → Dec (s < t) → Dec (t < s) →
        stands_before a b ≡ lex false (standing a) (standing b)
    go (yes l) p q r = rw (lt-ltb m n l)
    go (no l) (yes p) q r = rw (le-ltb m n (omega arith), ne_eqb m n (λ e. omega arith), lt-ltb n m p)
    go (no l) (no p) (yes q) r = rw (le-ltb m n (omega arith), eq-eqb m n (omega arith), lt-ltb s t q)
    go (no l) (no p) (no q) (yes r) =
        rw (
          le-ltb m n (omega arith),
          le-ltb n m (omega arith),
          eq-eqb m n (omega arith),
          eq-eqb n m (omega arith),
          le-ltb s t (omega arith),
          ne_eqb s t (λ e. omega arith),
          lt-ltb t s r,
        )
    go (no l) (no p) (no q) (no r) =
        rw (
          le-ltb m n (omega arith),
          le-ltb n m (omega arith),
          eq-eqb m n (omega arith),
          eq-eqb n m (omega arith),
          le-ltb s t (omega arith),
          le-ltb t s (omega arith),
          eq-eqb s t (omega arith),
        )
        (lex-last a.value b.value)

-- ---- the later of two, as the lists say

later_of : List ℕ → List ℕ → List ℕ
later_of x y = cond (lex false x y) y x

both_ways : (x y : List ℕ) → later_of x y ≡ later_of y x
unfolding later_of
both_ways x y = go (lex false x y) refl (lex false y x) refl
  where
    go : (a : Bool) → lex false x y ≡ a → (b : Bool) → lex false y x ≡ b → cond a y x ≡ cond b x y
    go true p true q = clash (before-through x y x p q) (lex-irreflexive x)
    go true p false q = refl
    go false p true q = refl
    go false p false q = lex-neither x y p q

in-turn : (x y z : List ℕ) → later_of (later_of x y) z ≡ later_of x (later_of y z)
unfolding later_of
in-turn x y z = go (lex false x y) refl (lex false y z) refl
  where
    go : (a : Bool) → lex false x y ≡ a → (b : Bool) → lex false y z ≡ b →
        cond (lex false (cond a y x) z) z (cond a y x) ≡ cond (lex false x (cond b z y)) (cond b z y) x
    go true p true q = rw (q, before-through x y z p q)
    go true p false q = rw (q, p)
    go false p true q = refl
    go false p false q = rw (not-before-through x y z p q, p)

turned : (x y z : List ℕ) → later_of (later_of x y) z ≡ later_of (later_of x z) y
turned x y z = in-turn x y z ∙ ap (later_of x) (both_ways y z) ∙ sym (in-turn x z y)

-- ---- the last of some, in any order

later-stands : (e x : Edit) (es : List Edit) →
    map standing (later (e ∷ es) x) ≡ later_of (standing e) (standing x) ∷ []
unfolding later later_of
later-stands e x es = rw (stands-as e x) (go (lex false (standing e) (standing x)))
  where
    go : (b : Bool) → map standing (cond b (x ∷ []) (e ∷ [])) ≡ cond b (standing x) (standing e) ∷ []
    go true = refl
    go false = refl

-- only where the passed ones stand counts
same-passed :
    (p q xs : List Edit) → map standing p ≡ map standing q → map standing (last_after p xs) ≡ map standing
    (last_after q xs)
unfolding last_after
same-passed p q [] e = e
same-passed p q (x ∷ xs) e = same-passed (later p x) (later q x) xs (one p q e)
  where
    one : (p q : List Edit) → map standing p ≡ map standing q → map standing (later p x) ≡ map standing (later q x)
    one [] [] e = refl
    one [] (b ∷ q) e = absurd (omega (arith, ap length e))
    one (a ∷ p) [] e = absurd (omega (arith, ap length e))
    one (a ∷ p) (b ∷ q) e =
        later-stands a x p
        ∙ ap (λ (z : List ℕ). later_of z (standing x) ∷ []) (ap (λ (l : List (List ℕ)). get_or l 0 []) e)
        ∙ sym (later-stands b x q)

pub last-stands :
    {xs ys : List Edit} → Rearranged xs ys → (p : List Edit) →
    map standing (last_after p xs) ≡ map standing (last_after p ys)
unfolding last_after
last-stands none p = refl
last-stands (skip {x} r) p = last-stands r (later p x)
last-stands (swap {x} {y} {xs}) p = same-passed (later (later p x) y) (later (later p y) x) xs (go p)
  where
    go : (p : List Edit) → map standing (later (later p x) y) ≡ map standing (later (later p y) x)
    go [] =
        unfold later in
        later-stands x y [] ∙ ap (λ (z : List ℕ). z ∷ []) (both_ways (standing x) (standing y))
        ∙ sym (later-stands y x [])
    go (e ∷ es) = two e es x y ∙ ap (λ (z : List ℕ). z ∷ []) (turned (standing e) (standing x) (standing y))
        ∙ sym (two e es y x)
      where
        two : (e : Edit) (es : List Edit) (x y : Edit) →
            map standing (later (later (e ∷ es) x) y)
            ≡ later_of (later_of (standing e) (standing x)) (standing y) ∷ []
        two e es x y = step (later (e ∷ es) x) (later-stands e x es)
          where
            step : (p : List Edit) → map standing p ≡ later_of (standing e) (standing x) ∷ [] →
                map standing (later p y) ≡ later_of (later_of (standing e) (standing x)) (standing y) ∷ []
            step [] h = absurd (omega (arith, ap length h))
            step (a ∷ rest) h =
                later-stands a y rest
                ∙ ap (λ (z : List ℕ). later_of z (standing y) ∷ []) (ap (λ (l : List (List ℕ)). get_or l 0 []) h)
last-stands (then r s) p = last-stands r p ∙ last-stands s p
