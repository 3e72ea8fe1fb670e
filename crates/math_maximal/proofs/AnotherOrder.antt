-- The same elements in two orders, xs and ys: an element has one number in each, and where the conflicts by the one
-- number are the conflicts by the other, the groups have the same elements. Assumes that no element stands twice in
-- either order and that `eq` tells the elements apart; d stands for an element past the end.
use mathlib.Core.Path.{◌≡◌, refl, sym, ap}
use mathlib.Core.Bool.{Bool, true, false, ◌&&◌, ◌||◌, cond}
use mathlib.Core.List.{List, [], ◌∷◌}
use Prim.Native.Nat.{ℕ, zero, suc, ◌<◌}
use native.Mathlib.Omega.{arith}
use lib.ListN.{length, get_or}
use Rattle.math_lists.specs.SortedLists.{any, Asc}
use Rattle.math_lists.proofs.Booleans.{clash, both, and-on, or_left, or_right}
use Rattle.math_maximal.specs.MaximalSets.{◌∈◌, ◌⊆◌}
use Rattle.math_maximal.specs.Groups.{bit, below, every, groups}
use Rattle.math_maximal.proofs.MaximalSets.{same_set}
use Rattle.math_maximal.proofs.Groups.{below_at, below_on}
use Rattle.math_maximal.proofs.Renumbered.{Renumbered, image, pulled, bit-image, Keys, as_many, same_keys}

module _ {E : Type 0} (eq : E → E → Bool) where
  -- x is among xs, and its number there
  abbrev pub has : List E → E → Bool
  has xs x = any (eq x) xs

  unfoldable pub place : List E → E → ℕ
  place [] x = 0
  place (y ∷ ys) x = cond (eq x y) 0 (suc (place ys x))

  -- the elements of a group
  unfoldable pub set_of : List E → ℕ → E → Bool
  set_of xs g x = has xs x && bit g (place xs x)

-- no element stands twice
abbrev pub Distinct : {E : Type 0} → E → List E → Type 0
Distinct d xs = (i j : ℕ) → i < length xs → j < length xs → get_or xs i d ≡ get_or xs j d → i ≡ j

-- ---- the number of an element

module _ {E : Type 0} (d : E) (eq : E → E → Bool)
    (eq-on : (x y : E) → eq x y ≡ true → x ≡ y) (eq_self : (x : E) → eq x x ≡ true) where
  place_at : (xs : List E) (x : E) → x ∈ has eq xs → (place eq xs x < length xs) × (get_or xs (place eq xs x) d ≡ x)
  unfolding any place
  place_at [] x h = clash h refl
  place_at (y ∷ ys) x h = go (eq x y) refl h (place_at ys x)
    where
      go : (b : Bool) → eq x y ≡ b → (b || has eq ys x) ≡ true →
          (has eq ys x ≡ true → (place eq ys x < length ys) × (get_or ys (place eq ys x) d ≡ x)) →
          (cond b 0 (suc (place eq ys x)) < length (y ∷ ys)) × (get_or (y ∷ ys) (cond b 0 (suc (place eq ys x))) d ≡ x)
      go true e h ih = (omega arith, sym (eq-on x y e))
      go false e h ih = (omega (arith, (ih h).0), (ih h).1)

  pub has-at : (xs : List E) (i : ℕ) → i < length xs → get_or xs i d ∈ has eq xs
  unfolding any
  has-at [] i l = absurd (omega arith)
  has-at (y ∷ ys) zero l = or_left (eq y y) (has eq ys y) (eq_self y)
  has-at (y ∷ ys) (suc i) l = or_right (eq (get_or ys i d) y) (has eq ys (get_or ys i d)) (has-at ys i (omega arith))

  pub place-of : (xs : List E) → Distinct d xs → (i : ℕ) → i < length xs → place eq xs (get_or xs i d) ≡ i
  place-of xs u i l =
      let (m, e) = place_at xs (get_or xs i d) (has-at xs i l) in
      u (place eq xs (get_or xs i d)) i m l e

  -- ---- the two orders

  module _ (xs ys : List E) (ux : Distinct d xs) (uy : Distinct d ys)
      (sub : has eq ys ⊆ has eq xs) (sup : has eq xs ⊆ has eq ys) where
    -- the number in xs of the element that has the number i in ys; and the other way round
    abbrev pub to : ℕ → ℕ
    to i = place eq xs (get_or ys i d)

    abbrev fro : ℕ → ℕ
    fro j = place eq ys (get_or xs j d)

    pub there : (i : ℕ) → i < length ys → (to i < length xs) × (get_or xs (to i) d ≡ get_or ys i d)
    there i l = place_at xs (get_or ys i d) (sub (get_or ys i d) (has-at ys i l))

    pub here : (j : ℕ) → j < length xs → (fro j < length ys) × (get_or ys (fro j) d ≡ get_or xs j d)
    here j l = place_at ys (get_or xs j d) (sup (get_or xs j d) (has-at xs j l))

    -- a group and its image have the same elements
    same-elements : (g : ℕ) → set_of eq ys (image (length ys) every to g) ≡ set_of eq xs g
    unfolding set_of pulled
    same-elements g =
        same_set
        (λ x h.
        let (y, b) = both (has eq ys x) (bit h' (place eq ys x)) h in
        let (l, t) = both (below n every (place eq ys x)) (bit g (to (place eq ys x))) (rw e at b) in
        and-on (has eq xs x) (bit g (place eq xs x)) (sub x y) (rw (place_at ys x y).1 at t))
        (λ x h.
        let (y, b) = both (has eq xs x) (bit g (place eq xs x)) h in
        let (l, t) = place_at ys x (sup x y) in
        and-on (has eq ys x) (bit h' (place eq ys x)) (sup x y)
        (rw e
        (and-on (below n every (place eq ys x)) (bit g (to (place eq ys x))) (below_on n every (place eq ys x) l refl)
        (rw t b))))
      where
        n : ℕ
        n = length ys

        h' : ℕ
        h' = image n every to g

        e : bit h' ≡ pulled n every to g
        e = bit-image n every to g

    -- ---- c are the conflicts by the numbers in xs, and c' those by the numbers in ys

    module _ (c c' : ℕ → ℕ → Bool)
        (agree : (i j : ℕ) → i < length ys → j < length ys → c' i j ≡ c (to i) (to j)) where
      renumbered : Renumbered c (length xs) every c' (length ys) every to fro
      renumbered = record {
        into = λ i p. below_on (length xs) every (to i) (there i (low ys i p)).0 refl;
        back = λ j p. below_on (length ys) every (fro j) (here j (low xs j p)).0 refl;
        there = λ j p. let l = low xs j p in rw (here j l).1 (place-of xs ux j l);
        again = λ i p. let l = low ys i p in rw (there i l).1 (place-of ys uy i l);
        agree = λ i j p q. agree i j (low ys i p) (low ys j q);
      }
        where
          low : (zs : List E) (i : ℕ) → i ∈ below (length zs) every → i < length zs
          low zs i p = (below_at (length zs) every i p).0

      pub as-many-groups : length (groups c (length xs) every) ≡ length (groups c' (length ys) every)
      as-many-groups = as_many renumbered

      -- the keys of the groups, in their order, are the same list
      pub same-list :
          {K : Type 0} (lt : K → K → Type 0) → ((x : K) → lt x x → ⊥) → ((x y z : K) → lt x y → lt y z → lt x z) →
          (key : (E → Bool) → K) (ks ks' : List K) → Asc lt ks → Asc lt ks' →
          Keys (λ g. key (set_of eq xs g)) (groups c (length xs) every) ks →
          Keys (λ g. key (set_of eq ys g)) (groups c' (length ys) every) ks' → ks ≡ ks'
      same-list lt ir tr key =
          same_keys renumbered lt ir tr (λ g. key (set_of eq xs g)) (λ g. key (set_of eq ys g))
          (λ g e. ap key (same-elements g))
