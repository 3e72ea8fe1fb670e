-- The numbers from j on that pass, of d numbers, ascending: with those below j they are all below j + d that pass.
-- Assumes nothing.
use mathlib.Core.Path.{◌≡◌, refl, sym, ap, ◌∙◌}
use mathlib.Core.Bool.{Bool, true, false, cond}
use mathlib.Core.List.{List, [], ◌∷◌, ◌++◌, append-nil, append_assoc}
use Prim.Native.Nat.{ℕ, zero, suc, ◌+◌, ◌-◌, ◌<◌}
use native.Mathlib.Omega.{arith}
use Rattle.math_lists.specs.NumbersBelow.{keep}

unfoldable pub from : (ℕ → Bool) → ℕ → ℕ → List ℕ
from f j zero = []
from f j (suc d) = cond (f j) (j ∷ from f (suc j) d) (from f (suc j) d)

-- all numbers of a list are above a
abbrev pub Above : ℕ → List ℕ → Type 0
Above a [] = Unit {0}
Above a (y ∷ l) = (a < y) × Above a l

pub from-above : (f : ℕ → Bool) (a j d : ℕ) → a < j → Above a (from f j d)
unfolding from
from-above f a j zero h = tt
from-above f a j (suc d) h = go (f j) (from-above f a (suc j) d (omega arith))
  where
    go : (b : Bool) → Above a (from f (suc j) d) → Above a (cond b (j ∷ from f (suc j) d) (from f (suc j) d))
    go true w = (h, w)
    go false w = w

-- those below j, and those from there on
both-parts : (f : ℕ → Bool) (j d : ℕ) → keep j f ++ from f j d ≡ keep (j + d) f
unfolding from keep
both-parts f j zero =
    let e : j ≡ j + 0 = omega arith in
    append-nil (keep j f) ∙ ap (λ (n : ℕ). keep n f) e
both-parts f j (suc d) =
    let e : suc j + d ≡ j + suc d = omega arith in
    go (f j) ∙ sym (append_assoc (keep j f) (cond (f j) (j ∷ []) []) (from f (suc j) d))
    ∙ both-parts f (suc j) d ∙ ap (λ (n : ℕ). keep n f) e
  where
    go : (b : Bool) →
        keep j f ++ cond b (j ∷ from f (suc j) d) (from f (suc j) d)
        ≡ keep j f ++ (cond b (j ∷ []) [] ++ from f (suc j) d)
    go true = refl
    go false = refl

pub from_first : (f : ℕ → Bool) (n : ℕ) → from f 0 n ≡ keep n f
unfolding keep
from_first f n =
    let e : 0 + n ≡ n = omega arith in
    both-parts f 0 n ∙ ap (λ (m : ℕ). keep m f) e

-- one number more in front, of those below n
module _ (f : ℕ → Bool) (j n : ℕ) (l : j < n) where
  from_next : from f j (n - j) ≡ cond (f j) (j ∷ from f (j + 1) (n - (j + 1))) (from f (j + 1) (n - (j + 1)))
  unfolding from
  from_next =
      let e : n - j ≡ suc (n - (j + 1)) = omega arith in
      let s : j + 1 ≡ suc j = omega arith in
      rw (e, s)

  pub from_more : f j ≡ true → from f j (n - j) ≡ j ∷ from f (j + 1) (n - (j + 1))
  from_more h = from_next ∙ rw h

  pub from-same : f j ≡ false → from f j (n - j) ≡ from f (j + 1) (n - (j + 1))
  from-same h = from_next ∙ rw h

pub from-none : (f : ℕ → Bool) (n : ℕ) → from f n (n - n) ≡ []
unfolding from
from-none f n = let e : n - n ≡ 0 = omega arith in rw e
