-- The numbers below a bound: the last of them apart, and all of them in rows. Assumes nothing.
use mathlib.Core.Path.{◌≡◌, subst}
use mathlib.Core.Logic.{◌⊎◌, inl, inr}
use Prim.Native.Nat.{ℕ, zero, suc, ◌+◌, ◌-◌, ◌*◌, ◌<◌}
use native.Mathlib.Omega.{arith}
use native.Mathlib.Decide.{ℕ_discrete, dec_lt}
use native.Mathlib.Nat.{suc-mul}

pub last : {i n : ℕ} → i < suc n → (i < n) ⊎ (i ≡ n)
last {i} {n} l = elim (ℕ_discrete i n) [ yes e ↦ inr e | no d ↦ inl (omega arith) ]

-- a number below m rows of w has its row and its place there
pub by_rows :
    (w m : ℕ) (P : ℕ → Type 0) → ((o j : ℕ) → o < m → j < w → P (o * w + j)) → (i : ℕ) → i < m * w → P i
by_rows w zero P h i l = absurd (omega (arith, l))
by_rows w (suc m) P h i l =
    let more : suc m * w ≡ m * w + w = suc-mul m w in
    elim (dec_lt i (m * w)) [
      | yes k ↦ by_rows w m P (λ o j a b. h o j (omega arith) b) i k
      | no k ↦
          (let e : m * w + (i - m * w) ≡ i = omega arith in
          subst P e (h m (i - m * w) (omega arith) (omega arith)))
    ]
