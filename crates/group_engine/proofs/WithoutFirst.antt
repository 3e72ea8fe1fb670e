-- A number without its first member. Assumes nothing.
use mathlib.Core.Path.{◌≡◌, sym, ◌∙◌}
use mathlib.Core.Bool.{true}
use Prim.Native.Nat.{ℕ, ◌-◌, ◌<◌}
use native.Mathlib.Omega.{arith}
use lib.Bits.{bit_and, and_comm, and_le_l}
use Rattle.math_lists.proofs.Booleans.{both}
use Rattle.math_maximal.specs.Groups.{bit}
use Rattle.math_maximal.proofs.Bits.{bit-and}

pub fewer : (m : ℕ) → 0 < m → bit_and m (m - 1) < m
fewer m l = omega (arith, and_le_l (m - 1) m, and_comm m (m - 1))

pub still-member : (m x i : ℕ) → bit (bit_and m x) i ≡ true → bit m i ≡ true
still-member m x i b = (both (bit m i) (bit x i) (sym (bit-and m x i) ∙ b)).0
