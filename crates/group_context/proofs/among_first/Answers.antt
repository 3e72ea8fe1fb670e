-- `group_context::among_first` meets its contract: the first n bits are kept. Assumes nothing.
use mathlib.Core.Path.{◌≡◌, refl, subst, ◌∙◌}
use Prim.Native.Nat.{ℕ, ◌-◌, ◌^◌, ◌<◌}
use native.Mathlib.Omega.{arith}
use lib.Bits.{mask_lt}
use lib.Pow.{pow_pos}
use Rattle.math_lists.proofs.Booleans.{and-true}
use Rattle.math_maximal.specs.Groups.{bit}
use Rattle.math_maximal.proofs.Bits.{bit-and}
use Rattle.group_context.proofs.MaskFromBits.{first-bits}
use Rattle.group_context.proofs.among_first.Goals as goal

pub overflow_sub-result : goal.overflow_sub-result
overflow_sub-result c = omega (arith, c.only.ensures, pow_pos c.args.n)

pub returns-then-n-lt-SETS : goal.returns-then-n-lt-SETS
returns-then-n-lt-SETS c =
    let a = c.args in
    rw c.only.ensures (
      mask_lt a.g a.n,
      λ j l. bit-and a.g (2 ^ a.n - 1) j
          ∙ rw ((first-bits a.n (2 ^ a.n - 1) refl).1 j l) (and-true (bit a.g j)),
    )

pub returns : goal.returns
returns c =
    let s = c in
    let full : 64 ≡ s.args.n = omega (arith, c.if-n-lt-SETS.false, s.requires) in
    (subst (λ (x : ℕ). s.args.g < 2 ^ x) full s.ranges.g.fits, λ j l. refl)
